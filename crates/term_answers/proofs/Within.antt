-- Lists of nodes that grow name what is there.
use Rattle.std.proofs.Common.{ℕ, ◌+◌, ◌<◌, List, [], ◌∷◌, ◌++◌, Option, get_or, length, take, sym, subst}
use Rattle.std.proofs.lemmas.List.{take_more}
use Rattle.js_tree.specs.declared.node.NodeId.{NodeId}
use Rattle.js_tree.specs.Arena.{IsWithin}
use Rattle.js_tree.specs.Trees.{elements, perhaps}

elements-append : (n b : ℕ) (ids : List (Option NodeId)) (id : Option NodeId) → IsWithin n b (elements ids) → IsWithin n b (perhaps id)
    → IsWithin n b (elements (ids ++ id ∷ []))
elements-append n b [] id w l = (l, tt)
elements-append n b (i ∷ ids) id w l = (w.0, elements-append n b ids id w.1 l)

pub elements_more : (n b : ℕ) (ids : List (Option NodeId)) (i : ℕ) (d : Option NodeId) → i < length ids → IsWithin n b (elements (take i ids))
    → IsWithin n b (perhaps (get_or ids i d)) → IsWithin n b (elements (take (i + 1) ids))
elements_more n b ids i d l w here =
    subst (λ xs. IsWithin n b (elements xs)) (sym (take_more ids i d l)) (elements-append n b (take i ids) (get_or ids i d) w here)
