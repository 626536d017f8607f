-- Operands that are put behind others.
use Rattle.std.proofs.Common.{◌≡◌, ℕ, ◌+◌, ◌<◌, List, [], ◌∷◌, ◌++◌, Option, Some, None, get_or, length, map, take, refl, ap, sym, ◌∙◌, append_assoc}
use Rattle.std.proofs.lemmas.List.{append-nil, map-append, map_more, take_more}
use Rattle.js_tree.specs.declared.node.Entry.{Entry}
use Rattle.js_tree.specs.declared.node.NodeId.{NodeId}
use Rattle.js_term.specs.ArenaOperands.{as_operands, elements_there, returned_nodes, values_of_entries}
use Rattle.js_term.specs.Evaluation.{Evaluation, and_then}
use Rattle.js_term.specs.declared.operands.Operand.{Operand}
use Rattle.js_term.specs.declared.operands.Operand.TheVariants as operand

abbrev with_todo : Evaluation → List Operand → Evaluation
with_todo e xs = record { done = e.done; todo = xs }

pub none_more : (e : Evaluation) → and_then [] e ≡ e
none_more e = ap (with_todo e) (append-nil e.todo)

-- some, and then others
pub twice : (xs ys : List Operand) (e : Evaluation) → and_then ys (and_then xs e) ≡ and_then (xs ++ ys) e
twice xs ys e = ap (with_todo e) (append_assoc e.todo xs ys)

stepped : (ids more all : List NodeId) (e o : Evaluation) → all ≡ ids ++ more → o ≡ and_then (as_operands ids) e
    → and_then (as_operands more) o ≡ and_then (as_operands all) e
stepped ids more all e o is so_far =
    ap (and_then (as_operands more)) so_far
    ∙ (twice (as_operands ids) (as_operands more) e
    ∙ ap (λ xs. and_then xs e) (sym (map-append operand.Node ids more) ∙ ap as_operands (sym is)))

pub nodes_stepped : (ids : List NodeId) (i : ℕ) (d : NodeId) (e o : Evaluation) → i < length ids → o ≡ and_then (as_operands (take i ids)) e
    → and_then (as_operands (get_or ids i d ∷ [])) o ≡ and_then (as_operands (take (i + 1) ids)) e
nodes_stepped ids i d e o l so_far = stepped (take i ids) (get_or ids i d ∷ []) (take (i + 1) ids) e o (take_more ids i d l) so_far

elements-append : (es : List (Option NodeId)) (o : Option NodeId) → elements_there (es ++ o ∷ []) ≡ elements_there es ++ returned_nodes o
elements-append [] None = refl
elements-append [] (Some id) = refl
elements-append (None ∷ es) o = elements-append es o
elements-append (Some id ∷ es) o = ap (λ ids. id ∷ ids) (elements-append es o)

pub elements_stepped : (es : List (Option NodeId)) (i : ℕ) (d : Option NodeId) (e o : Evaluation) → i < length es
    → o ≡ and_then (as_operands (elements_there (take i es))) e
    → and_then (as_operands (returned_nodes (get_or es i d))) o ≡ and_then (as_operands (elements_there (take (i + 1) es))) e
elements_stepped es i d e o l so_far =
    stepped (elements_there (take i es)) (returned_nodes (get_or es i d)) (elements_there (take (i + 1) es)) e o
    (ap elements_there (take_more es i d l) ∙ elements-append (take i es) (get_or es i d)) so_far

entries-append : (es : List Entry) (x : Entry) → values_of_entries (es ++ x ∷ []) ≡ values_of_entries es ++ x.value ∷ []
entries-append [] x = refl
entries-append (y ∷ es) x = ap (λ ids. y.value ∷ ids) (entries-append es x)

pub entries_stepped : (es : List Entry) (i : ℕ) (x : Entry) (e o : Evaluation) → i < length es → x ≡ get_or es i x
    → o ≡ and_then (as_operands (values_of_entries (take i es))) e
    → and_then (as_operands (x.value ∷ [])) o ≡ and_then (as_operands (values_of_entries (take (i + 1) es))) e
entries_stepped es i x e o l is so_far =
    stepped (values_of_entries (take i es)) (x.value ∷ []) (values_of_entries (take (i + 1) es)) e o
    (ap values_of_entries (take_more es i x l ∙ ap (λ y. take i es ++ y ∷ []) (sym is)) ∙ entries-append (take i es) x) so_far
