-- A body that is filled is the tree of its node.
use Rattle.std.proofs.Common.{◌≡◌, ℕ, ◌<◌, Some, length, slice_get}
use Rattle.std.proofs.Common.{sym, ◌∙◌, subst, arith}
use Rattle.std.proofs.lemmas.Option.{slice_get_within}
use Rattle.js_tree.proofs.Computed.{body_computed, part_computed}
use Rattle.js_tree.proofs.Held.{one_tree}
use Rattle.js_tree.specs.Arena.{Arena, Filled, IsOrdered, IsWithin}
use Rattle.js_tree.specs.TreeAt.{body_at, tree_at}
use Rattle.js_tree.specs.Trees.{Holds, Part, Tree, parts}
use Rattle.js_tree.specs.declared.node.NodeId.{NodeId}

module _ (a : Arena) (ordered : IsOrdered a) (bodies more : ℕ → Tree)
    (same : (k : ℕ) → k < length a.pending → more k ≡ bodies k) where
  -- the same is held where the bodies that are there are the same
  held_by : (n : ℕ) (p : Part) (t : Tree) → IsWithin n (length a.pending) p
      → Holds bodies a.kept p t → Holds more a.kept p t
  held_by n (Part.At i) (Tree.Made q u v ts) w h =
      (h.0, h.1, h.2, h.3, h.4, held_by i (parts h.0.node) ts (ordered.nodes i h.0 h.1) h.5)
  held_by n (Part.Body k) t w h = same k w ∙ h
  held_by n (Part.Word x) (Tree.Word y) w h = h
  held_by n Part.Missing Tree.Missing w h = tt
  held_by n Part.Nil Tree.Nil w h = tt
  held_by n (Part.Cons p q) (Tree.Cons t u) w h =
      (held_by n p t w.0 h.0, held_by n q u w.1 h.1)
  held_by n p t w h = absurd h

pub body_read : (bodies : ℕ → Tree) (a : Arena) → IsOrdered a → Filled a bodies → (k : ℕ)
    (id : NodeId) → slice_get a.filled k ≡ Some (Some id) → body_at a k ≡ tree_at a id
body_read bodies a ordered filled k id at =
    let among : k < length a.filled = slice_get_within a.filled k (Some id) at in
    let even = ordered.as_many in
    let few : k < length a.pending = omega (arith, among, even) in
    let same = λ (j : ℕ) (l : j < length a.pending). body_computed bodies a ordered filled j l in
    let found = filled k few in
    let one : Some (Some found.0) ≡ Some (Some id) = sym found.1 ∙ at in
    let number : found.0 ≡ id = cc in
    let within : id.number < length a.kept = ordered.bodies k id at in
    let held : Holds bodies a.kept (Part.At id.number) (bodies k) =
    subst (λ (i : NodeId). Holds bodies a.kept (Part.At i.number) (bodies k)) number found.2 in
    same k few
    ∙ one_tree (body_at a) a.kept (Part.At id.number) (bodies k) (tree_at a id)
    (held_by a ordered bodies (body_at a) same (length a.kept) (Part.At id.number) (bodies k) within
    held)
    (part_computed (body_at a) a ordered (Part.At id.number) within)
