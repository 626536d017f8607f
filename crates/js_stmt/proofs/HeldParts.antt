-- Each part is held by some arena: what holds of a move in every arena that holds its row's parts
-- holds in one.
use Rattle.std.proofs.Common.{◌≡◌, ℕ, zero, suc, ◌+◌, ◌<◌, ◌≤◌, List, [], ◌∷◌, Some, None, true}
use Rattle.std.proofs.Common.{slice_get, refl, ap, arith}
use Rattle.js_value.specs.declared.value.Value.TheVariants.{Undefined}
use Rattle.js_term.specs.declared.context.Context.{Context}
use Rattle.js_tree.specs.Arena.{Arena}
use Rattle.js_tree.specs.TreeAt.{body_at, node_to, node_with, opened}
use Rattle.js_tree.specs.Trees.{Part}
use Rattle.js_tree.specs.declared.node.Node.TheVariants as node
use Rattle.js_tree.specs.declared.script.Kept.{Kept}
use Rattle.js_stmt.specs.Parts.{IsHeld, is_node}

abbrev empty_node : Kept
empty_node = record { node = node.Empty; from = 0; to = 0 }

abbrev pub empty_nodes : ℕ → List Kept
empty_nodes zero = []
empty_nodes (suc n) = empty_node ∷ empty_nodes n

-- so many empty statements
abbrev pub wide : ℕ → Arena
wide n = record { kept = empty_nodes n; pending = []; filled = [] }

nodes_at : (n i : ℕ) → i < n → slice_get (empty_nodes n) i ≡ Some empty_node
nodes_at zero i l = absurd (omega (arith, l))
nodes_at (suc n) zero l = refl
nodes_at (suc n) (suc i) l = nodes_at n i (omega (arith, l))

node_there : (n i : ℕ) → i < n
    → is_node (node_with (empty_nodes n) (body_at (wide n)) i) ≡ true
unfolding node_with
node_there n i l =
    ap (λ o. is_node (opened (node_to (empty_nodes n) (body_at (wide n)) i) (body_at (wide n)) o))
    (nodes_at n i l)

-- behind the nodes that a part names
abbrev pub parts_end : Part → ℕ
parts_end (Part.At i) = i + 1
parts_end (Part.Cons p q) = parts_end p + parts_end q
parts_end p = 0

held_to : (n : ℕ) (p : Part) → parts_end p ≤ n → IsHeld (wide n) p
held_to n (Part.At i) l = node_there n i (omega (arith, l))
held_to n (Part.Body k) l = tt
held_to n (Part.Word u) l = tt
held_to n Part.Missing l = tt
held_to n Part.Nil l = tt
held_to n (Part.Cons p q) l = (held_to n p (omega (arith, l)), held_to n q (omega (arith, l)))

abbrev pub arena_of : Part → Arena
arena_of p = wide (parts_end p)

pub held_in : (p : Part) → IsHeld (arena_of p) p
held_in p = held_to (parts_end p) p (omega arith)

-- some context
abbrev pub outermost : Context
outermost = record { text = 0; scope = None; this = Undefined }
