-- The tree that an arena holds at a node, as a function.
use Rattle.std.specs.Prelude.{ℕ, zero, suc, ◌-◌, List, length, Option, Some, None, slice_get}
use Rattle.js_tree.specs.declared.node.NodeId.{NodeId}
use Rattle.js_tree.specs.declared.script.Kept.{Kept}
use Rattle.js_tree.specs.Trees.{Tree, Part, parts, production_of}
use Rattle.js_tree.specs.Arena.{Arena, function_at}

-- the tree of a part, where these are the trees of nodes and of bodies
abbrev pub part_of : (ℕ → Tree) → (ℕ → Tree) → Part → Tree
part_of nodes bodies (Part.At i) = nodes i
part_of nodes bodies (Part.Body k) = bodies k
part_of nodes bodies (Part.Word u) = Tree.Word u
part_of nodes bodies Part.Missing = Tree.Missing
part_of nodes bodies Part.Nil = Tree.Nil
part_of nodes bodies (Part.Cons p q) = Tree.Cons (part_of nodes bodies p) (part_of nodes bodies q)

-- a node that isn't there is Missing
abbrev pub opened : (ℕ → Tree) → (ℕ → Tree) → Option Kept → Tree
opened nodes bodies None = Tree.Missing
opened nodes bodies (Some k) = Tree.Made (production_of k.node) k.from k.to (part_of nodes bodies (parts k.node))

-- the tree of a node of which so many levels are looked at; a node's parts stand before it, so that its number is levels enough
abbrev pub node_to : List Kept → (ℕ → Tree) → ℕ → ℕ → Tree
node_to kept bodies zero i = Tree.Missing
node_to kept bodies (suc n) i = opened (node_to kept bodies n) bodies (slice_get kept i)

unfoldable pub node_with : List Kept → (ℕ → Tree) → ℕ → Tree
node_with kept bodies i = node_to kept bodies (suc i) i

abbrev pub body_with : List Kept → (ℕ → Tree) → Option (Option NodeId) → Tree
body_with kept bodies (Some (Some id)) = node_with kept bodies id.number
body_with kept bodies _ = Tree.Missing

-- the tree of a body with so many bodies in one another
unfoldable pub body_to : Arena → ℕ → ℕ → Tree
body_to arena zero k = Tree.Missing
body_to arena (suc n) k = body_with arena.kept (body_to arena n) (slice_get arena.filled k)

-- A body that isn't filled is Missing, and so is one that stands in as many others as there are bodies, as only one does that leads
-- back to itself.
abbrev pub body_at : Arena → ℕ → Tree
body_at arena k = body_to arena (length arena.pending) k

abbrev pub tree_of : Arena → Part → Tree
tree_of arena p = part_of (node_with arena.kept (body_at arena)) (body_at arena) p

-- the tree that an arena holds at a node
abbrev pub tree_at : Arena → NodeId → Tree
tree_at arena id = node_with arena.kept (body_at arena) id.number

-- the tree of the node that was added last
abbrev pub root_tree : Arena → Tree
root_tree arena = node_with arena.kept (body_at arena) (length arena.kept - 1)

abbrev pub perhaps_tree : Arena → Option NodeId → Tree
perhaps_tree arena None = Tree.Missing
perhaps_tree arena (Some id) = tree_at arena id

-- the tree of the function that a unit names
abbrev pub function_tree : Arena → ℕ → Tree
function_tree arena unit = perhaps_tree arena (function_at arena unit)
