-- An arena as the lists of its nodes and of the bodies of its functions. A node's number is its place among the nodes, and a body's
-- its place among the bodies.
use Rattle.std.specs.Prelude.{◌≡◌, ℕ, ◌-◌, ◌<◌, ◌≤◌, Bool, true, false, ◌&&◌, ◌==◌, List, [], ◌∷◌, ◌++◌, length, Option, Some, None, slice_get, slice_set, if◌then◌else◌}
use Rattle.std.specs.Option.{option_map}
use Rattle.js_tree.specs.declared.node.NodeId.{NodeId}
use Rattle.js_tree.specs.declared.node.BodyId.{BodyId}
use Rattle.js_tree.specs.declared.node.Scope.{Scope}
use Rattle.js_tree.specs.declared.node.Node.{Node}
use Rattle.js_tree.specs.declared.node.Node.TheVariants as node
use Rattle.js_tree.specs.declared.script.TheConstants.{NODES_END}
use Rattle.js_tree.specs.declared.script.Kept.{Kept}
use Rattle.js_tree.specs.declared.script.Pending.{Pending}
use Rattle.js_tree.specs.declared.script.Braces.{Braces}
use Rattle.js_tree.specs.declared.script.FunctionHead.{FunctionHead}
use Rattle.js_tree.specs.declared.script.FunctionHead.TheVariants as head
use Rattle.js_tree.specs.Trees.{Tree, Part, At, Body, Cons, parts, Holds}

-- the nodes, the bodies that have to be read, and of each body the node that it was read as, once it is
pub record Arena : Type 0 where
  pub kept : List Kept
  pub pending : List Pending
  pub filled : List (Option NodeId)

-- a part names no node and no body but the first ones, so many of each
abbrev pub IsWithin : ℕ → ℕ → Part → Type 0
IsWithin count bodies (At i) = i < count
IsWithin count bodies (Body k) = k < bodies
IsWithin count bodies (Cons p q) = IsWithin count bodies p × IsWithin count bodies q
IsWithin count bodies _ = Unit {0}

abbrev pub node_at : Arena → NodeId → Option Node
node_at arena id = option_map (λ (k : Kept). k.node) (slice_get arena.kept id.number)

abbrev pub function_of : FunctionHead → BodyId → Node
function_of (head.Expression h) body = node.Function h body
function_of (head.Declaration h) body = node.Declaration h body

-- a node is the function of this body
abbrev pub IsFunctionOf : ℕ → Option Node → Type 0
IsFunctionOf k found = (head : FunctionHead) × (found ≡ Some (function_of head (record { number = k })))

-- a node names only nodes before it, and bodies that are there; what is named elsewhere is there, and each body's node is the function
-- that names it
pub record IsOrdered (arena : Arena) : Type 0 where
  pub few_nodes : length arena.kept ≤ NODES_END
  pub few_bodies : length arena.pending ≤ NODES_END
  pub as_many : length arena.filled ≡ length arena.pending
  pub nodes : (i : ℕ) (k : Kept) → slice_get arena.kept i ≡ Some k → IsWithin i (length arena.pending) (parts k.node)
  pub functions : (i : ℕ) (p : Pending) → slice_get arena.pending i ≡ Some p → p.node.number < length arena.kept
  pub bodies : (i : ℕ) (id : NodeId) → slice_get arena.filled i ≡ Some (Some id) → id.number < length arena.kept
  pub named : (i : ℕ) (p : Pending) → slice_get arena.pending i ≡ Some p → IsFunctionOf i (node_at arena p.node)

abbrev pub empty : Arena
empty = record { kept = []; pending = []; filled = [] }

-- with one more node
abbrev pub with_node : Kept → Arena → Arena
with_node k arena = record arena { kept = arena.kept ++ k ∷ [] }

abbrev pub pending_of : ℕ → Braces → Pending
pending_of number braces = record { node = record { number = number }; from = braces.from; to = braces.to; level = braces.level }

-- with one more function, whose body is one more that has to be read
abbrev pub with_function : FunctionHead → ℕ → ℕ → Braces → Arena → Arena
with_function head from to braces arena = record {
  kept = arena.kept ++ record { node = function_of head (record { number = length arena.pending }); from = from; to = to } ∷ [];
  pending = arena.pending ++ pending_of (length arena.kept) braces ∷ [];
  filled = arena.filled ++ None ∷ [];
}

-- with the node that a body was read as
abbrev pub with_body : ℕ → NodeId → Arena → Arena
with_body k body arena = record arena { filled = slice_set arena.filled k (Some body) }

abbrev pub span_at : Arena → NodeId → Option (ℕ × ℕ)
span_at arena id = option_map (λ (k : Kept). (k.from, k.to)) (slice_get arena.kept id.number)

-- the scope that a program or a body carries
abbrev pub scope_of : Node → Option Scope
scope_of (node.Program _ scope) = Some scope.value
scope_of (node.Handler _ scope) = Some scope.value
scope_of (node.Body _ scope) = Some scope.value
scope_of _ = None

abbrev pub scope_in : Option Node → Option Scope
scope_in None = None
scope_in (Some n) = scope_of n

abbrev pub scope_at : Arena → Option NodeId → Option Scope
scope_at arena None = None
scope_at arena (Some id) = scope_in (node_at arena id)

abbrev pub scope_of_body : Arena → Option (Option NodeId) → Option Scope
scope_of_body arena None = None
scope_of_body arena (Some id) = scope_at arena id

-- of a function the scope that its body carries, once it is read; of any other node the one that it carries itself
abbrev pub scope_by : Arena → Option Node → Option Scope
scope_by arena None = None
scope_by arena (Some (node.Function _ body)) = scope_of_body arena (slice_get arena.filled body.number)
scope_by arena (Some (node.Declaration _ body)) = scope_of_body arena (slice_get arena.filled body.number)
scope_by arena (Some n) = scope_of n

abbrev pub scope : Arena → NodeId → Option Scope
scope arena id = scope_by arena (node_at arena id)

abbrev pub names_of : Option Scope → List (List ℕ)
names_of None = []
names_of (Some scope) = scope.names

abbrev pub declared : Arena → NodeId → List (List ℕ)
declared arena id = names_of (scope arena id)

-- the node begins at this unit
abbrev pub begins_at : ℕ → Option Kept → Bool
begins_at unit None = false
begins_at unit (Some k) = k.from == unit

abbrev pub is_handler : Node → Bool
is_handler (node.Handler _ _) = true
is_handler _ = false

-- the node is a handler, and this is the unit behind it
abbrev pub ends_handler : ℕ → Option Kept → Bool
ends_handler unit None = false
ends_handler unit (Some k) = is_handler k.node && k.to == unit

abbrev pub first_of : Option NodeId → Option NodeId → Option NodeId
first_of None other = other
first_of (Some id) other = Some id

-- the last of some functions that begins at this unit
abbrev pub function_among : List Kept → List Pending → ℕ → Option NodeId
function_among kept [] unit = None
function_among kept (p ∷ ps) unit = first_of (function_among kept ps unit) (if begins_at unit (slice_get kept p.node.number) then Some p.node else None)

-- the last node, where it is a handler that ends there
abbrev pub handler_among : List Kept → ℕ → Option NodeId
handler_among kept unit = if ends_handler unit (slice_get kept (length kept - 1)) then Some (record { number = length kept - 1 }) else None

-- The function that a unit names: a function by its first unit, and a handler's own function by its text's length, so that no two
-- have one name.
abbrev pub function_at : Arena → ℕ → Option NodeId
function_at arena unit = first_of (handler_among arena.kept unit) (function_among arena.kept arena.pending unit)

-- every body is read, as a node that holds the tree that it is
abbrev pub Filled : Arena → (ℕ → Tree) → Type 0
Filled arena bodies = (k : ℕ) → k < length arena.pending → (id : NodeId) × (slice_get arena.filled k ≡ Some (Some id)) × Holds bodies arena.kept (At id.number) (bodies k)
