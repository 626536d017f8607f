-- What a text carries beside its tree, and what is asked of one that was read.
use Rattle.std.specs.Prelude.{◌≡◌, ℕ, ◌-◌, Bool, true, false, Option, Some, None, IfSome, length}
use Rattle.std.specs.Prelude.{slice_get, if◌then◌else◌}
use Rattle.js_tree.specs.Arena.{Arena, function_at, is_handler, node_at, scope}
use Rattle.js_tree.specs.Names.{program_scope}
use Rattle.js_tree.specs.TreeAt.{body_at, tree_at, tree_of}
use Rattle.js_tree.specs.Trees.{Tree, nodes}
use Rattle.js_tree.specs.declared.node.Node.{Node}
use Rattle.js_tree.specs.declared.node.Node.TheVariants as node
use Rattle.js_tree.specs.declared.node.NodeId.{NodeId}
use Rattle.js_tree.specs.declared.production.Production.TheVariants as production
use Rattle.js_tree.specs.declared.script.Kept.{Kept}
use Rattle.js_calls.specs.Calls.{function_in, scope_of}

-- the scope that a function carries is that of its tree
abbrev pub HasScope : Arena → NodeId → Type 0
HasScope a id = IfSome (scope a id) (λ s. s ≡ scope_of (function_in (tree_at a id)))

-- Each body that was read is the tree of the node that it was read as, and each function that a
-- unit names carries the scope of its tree.
pub record IsRead (a : Arena) : Type 0 where
  pub bodies : (k : ℕ) (id : NodeId) → slice_get a.filled k ≡ Some (Some id)
      → body_at a k ≡ tree_at a id
  pub scopes : (unit : ℕ) (id : NodeId) → function_at a unit ≡ Some id → HasScope a id

-- the statements of a program
abbrev pub program_in : Tree → Tree
program_in (Tree.Made production.Program u v (Tree.Cons ss r)) = ss
program_in t = Tree.Nil

abbrev pub IsProgramNode : Arena → Node → Type 0
IsProgramNode a (node.Program ss scope) = scope.value ≡ program_scope (tree_of a (nodes ss))
IsProgramNode a n = ⊥

abbrev pub IsProgramKept : Arena → Option Kept → Type 0
IsProgramKept a (Some k) = IsProgramNode a k.node
IsProgramKept a None = ⊥

-- the node that was added last is a program, which carries the scope of its statements
abbrev pub IsProgram : Arena → Type 0
IsProgram a = IsProgramKept a (slice_get a.kept (length a.kept - 1))

abbrev pub last_node : Arena → Option Node
last_node a = node_at a (record { number = length a.kept - 1 })

abbrev pub is_program : Option Node → Bool
is_program (Some (node.Program _ _)) = true
is_program _ = false

-- of a handler the unit behind it, and of any other node its first unit
abbrev pub unit_of_kept : Option Kept → ℕ
unit_of_kept None = 0
unit_of_kept (Some k) = if is_handler k.node then k.to else k.from

-- the unit that names a function
abbrev pub body_unit : Arena → NodeId → ℕ
body_unit a id = unit_of_kept (slice_get a.kept id.number)
