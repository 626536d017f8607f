-- An index of functions.
use Rattle.std.specs.Prelude.{◌≡◌, ℕ, ◌==◌, List, Some, if◌then◌else◌}
use Rattle.std.specs.Ordering.{nat_cmp}
use Rattle.std.specs.BTreeMap.{BTreeMap, get}
use Rattle.js_tree.specs.declared.node.NodeId.{NodeId}
use Rattle.js_tree.specs.declared.script.Kept.{Kept}
use Rattle.js_tree.specs.declared.script.Pending.{Pending}
use Rattle.js_tree.specs.Arena.{function_among}

-- the index finds each function by its first unit
abbrev pub IsIndexed : List Kept → List Pending → BTreeMap ℕ NodeId → Type 0
IsIndexed kept pending index = (unit : ℕ) → get nat_cmp index unit ≡ function_among kept pending unit

abbrev pub KeepsFunctions : BTreeMap ℕ NodeId → BTreeMap ℕ NodeId → Type 0
KeepsFunctions old new = (unit : ℕ) → get nat_cmp new unit ≡ get nat_cmp old unit

abbrev pub PutsFunction : ℕ → NodeId → BTreeMap ℕ NodeId → BTreeMap ℕ NodeId → Type 0
PutsFunction at id old new = (unit : ℕ) → get nat_cmp new unit ≡ (if at == unit then Some id else get nat_cmp old unit)
