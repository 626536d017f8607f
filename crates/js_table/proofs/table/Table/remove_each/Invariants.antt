-- The elements before are removed.
use Rattle.std.proofs.Common.{◌≡◌}
use Rattle.js_table.specs.Indices.{without_elements}
use Rattle.js_table.proofs.table.Table.remove_each.Given as goal

abbrev pub invariant-loop-index : goal.invariant-loop-index
invariant-loop-index l = l.self ≡ without_elements l.low l.index l.initial.self
