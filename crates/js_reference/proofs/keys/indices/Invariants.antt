-- The indices before are listed.
use Rattle.std.proofs.Common.{◌≡◌, ◌≤◌}
use Rattle.js_reference.specs.Keys.{indices_from}
use Rattle.js_reference.proofs.keys.indices.Given as goal

abbrev pub invariant-loop-index : goal.invariant-loop-index
invariant-loop-index l = record {
  within : l.index ≤ l.count;
  so_far : l.names ≡ indices_from 0 l.index;
}
