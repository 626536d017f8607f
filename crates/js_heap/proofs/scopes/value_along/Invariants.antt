-- No scope before on the chain has the name.
use Rattle.std.proofs.Common.{◌≡◌, ◌<◌, Some, length}
use Rattle.js_heap.specs.Scopes.{value_along}
use Rattle.js_heap.proofs.scopes.value_along.Given as goal

abbrev pub invariant-loop-value : goal.invariant-loop-value
invariant-loop-value l = record {
  there : l.at.number < length l.scopes;
  same : value_along l.scopes (Some l.fn.scope.number) l.name ≡ value_along l.scopes (Some l.at.number) l.name;
}

abbrev pub decreases-loop-value : goal.decreases-loop-value
decreases-loop-value l = l.at.number
