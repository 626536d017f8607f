-- No scope before on the chain has the name.
use Rattle.std.proofs.Common.{◌≡◌, ◌<◌, Some, length}
use Rattle.js_heap.specs.Scopes.{holder}
use Rattle.js_heap.proofs.scopes.holder.Given as goal

abbrev pub invariant-loop-here : goal.invariant-loop-here
invariant-loop-here l = record {
  there : l.at.number < length l.scopes;
  same : holder l.scopes (Some l.fn.scope.number) l.name ≡ holder l.scopes (Some l.at.number) l.name;
}

abbrev pub decreases-loop-here : goal.decreases-loop-here
decreases-loop-here l = l.at.number
