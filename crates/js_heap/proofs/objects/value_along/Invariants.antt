-- No object before on the chain has the name.
use Rattle.std.proofs.Common.{◌≡◌, ◌<◌, Some, length}
use Rattle.js_heap.specs.Objects.{value_along}
use Rattle.js_heap.proofs.objects.value_along.Given as goal

abbrev pub invariant-loop-value : goal.invariant-loop-value
invariant-loop-value l = record {
  there : l.at.number < length l.objects;
  same : value_along l.objects (Some l.fn.obj.number) l.name ≡ value_along l.objects (Some l.at.number) l.name;
}

abbrev pub decreases-loop-value : goal.decreases-loop-value
decreases-loop-value l = l.at.number
