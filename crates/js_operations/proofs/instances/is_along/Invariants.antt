-- No object before on the chain is meant.
use Rattle.std.proofs.Common.{◌≡◌, ◌==◌, ◌<◌, Some, length}
use Rattle.std.specs.List.{list_any}
use Rattle.js_heap.specs.Chains.{chain}
use Rattle.js_heap.specs.Objects.{prototype_number}
use Rattle.js_operations.proofs.instances.is_along.Given as goal

abbrev pub invariant-loop-at : goal.invariant-loop-at
invariant-loop-at l = record {
  there : l.at.number < length l.heap.objects;
  same : list_any (λ n. n == l.to.number)
      (chain prototype_number l.heap.objects (Some l.fn.from.number))
      ≡ list_any (λ n. n == l.to.number)
      (chain prototype_number l.heap.objects (Some l.at.number));
}

abbrev pub decreases-loop-at : goal.decreases-loop-at
decreases-loop-at l = l.at.number
