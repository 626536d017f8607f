-- What is left to go is as far as what was left.
use Rattle.std.proofs.Common.{◌≡◌, ◌-◌, ◌≤◌, length}
use Rattle.js_value.specs.Image.{image}
use Rattle.js_heap.specs.Closed.{IsThere}
use Rattle.js_operations.specs.Operations.{target_to}
use Rattle.js_operations.proofs.instances.target.Given as goal

abbrev pub invariant-loop : goal.invariant-loop
invariant-loop l = record {
  end : l.end ≡ length l.heap.objects;
  within : l.counter ≤ l.end;
  there : IsThere l.heap l.at;
  same : image (target_to (l.end - l.counter) l.heap l.at)
      ≡ image (target_to (length l.heap.objects) l.heap l.fn.function);
}
