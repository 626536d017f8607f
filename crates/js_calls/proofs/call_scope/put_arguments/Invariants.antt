-- What was passed is there at its index, and no object and no scope went.
use Rattle.std.proofs.Common.{◌≡◌, ◌<◌, drop, length}
use Rattle.js_host.specs.There.{AreThere}
use Rattle.js_reference.specs.Later.{IsLater}
use Rattle.js_calls.specs.Calls.{with_indices}
use Rattle.js_calls.proofs.call_scope.put_arguments.Given as goal

abbrev pub invariant-loop-index : goal.invariant-loop-index
invariant-loop-index l = record {
  object : l.object.number < length l.heap.objects;
  values : AreThere l.heap l.arguments;
  is : with_indices l.object l.index (drop l.index l.arguments) l.heap
      ≡ with_indices l.object 0 l.arguments l.fn.heap;
  later : IsLater l.fn.heap l.heap;
}
