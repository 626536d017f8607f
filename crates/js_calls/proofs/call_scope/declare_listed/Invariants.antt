-- What was passed is declared, and no object and no scope went.
use Rattle.std.proofs.Common.{◌≡◌, ◌<◌, drop, length}
use Rattle.js_host.specs.There.{AreThere}
use Rattle.js_reference.specs.Later.{IsLater}
use Rattle.js_calls.specs.Calls.{with_parameters}
use Rattle.js_calls.proofs.call_scope.declare_listed.Given as goal

abbrev pub invariant-loop-at : goal.invariant-loop-at
invariant-loop-at l = record {
  scope : l.scope.number < length l.heap.scopes;
  values : AreThere l.heap l.arguments;
  is : with_parameters l.scope (drop l.at l.parameters) (drop l.at l.arguments) l.heap
      ≡ with_parameters l.scope l.parameters l.arguments l.fn.heap;
  later : IsLater l.fn.heap l.heap;
}
