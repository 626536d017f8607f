-- What was passed is declared, and no object and no scope went.
use Rattle.std.proofs.Common.{◌≡◌, ◌<◌, drop, length}
use Rattle.js_reference.specs.Later.{IsLater}
use Rattle.js_calls.specs.Calls.{with_names}
use Rattle.js_calls.proofs.call_scope.declare_names.Given as goal

abbrev pub invariant-loop-name : goal.invariant-loop-name
invariant-loop-name l = record {
  scope : l.scope.number < length l.heap.scopes;
  is : with_names l.scope (drop l.name-index l.names) l.heap
      ≡ with_names l.scope l.names l.fn.heap;
  later : IsLater l.fn.heap l.heap;
}
