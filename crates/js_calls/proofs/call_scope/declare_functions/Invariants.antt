-- What was passed is declared, and no object and no scope went.
use Rattle.std.proofs.Common.{◌≡◌, ◌<◌, drop, length}
use Rattle.js_reference.specs.Later.{IsLater}
use Rattle.js_calls.specs.Calls.{with_functions}
use Rattle.js_calls.proofs.call_scope.declare_functions.Given as goal

abbrev pub invariant-loop-declared : goal.invariant-loop-declared
invariant-loop-declared l = record {
  scope : l.scope.number < length l.heap.scopes;
  is : with_functions l.text l.scope (drop l.declared-index l.functions) l.heap
      ≡ with_functions l.text l.scope l.functions l.fn.heap;
  later : IsLater l.fn.heap l.heap;
}
