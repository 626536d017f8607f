-- With the values from this place on it is all that was passed.
use Rattle.std.proofs.Common.{◌≡◌, ◌++◌, [], drop}
use Rattle.js_operands.proofs.values.add_values.Given as goal

abbrev pub invariant-loop-place : goal.invariant-loop-place
invariant-loop-place l = record {
  all : l.operands.done ++ drop l.place l.others.done ≡ l.fn.operands.done ++ drop l.fn.from l.others.done;
  none : l.operands.todo ≡ [];
}
