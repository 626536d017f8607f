-- With the values from this place on it is all that was asked for.
use Rattle.std.proofs.Common.{◌≡◌, ◌++◌, drop}
use Rattle.js_control.proofs.calls.values_from.Given as goal

abbrev pub invariant-loop-place : goal.invariant-loop-place
invariant-loop-place l = l.values ++ drop l.place l.operands.done ≡ drop l.fn.from l.operands.done
