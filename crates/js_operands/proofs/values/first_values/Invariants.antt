-- The values before this place are copied.
use Rattle.std.proofs.Common.{◌≡◌, [], take}
use Rattle.js_operands.proofs.values.first_values.Given as goal

abbrev pub invariant-loop-place : goal.invariant-loop-place
invariant-loop-place l = l.first ≡ record { done = take l.place l.operands.done; todo = [] }
