-- The values before are copied.
use Rattle.std.proofs.Common.{◌≡◌, take}
use Rattle.js_term.specs.inner.Values.{values_in}
use Rattle.js_term.proofs.operands.copies.Given as goal

abbrev pub invariant-loop-operand : goal.invariant-loop-operand
invariant-loop-operand l = l.values ≡ values_in (take l.operand-index l.operands)
