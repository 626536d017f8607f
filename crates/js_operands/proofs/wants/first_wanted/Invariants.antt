-- No operand before this place is to be converted.
use Rattle.std.proofs.Common.{◌≡◌, ◌<◌, ℕ, Some, drop}
use Rattle.js_value.specs.Image.{IsPrimitive}
use Rattle.js_ops.specs.declared.equality.Hint.{Hint}
use Rattle.js_host.specs.Natives as natives
use Rattle.js_operands.specs.Conversions.{first_wanted, hints}
use Rattle.js_operands.specs.Steps.{operand_at}
use Rattle.js_operands.proofs.wants.first_wanted.Given as goal

abbrev pub invariant-loop-place : goal.invariant-loop-place
invariant-loop-place l = record {
  first : first_wanted (hints natives.wants l.wants) 0 l.operands.done ≡ first_wanted (hints natives.wants l.wants) l.place (drop l.place l.operands.done);
  converted : (n : ℕ) (k : Hint) → n < l.place → hints natives.wants l.wants n ≡ Some k → IsPrimitive (operand_at l.operands.done n);
}
