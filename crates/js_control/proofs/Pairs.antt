-- Hints at two places.
use Rattle.std.proofs.Common.{◌≡◌, ℕ, suc, ◌==◌, Bool, true, false, Option, Some, None, eq-eqb, if◌then◌else◌, refl, ap, sym, ◌∙◌, arith}
use Rattle.std.proofs.lemmas.Bool.Decides.{nat_tests}
use Rattle.js_value.specs.Image.{IsPrimitive}
use Rattle.js_value.specs.declared.value.Value.{Value}
use Rattle.js_ops.specs.declared.equality.Hint.{Hint}
use Rattle.js_operations.specs.Converted.{IsConverted}
use Rattle.js_operands.proofs.Guards.{choice_false, choice_true}
use Rattle.js_operands.specs.Conversions.{wants_at}

pub at_first : (n : ℕ) (j k : Option Hint) → wants_at n j k n ≡ j
at_first n j k = choice_true (n == n) j (if n == suc n then k else None) (eq-eqb n n refl)

not_next : (n : ℕ) → (suc n == n) ≡ false
not_next n = grind (arith, nat_tests)

pub at_next : (n : ℕ) (j k : Option Hint) → wants_at n j k (suc n) ≡ k
at_next n j k = choice_false (suc n == n) j (if suc n == suc n then k else None) (not_next n) ∙ choice_true (suc n == suc n) k None (eq-eqb (suc n) (suc n) refl)

pub is_converted : (o : Option Hint) (v : Value) → ((k : Hint) → o ≡ Some k → IsPrimitive v) → IsConverted o v
is_converted None v f = tt
is_converted (Some k) v f = f k refl
