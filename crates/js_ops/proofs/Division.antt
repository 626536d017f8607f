-- Quotients and remainders, rounded toward zero.
use Rattle.std.proofs.Common.{◌≡◌, ℕ, zero, suc, ◌<◌, ◌≤◌, ◌^◌, ◌/◌, true, false, ℤ, pos, negsuc, neg_ℤ, Some, None, cond, refl, ap, ◌∙◌, w64, FitsSigned, of_z, arith}
use Rattle.std.proofs.Math.Nat.{div-le_self}
use Rattle.std.proofs.lemmas.Int.{fits_signed_from_abs}
use Rattle.std.specs.Cmp.{signed_Decides}
use Rattle.std.specs.Int.Signed.{mag_rem}
use Rattle.std.specs.Int.RustNames.{int_div, int_rem, unsigned_abs}
use Rattle.std.specs.Ordering.{int_eq}
use Rattle.js_value.specs.declared.number.Num.TheVariants.{Whole, NaN}
use Rattle.js_ops.specs.Numbers.{quotient, remainder}

abs-neg : (n : ℕ) → unsigned_abs (neg_ℤ (pos n)) ≡ n
abs-neg zero = refl
abs-neg (suc n) = refl

abs-int_div : (a b : ℤ) → unsigned_abs (int_div a b) ≤ unsigned_abs a
abs-int_div (pos a) (pos b) = div-le_self a b
abs-int_div (pos a) (negsuc b) = omega (arith, abs-neg (a / suc b), div-le_self a (suc b))
abs-int_div (negsuc a) (pos b) = omega (arith, abs-neg (suc a / b), div-le_self (suc a) b)
abs-int_div (negsuc a) (negsuc b) = div-le_self (suc a) (suc b)

pub fits_quotient : (a b : ℤ) → unsigned_abs a < 2 ^ 53 → FitsSigned w64 (int_div a b)
fits_quotient a b small = fits_signed_from_abs w64 (int_div a b) (omega (arith, abs-int_div a b))

pub not_zero : (z : ℤ) → (of_z w64 z ≡ 0 → ⊥) → int_eq z (pos 0) ≡ false
not_zero z other =
    elim (int_eq z (pos 0)) as (λ b. (b ≡ true → z ≡ pos 0) → b ≡ false) [
      | true ↦ λ h. absurd (other (ap (of_z w64) (h refl)))
      | false ↦ λ h. refl
    ] (signed_Decides z (pos 0)).0

zero_bits : (z : ℤ) → FitsSigned w64 z → of_z w64 z ≡ 0 → z ≡ pos 0
zero_bits (pos n) fits is = ap pos is
zero_bits (negsuc n) fits is = absurd (omega (arith, fits.sfits, is))

pub is_zero : (z : ℤ) → FitsSigned w64 z → of_z w64 z ≡ 0 → int_eq z (pos 0) ≡ true
is_zero z fits is = (signed_Decides z (pos 0)).1 (zero_bits z fits is)

pub quotient_exact : (a b : ℤ) → int_eq b (pos 0) ≡ false → int_eq (int_rem a b) (pos 0) ≡ true → quotient a b ≡ Some (Whole (int_div a b))
quotient_exact a b some exact =
    ap (λ t. cond t (cond (int_eq a (pos 0)) (Some NaN) None) (cond (int_eq (int_rem a b) (pos 0)) (Some (Whole (int_div a b))) None)) some
    ∙ ap (λ t. cond t (Some (Whole (int_div a b))) None) exact

pub remainder_exact : (a b : ℤ) → int_eq b (pos 0) ≡ false → remainder a b ≡ Some (Whole (int_rem a b))
remainder_exact a b some = ap (λ t. cond t (Some NaN) (Some (Whole (int_rem a b)))) some

pub fits_remainder : (a b : ℤ) → FitsSigned w64 a → FitsSigned w64 (int_rem a b)
fits_remainder a b fits = record { sfits = omega (arith, mag_rem a b, fits.sfits) }
