-- How a number begins, and what a parser makes of it.
use Rattle.std.proofs.Common.{◌≡◌, ◌≢◌, ℕ, zero, suc, ◌<◌, ◌^◌, ◌⊎◌, inl, inr, List, [], ◌∷◌, length, get_or, decimal, Option, Result, Ok, Err, MatchOption, refl, sym, ◌∙◌, ap, subst, arith, lit<}
use Rattle.std.proofs.lemmas.Fmt.{decimal_digit, decimal_nonempty, first_decimal, decimal-digits_value, parse-decimal, IsAscii-decimal}
use Rattle.std.proofs.lemmas.Str.{IsUtf8-from_ascii}
use Rattle.std.proofs.lemmas.Str.Parse.{IsNumeralModel, numerals_by_value, parse_plain, tells_digits}
use Rattle.std.proofs.lemmas.Bool.{cases_lt}
use Rattle.std.specs.Result.{result_ok}
use Rattle.std.specs.Str.{IsUtf8}
use Rattle.mug_text.specs.Number.{IsPadded}
use Rattle.std.specs.Str.Parse.{AllDigits, ParsesUnsigned, digits_value}

own : IsNumeralModel (AllDigits 10) (digits_value 10)
own = numerals_by_value (AllDigits 10) tells_digits

begins : (n : ℕ) → n < 2 ^ 64 → (n ≡ 0) ⊎ (48 < get_or (decimal n) 0 0)
begins zero small = inl refl
begins (suc n) small = inr (first_decimal (suc n) (omega arith) small)

-- there is a digit, no sign stands before it, and a zero in front stands alone
pub first_byte : (field : List ℕ) (n : ℕ) → n < 2 ^ 64 → field ≡ decimal n → (0 < length field) × (get_or field 0 0 ≢ 43) × (get_or field 0 0 ≡ 48 → length field ≡ 1)
first_byte field n small is =
    elim (begins n small) [
      | inl none ↦
          let alone : field ≡ 48 ∷ [] = is ∙ ap decimal none ∙ decimal_digit 0 (lit< tt) in
          subst (λ (l : List ℕ). (0 < length l) × (get_or l 0 0 ≢ 43) × (get_or l 0 0 ≡ 48 → length l ≡ 1)) (sym alone) (lit< tt, (λ e. cc), (λ e. refl))
      | inr above ↦
          let front = ap (λ (l : List ℕ). get_or l 0 0) is in
          let some = decimal_nonempty n small in
          (subst (λ (l : List ℕ). 0 < length l) (sym is) some, (λ e. absurd (omega (arith, front, above, e))), (λ e. absurd (omega (arith, front, above, e))))
    ]

pub is_utf8 : (field : List ℕ) (n : ℕ) → n < 2 ^ 64 → field ≡ decimal n → IsUtf8 field
is_utf8 field n small is = subst IsUtf8 (sym is) (IsUtf8-from_ascii (decimal n) (IsAscii-decimal n small))

-- what begins otherwise spells no number
pub padded : (field : List ℕ) → IsPadded field → (n : ℕ) → n < 2 ^ 64 → field ≢ decimal n
padded field (inl sign) n small is = (first_byte field n small is).1 sign
padded field (inr both) n small is = let alone = (first_byte field n small is).2 both.0 in absurd (omega (arith, alone, both.1))

not_padded : (field : List ℕ) → (IsPadded field → ⊥) → 0 < length field → get_or field 0 0 ≡ 48 → length field ≡ 1
not_padded field none some front = elim (cases_lt 1 (length field)) [ inl more ↦ absurd (none (inr (front, more))) | inr few ↦ omega (arith, some, few) ]

-- what a parser makes of a text that doesn't
pub parsed : {E : Type 0} (field text : List ℕ) (r : Result ℕ E) (o : Option ℕ) → (IsPadded field → ⊥) → text ≡ field → ParsesUnsigned 64 10 text r → o ≡ result_ok r
    → MatchOption o ((n : ℕ) → n < 2 ^ 64 → field ≢ decimal n) (λ n. (n < 2 ^ 64) × (field ≡ decimal n))
parsed {E} field text (Ok v) o none same parses is =
    let read = parse_plain own {E = E} 64 text (Ok v) parses (λ e. none (inl (ap (λ (l : List ℕ). get_or l 0 0) (sym same) ∙ e))) in
    let alone : get_or text 0 0 ≡ 48 → length text ≡ 1 =
    λ e. ap length same ∙ not_padded field none (subst (λ (l : List ℕ). 0 < length l) same read.0.1) (ap (λ (l : List ℕ). get_or l 0 0) (sym same) ∙ e) in
    let spelled : text ≡ decimal v = sym (ap decimal read.1 ∙ decimal-digits_value own text read.0.0 read.0.1 alone read.0.2) in
    subst (λ (p : Option ℕ). MatchOption p ((n : ℕ) → n < 2 ^ 64 → field ≢ decimal n) (λ n. (n < 2 ^ 64) × (field ≡ decimal n))) (sym is)
    (subst (λ (n : ℕ). n < 2 ^ 64) (sym read.1) read.0.2, sym same ∙ spelled)
parsed {E} field text (Err e) o none same parses is =
    subst (λ (p : Option ℕ). MatchOption p ((n : ℕ) → n < 2 ^ 64 → field ≢ decimal n) (λ n. (n < 2 ^ 64) × (field ≡ decimal n))) (sym is)
    (λ n small spells. let r : Err e ≡ Ok n = parse-decimal 64 n text (Err e) small small (same ∙ spells) parses in cc)
