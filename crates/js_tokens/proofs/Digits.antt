-- The units of a number are those of a name.
use Rattle.std.proofs.Common.{◌≡◌, ℕ, ◌≤◌, Bool, true, false, List, [], ◌∷◌, length, take, drop, refl, sym, ◌∙◌, ap, arith, nat_lt, nat_eq, cond}
use Rattle.std.proofs.lemmas.Grind.{common_steps}
use Rattle.std.specs.List.{list_all, take_while}
use Rattle.js_tokens.specs.Units.{begins, is_part}
use Rattle.mug_text.specs.Digits.{digit, are_digits}
use Rattle.js_tokens.specs.Numbers.{is_hexadecimal, is_decimal, is_numeral, goes_on}
use Rattle.js_tokens.proofs.Runs.{and_left, and_right, and_both, or_left, run_is}

digit_part : (u : ℕ) → nat_lt (digit u) 16 ≡ true → is_part u ≡ true
digit_part u h = grind (arith, common_steps)

ten_sixteen : (u : ℕ) → nat_lt (digit u) 10 ≡ true → nat_lt (digit u) 16 ≡ true
ten_sixteen u h = grind (arith, common_steps)

parts : (us : List ℕ) → list_all (λ u. nat_lt (digit u) 16) us ≡ true → list_all is_part us ≡ true
parts [] h = refl
parts (u ∷ us) h = and_both (is_part u) _ (digit_part u (and_left (nat_lt (digit u) 16) _ h)) (parts us (and_right (nat_lt (digit u) 16) _ h))

ten_parts : (us : List ℕ) → list_all (λ u. nat_lt (digit u) 10) us ≡ true → list_all is_part us ≡ true
ten_parts [] h = refl
ten_parts (u ∷ us) h = and_both (is_part u) _ (digit_part u (ten_sixteen u (and_left (nat_lt (digit u) 10) _ h))) (ten_parts us (and_right (nat_lt (digit u) 10) _ h))

front_part : (u : ℕ) (v : ℕ) → v ≡ u → is_part v ≡ true → is_part u ≡ true
front_part u v e h = ap is_part (sym e) ∙ h

hex_parts : (us : List ℕ) → is_hexadecimal us ≡ true → list_all (λ u. nat_lt (digit u) 16) (drop 2 us) ≡ true → list_all is_part us ≡ true
hex_parts [] h d = refl
hex_parts (u ∷ []) h d = absurd (cc (and_right (nat_eq 48 u) false h))
hex_parts (u ∷ v ∷ us) h d =
    let first : 48 ≡ u = grind (arith, common_steps) in
    let second : 120 ≡ v = grind (arith, common_steps) in
    and_both (is_part u) _ (front_part u 48 first refl) (and_both (is_part v) _ (front_part v 120 second refl) (parts us d))

parts_by : (us : List ℕ) (b : Bool) → is_hexadecimal us ≡ b → cond b (are_digits 16 (drop 2 us)) (is_decimal us) ≡ true → list_all is_part us ≡ true
parts_by us true e h = hex_parts us e (and_right (nat_lt 0 (length (drop 2 us))) _ h)
parts_by us false e h = ten_parts us (and_right (nat_lt 0 (length us)) _ (and_left (are_digits 10 us) _ h))

pub numeral_parts : (us : List ℕ) → is_numeral us ≡ true → list_all is_part us ≡ true
numeral_parts us h = parts_by us (is_hexadecimal us) refl h

stops : (us : List ℕ) → goes_on us ≡ false → begins is_part us ≡ false
stops [] h = refl
stops (u ∷ us) h = or_left (is_part u) _ h

-- a number is as long as the run of a name's units
pub number_run : (us : List ℕ) (n : ℕ) → n ≤ length us → is_numeral (take n us) ≡ true → goes_on (drop n us) ≡ false → n ≡ length (take_while is_part us)
number_run us n h a b = run_is is_part us n h (numeral_parts (take n us) a) (stops (drop n us) b)
