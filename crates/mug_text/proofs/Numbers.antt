-- Numbers and their spellings.
use Rattle.std.proofs.Common.{◌≡◌, ℕ, zero, suc, ◌+◌, ◌-◌, ◌*◌, ◌<◌, ◌≤◌, ◌^◌, ◌⊎◌, inl, inr, true, false, ◌&&◌, List, [], ◌∷◌, ◌++◌, All, length, get_or, drop, decimal, ℤ, refl, sym, ap, subst, ◌∙◌, rules, arith, lit<}
use Rattle.std.specs.List.{flat_map}
use Rattle.std.specs.Fmt.{signed_decimal}
use Rattle.std.specs.Str.{IsAscii, all_ascii_digits}
use Rattle.std.specs.Char.{is_ascii_digit}
use Rattle.std.specs.Char.Escape.{encode_utf16}
use Rattle.std.proofs.lemmas.Fmt.{decimal_digit, decimal_injective, decimal_nonempty, first_decimal, digits_decimal, digits_value-decimal, decimal-digits_value, IsAscii-signed}
use Rattle.std.proofs.lemmas.Bool.Decides.{nat_tests}
use Rattle.std.proofs.lemmas.List.{drop_more}
use Rattle.std.proofs.lemmas.List.Elements.{All-head, All-tail}
use Rattle.std.proofs.lemmas.Str.{encodes-IsAscii, encodes_same, IsUtf8-from_ascii}
use Rattle.std.proofs.lemmas.Str.Ascii.{All-from_ascii}
use Rattle.std.proofs.lemmas.Str.Parse.{IsNumeralModel, numerals_by_fold}
use lib.Signed.{mag}
use Rattle.mug_text.specs.Number.{spelling, IsIndex, NoIndex}
use Rattle.mug_text.specs.Text.{IsText}
use Rattle.mug_text.proofs.Texts.{narrow_units, same_units}

abbrev pub read_on : ℕ → List ℕ → ℕ
read_on n [] = n
read_on n (c ∷ cs) = read_on (n * 10 + (c - 48)) cs

own : IsNumeralModel (λ ds. all_ascii_digits ds ≡ true) (read_on 0)
own = numerals_by_fold _ (search rules) read_on (search rules)

pub read_grows : (n : ℕ) (cs : List ℕ) → n ≤ read_on n cs
read_grows n [] = omega arith
read_grows n (c ∷ cs) = omega (arith, read_grows (n * 10 + (c - 48)) cs)

wide : (n : ℕ) → n < 0xFFFF_FFFF → n < 2 ^ 64
wide n small = omega arith

-- one unit more
is_front : (us : List ℕ) (i u : ℕ) → i < length us → u ≡ get_or us i 0 → drop i us ≡ u ∷ drop (i + 1) us
is_front us i u inside is = drop_more us i 0 inside ∙ ap (λ x. x ∷ drop (i + 1) us) (sym is)

pub read_more : (us : List ℕ) (i u v : ℕ) → i < length us → u ≡ get_or us i 0 → read_on v (drop i us) ≡ read_on (v * 10 + (u - 48)) (drop (i + 1) us)
read_more us i u v inside is = ap (read_on v) (is_front us i u inside is)

digit : (u : ℕ) → 48 ≤ u → u ≤ 57 → is_ascii_digit u ≡ true
digit u from most = grind (arith, nat_tests)

no_digit : (u : ℕ) → (u < 48) ⊎ ((48 ≤ u) × (57 < u)) → is_ascii_digit u ≡ false
no_digit u (inl below) = grind (arith, nat_tests)
no_digit u (inr above) = let more = above.1 in grind (arith, nat_tests)

pub digits_more : (us : List ℕ) (i u : ℕ) → i < length us → u ≡ get_or us i 0 → 48 ≤ u → u ≤ 57 → all_ascii_digits (drop i us) ≡ all_ascii_digits (drop (i + 1) us)
digits_more us i u inside is from most =
    ap all_ascii_digits (is_front us i u inside is) ∙ ap (λ b. b && all_ascii_digits (drop (i + 1) us)) (digit u from most)

pub digits_end : (us : List ℕ) (i u : ℕ) → i < length us → u ≡ get_or us i 0 → (u < 48) ⊎ ((48 ≤ u) × (57 < u)) → all_ascii_digits (drop i us) ≡ false
digits_end us i u inside is other =
    ap all_ascii_digits (is_front us i u inside is) ∙ ap (λ b. b && all_ascii_digits (drop (i + 1) us)) (no_digit u other)

-- what spells no index
pub no_empty : (us : List ℕ) → length us ≡ 0 → NoIndex us
no_empty us none n small is = absurd (omega (arith, none, ap length is, decimal_nonempty n (wide n small)))

pub no_padded : (us : List ℕ) → get_or us 0 0 ≡ 48 → 1 < length us → NoIndex us
no_padded us front more zero small is = absurd (omega (arith, more, ap length (is ∙ decimal_digit 0 (lit< tt))))
no_padded us front more (suc n) small is = absurd (omega (arith, front, ap (λ (l : List ℕ). get_or l 0 0) is, first_decimal (suc n) (omega arith) (wide (suc n) small)))

pub no_digits : (us : List ℕ) → all_ascii_digits us ≡ false → NoIndex us
no_digits us not n small is =
    let yes = digits_decimal own n (wide n small) in
    let both : true ≡ false = sym yes ∙ ap all_ascii_digits (sym is) ∙ not in
    absurd (cc)

pub no_large : (us : List ℕ) → 0xFFFF_FFFF ≤ read_on 0 us → NoIndex us
no_large us large n small is = absurd (omega (arith, large, small, ap (read_on 0) is, digits_value-decimal own n (wide n small)))

-- and what does
pub some_index : (us : List ℕ) (n : ℕ) → all_ascii_digits us ≡ true → 0 < length us → (get_or us 0 0 ≡ 48 → length us ≡ 1) → read_on 0 us ≡ n → n < 0xFFFF_FFFF → IsIndex us n
some_index us n digits more alone is small =
    (small, sym (ap decimal (sym is) ∙ decimal-digits_value own us digits more alone (omega (arith, is, small))))

-- a text spells one index at most
pub one_index : (us : List ℕ) (m n : ℕ) → IsIndex us m → IsIndex us n → m ≡ n
one_index us m n first second = decimal_injective m n (wide m first.0) (wide n second.0) (sym first.1 ∙ second.1)
