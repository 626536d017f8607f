-- The number of a text (ECMA-262 edition 5.1, 9.3.1), without the fractions, the exponents and Infinity, and without a bound.
use Rattle.std.specs.Prelude.{ℕ, Bool, ◌&&◌, ◌==◌, List, [], ◌∷◌, slice_index, drop, pos, neg_ℤ, if◌then◌else◌}
use Rattle.mug_text.specs.Characters.{trimmed}
use Rattle.mug_text.specs.Digits.{are_digits, digits_value}
use Rattle.js_value.specs.declared.number.Num.{Num}
use Rattle.js_value.specs.declared.number.Num.TheVariants.{Whole, NaN}

-- the number that the digits spell, and NaN where they are none
abbrev pub unsigned : ℕ → List ℕ → Num
unsigned base us = if are_digits base us then Whole (pos (digits_value base us)) else NaN

-- the number with the other sign; 0 has none
abbrev pub negated : Num → Num
negated (Whole z) = Whole (neg_ℤ z)
negated NaN = NaN

-- `0x` stands in front
abbrev pub is_hexadecimal : List ℕ → Bool
is_hexadecimal us = slice_index us 0 == 48 && slice_index us 1 == 120

-- the number of what stands between the blanks: nothing, decimal digits with or without a sign, or `0x` and hexadecimal digits
abbrev pub number_in : List ℕ → Num
number_in [] = Whole (pos 0)
number_in (u ∷ us) =
    if u == 43 then unsigned 10 us
    else (if u == 45 then negated (unsigned 10 us)
    else (if is_hexadecimal (u ∷ us) then unsigned 16 (drop 1 us)
    else unsigned 10 (u ∷ us)))

-- the number of a text
abbrev pub number_of_text : List ℕ → Num
number_of_text us = number_in (trimmed us)
