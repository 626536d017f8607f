-- Number literals (ECMA-262 edition 5.1, 7.8.3), without fractions and exponents.
use Rattle.std.specs.Prelude.{ℕ, Bool, false, ◌&&◌, ◌||◌, not, ◌==◌, List, [], ◌∷◌, length, drop, codes, if◌then◌else◌}
use Rattle.mug_text.specs.Characters.{is_digit}
use Rattle.mug_text.specs.Digits.{are_digits, digits_value}
use Rattle.js_tokens.specs.Units.{is_part, begins, opens}

-- `0x` stands in front
abbrev pub is_hexadecimal : List ℕ → Bool
is_hexadecimal us = opens us (codes "0x")

-- digits without a zero in front, but for `0` itself
abbrev pub is_decimal : List ℕ → Bool
is_decimal us = are_digits 10 us && (length us == 1 || not (begins (λ u. u == 48) us))

-- these units spell a number
abbrev pub is_numeral : List ℕ → Bool
is_numeral us = if is_hexadecimal us then are_digits 16 (drop 2 us) else is_decimal us

-- which one
abbrev pub numeral_value : List ℕ → ℕ
numeral_value us = if is_hexadecimal us then digits_value 16 (drop 2 us) else digits_value 10 us

-- what may not stand behind a number: what a name goes on with, and `.` with a digit
abbrev pub goes_on : List ℕ → Bool
goes_on [] = false
goes_on (u ∷ behind) = is_part u || (u == 46 && begins is_digit behind)
