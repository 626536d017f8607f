-- Texts: bytes in UTF-8 (RFC 3629), lists of 16-bit units (ECMA-262 edition 5.1, 8.4), and the code points between them.
-- `encode_utf8 c` are the one to four bytes of the scalar value c, and `encode_utf16 c` its one or two units (the Unicode standard, 3.9);
-- `IsScalar c` says that c is at most 0x10FFFF and no surrogate, and `StartsWithNoChar` that no scalar value's bytes stand in front.
use Rattle.std.specs.Prelude.{◌≡◌, ◌≢◌, ℕ, ◌/◌, ◌%◌, Bool, true, ◌&&◌, ◌||◌, not, List, [], ◌∷◌, ◌++◌, length, map, flat_map, codes, nat_lt, ◌==◌, if◌then◌else◌}
use Rattle.std.specs.Char.{encode_utf8, digit_char}
use Rattle.std.specs.Char.Escape.{encode_utf16}
use Rattle.std.specs.Char.Utf16.{is_high_surrogate, is_low_surrogate, surrogate_pair_char}
use Rattle.std.specs.Str.{all_scalars, encode_utf8_all, StartsWithNoChar}
use lib.Utf8.{scalar}

-- the bytes are the UTF-8 of some scalar values, and the units are their UTF-16
pub record IsText (bytes units : List ℕ) : Type 0 where
  pub points : List ℕ
  pub scalars : all_scalars points ≡ true
  pub bytes_are : bytes ≡ encode_utf8_all points
  pub units_are : units ≡ flat_map encode_utf16 points

-- the bytes before this place are the UTF-8 of some scalar values, and at it no sequence begins
pub record StopsAt (bytes : List ℕ) (at : ℕ) : Type 0 where
  pub points : List ℕ
  pub rest : List ℕ
  pub scalars : all_scalars points ≡ true
  pub split : bytes ≡ encode_utf8_all points ++ rest
  pub place : at ≡ length (encode_utf8_all points)
  pub more : rest ≢ []
  pub none : StartsWithNoChar rest

-- a unit in front of code points: a high surrogate before a low one makes a pair with it
abbrev pub joined : ℕ → List ℕ → List ℕ
joined u [] = u ∷ []
joined u (c ∷ cs) = if is_high_surrogate u && is_low_surrogate c then surrogate_pair_char u c ∷ cs else u ∷ c ∷ cs

-- the code points of these units, where a surrogate without a partner stands for itself
abbrev pub code_points : List ℕ → List ℕ
code_points [] = []
code_points (u ∷ us) = joined u (code_points us)

-- no surrogate is without a partner
abbrev pub IsWellFormed : List ℕ → Type 0
IsWellFormed units = all_scalars (code_points units) ≡ true

-- the bytes of a text, with U+FFFD for each surrogate without a partner
abbrev pub utf8_of : List ℕ → List ℕ
utf8_of units = encode_utf8_all (map (λ c. if scalar c then c else 0xFFFD) (code_points units))

-- four lower-case hexadecimal digits
abbrev pub four_digits : ℕ → List ℕ
four_digits c = digit_char (c / 4096) ∷ digit_char (c / 256 % 16) ∷ digit_char (c / 16 % 16) ∷ digit_char (c % 16) ∷ []

-- below 32, 127, or a surrogate
abbrev pub is_hidden : ℕ → Bool
is_hidden c = nat_lt c 32 || (c == 127 || not (scalar c))

-- a code point as it is printed
abbrev pub shown_point : ℕ → List ℕ
shown_point c = if c == 92 then codes "\\\\" else (if c == 10 then codes "\\n" else (if is_hidden c then codes "\\u" ++ four_digits c else encode_utf8 c))

-- a text as it is printed
abbrev pub shown_text : List ℕ → List ℕ
shown_text units = flat_map shown_point (code_points units)
