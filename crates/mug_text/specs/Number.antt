-- The texts of whole numbers.
use Rattle.std.specs.Prelude.{◌≡◌, ◌≢◌, ℕ, ◌<◌, ◌⊎◌, List, length, slice_index, decimal, ℤ}
use Rattle.std.specs.Fmt.{signed_decimal}
use Rattle.mug_text.specs.declared.limits.TheConstants.{INDEX_END}

-- the decimal digits of a whole number, none of them a leading zero, after a minus sign where it is below zero (ECMA-262 edition 5.1, 9.8.1)
abbrev pub spelling : ℤ → List ℕ
spelling n = signed_decimal n

-- the text is the spelling of this array index (ECMA-262 edition 5.1, 15.4)
abbrev pub IsIndex : List ℕ → ℕ → Type 0
IsIndex units n = (n < INDEX_END) × (units ≡ decimal n)

-- it is the spelling of none
abbrev pub NoIndex : List ℕ → Type 0
NoIndex units = (n : ℕ) → n < INDEX_END → units ≢ decimal n

-- a sign stands in front, or a zero that isn't alone: no number's decimal digits begin so
abbrev pub IsPadded : List ℕ → Type 0
IsPadded units = (slice_index units 0 ≡ 43) ⊎ ((slice_index units 0 ≡ 48) × (1 < length units))
