-- Numbers: a whole number or NaN. The integers here have no bound; the profile is those from -(2^53 - 1) to 2^53 - 1, and NaN.
use Rattle.std.specs.Prelude.{Bool, false, Option, Some, None, if◌then◌else◌}
use Rattle.std.specs.Ordering.{int_eq}
use Rattle.js_value.specs.Range.{is_safe}
use Rattle.js_value.specs.declared.number.Num.{Num}
use Rattle.js_value.specs.declared.number.Num.TheVariants.{Whole, NaN}

-- the number where it is in the profile, and none else
abbrev pub in_profile : Num → Option Num
in_profile (Whole z) = if is_safe z then Some (Whole z) else None
in_profile NaN = Some NaN

-- equal, as NaN is to nothing (ECMA-262 edition 5.1, 11.9.6, step 4)
abbrev pub num_equal : Num → Num → Bool
num_equal (Whole a) (Whole b) = int_eq a b
num_equal (Whole a) NaN = false
num_equal NaN b = false
