-- Arithmetic on numbers (ECMA-262 edition 5.1, 9.4, 9.5, 9.6, 11.5 to 11.7, 11.8.5, 11.10), over integers without a bound.
use Rattle.std.specs.Prelude.{ℕ, ◌*◌, ◌/◌, ◌%◌, ◌^◌, ℤ, pos, ◌+ℤ◌, ◌-ℤ◌, ◌*ℤ◌, int_div, int_rem, int_lt, unsigned_abs, bit_and, bit_or, bit_xor, Bool, Option, Some, None, if◌then◌else◌}
use Rattle.std.specs.Int.{w32, cast_signed, int_rem_euclid, int_shr}
use Rattle.std.specs.Ordering.{int_eq}
use Rattle.js_value.specs.declared.number.Num.{Num}
use Rattle.js_value.specs.declared.number.Num.TheVariants.{Whole, NaN}
use Rattle.js_ops.specs.declared.number.Arith.{Arith}
use Rattle.js_ops.specs.declared.number.Arith.TheVariants as arith
use Rattle.js_ops.specs.declared.number.Bits.{Bits}
use Rattle.js_ops.specs.declared.number.Bits.TheVariants as bits

-- with NaN every result is NaN
abbrev pub wholes : (ℤ → ℤ → Option Num) → Num → Num → Option Num
wholes f (Whole a) (Whole b) = f a b
wholes f (Whole a) NaN = Some NaN
wholes f NaN n = Some NaN

-- 11.6.1
abbrev pub sum : ℤ → ℤ → Option Num
sum a b = Some (Whole (a +ℤ b))

-- 11.5.2: 0/0 is NaN; none where the quotient would be an infinity or a fraction
abbrev pub quotient : ℤ → ℤ → Option Num
quotient a b = if int_eq b (pos 0) then (if int_eq a (pos 0) then Some NaN else None) else (if int_eq (int_rem a b) (pos 0) then Some (Whole (int_div a b)) else None)

-- 11.5.3: with the dividend's sign; NaN where the divisor is 0
abbrev pub remainder : ℤ → ℤ → Option Num
remainder a b = if int_eq b (pos 0) then Some NaN else Some (Whole (int_rem a b))

-- 11.6.2, 11.5.1, and these
abbrev pub whole_result : Arith → ℤ → ℤ → Option Num
whole_result arith.Sub a b = Some (Whole (a -ℤ b))
whole_result arith.Mul a b = Some (Whole (a *ℤ b))
whole_result arith.Div a b = quotient a b
whole_result arith.Rem a b = remainder a b

-- ToInteger (9.4): 0 of NaN
abbrev pub to_integer : Num → ℤ
to_integer (Whole z) = z
to_integer NaN = pos 0

-- ToUint32 (9.6): modulo 2^32, and 0 of NaN
abbrev pub to_uint32 : Num → ℕ
to_uint32 (Whole z) = unsigned_abs (int_rem_euclid z (pos (2 ^ 32)))
to_uint32 NaN = 0

-- ToInt32 (9.5) of a number that is so reduced: from 2^31 on, less 2^32
abbrev pub signed : ℕ → ℤ
signed x = cast_signed w32 x

abbrev pub to_int32 : Num → ℤ
to_int32 n = signed (to_uint32 n)

-- 11.10 and 11.7, of 32 bits each; the count of a shift is modulo 32
abbrev pub bits_result : Bits → ℕ → ℕ → ℤ
bits_result bits.Both x y = signed (bit_and x y)
bits_result bits.Either x y = signed (bit_or x y)
bits_result bits.Unlike x y = signed (bit_xor x y)
bits_result bits.Left x y = signed (x * 2 ^ (y % 32) % 2 ^ 32)
bits_result bits.Right x y = int_shr (signed x) (y % 32)
bits_result bits.Zero x y = pos (x / 2 ^ (y % 32))

-- 11.8.5: none where NaN takes part
abbrev pub number_less : Num → Num → Option Bool
number_less (Whole a) (Whole b) = Some (int_lt a b)
number_less (Whole a) NaN = None
number_less NaN n = None
