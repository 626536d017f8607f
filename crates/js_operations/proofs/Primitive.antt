-- What arithmetic gives is a primitive value.
use Rattle.std.proofs.Common.{Option, Some, None, IfSome, refl}
use Rattle.std.specs.Option.{option_and_then, option_map}
use Rattle.js_value.specs.Image.{IsPrimitive}
use Rattle.js_value.specs.Number.{in_profile}
use Rattle.js_value.specs.declared.number.Num.{Num}
use Rattle.js_value.specs.declared.value.Value.{Value}
use Rattle.js_value.specs.declared.value.Value.TheVariants as value
use Rattle.js_ops.specs.Convert.{to_number}
use Rattle.js_ops.specs.Numbers.{to_uint32, bits_result, whole_result, wholes}
use Rattle.js_ops.specs.Rows.{arith, bits, both_numbers, profiled}
use Rattle.js_ops.specs.declared.number.Arith.{Arith}
use Rattle.js_ops.specs.declared.number.Bits.{Bits}
use Rattle.js_value.specs.declared.number.Num.TheVariants.{Whole}

-- the value, if there is one, is primitive
abbrev pub ArePrimitive : Option Value → Type 0
ArePrimitive o = IfSome o (λ v. IsPrimitive v)

number_is_primitive : (o : Option Num) → ArePrimitive (option_map value.Num o)
number_is_primitive None = tt
number_is_primitive (Some n) = refl

both_are_primitive : (f : Num → Num → Option Value) → ((m n : Num) → ArePrimitive (f m n))
    → (x y : Option Num) → ArePrimitive (both_numbers f x y)
both_are_primitive f p None y = tt
both_are_primitive f p (Some m) None = tt
both_are_primitive f p (Some m) (Some n) = p m n

pub arith_is_primitive : (op : Arith) (a b : Value) → ArePrimitive (arith op a b)
arith_is_primitive op a b =
    both_are_primitive (λ m n. profiled (wholes (whole_result op) m n))
    (λ m n. number_is_primitive (option_and_then in_profile (wholes (whole_result op) m n)))
    (to_number a) (to_number b)

pub bits_is_primitive : (op : Bits) (a b : Value) → ArePrimitive (bits op a b)
bits_is_primitive op a b =
    both_are_primitive
    (λ m n. Some (value.Num (Whole (bits_result op (to_uint32 m) (to_uint32 n)))))
    (λ m n. refl) (to_number a) (to_number b)
