-- Operators in front of one operand (ECMA-262 edition 5.1, 11.4).
use Rattle.std.specs.Prelude.{ℕ, true, not, List, Option, Some, None, codes, neg_ℤ, pos, ◌-ℤ◌}
use Rattle.std.specs.Prelude.{if◌then◌else◌}
use Rattle.std.specs.Option.{option_map}
use Rattle.js_value.specs.Image.{image, to_boolean}
use Rattle.js_value.specs.Numeral.{negated}
use Rattle.js_value.specs.declared.number.Num.{Num}
use Rattle.js_value.specs.declared.number.Num.TheVariants.{Whole}
use Rattle.js_value.specs.declared.value.Value.{Value}
use Rattle.js_value.specs.declared.value.Value.TheVariants as value
use Rattle.js_ops.specs.Convert.{to_number}
use Rattle.js_ops.specs.Numbers.{to_int32}
use Rattle.js_ops.specs.declared.equality.Hint.{Hint}
use Rattle.js_ops.specs.declared.equality.Hint.TheVariants as hint
use Rattle.js_heap.specs.World.{World}
use Rattle.js_reference.specs.Callables.{is_callable}
use Rattle.js_reference.specs.Errors.{Answer, or_throw}
use Rattle.js_reference.specs.Errors.Answer.{Returns}
use Rattle.js_reference.specs.declared.error.ErrorName.TheVariants.{RangeError}
use Rattle.js_tree.specs.declared.production.UnaryOperator.{UnaryOperator}
use Rattle.js_tree.specs.declared.production.UnaryOperator.TheVariants as unary

-- the type of a value that is no wrap, in the words of 11.4.3
abbrev pub image_type : World → Value → List ℕ
image_type w value.Undefined = codes "undefined"
image_type w value.Null = codes "object"
image_type w (value.Bool b) = codes "boolean"
image_type w (value.Num n) = codes "number"
image_type w (value.Text t) = codes "string"
image_type w v = if is_callable w v then codes "function" else codes "object"

abbrev pub type_of : World → Value → Value
type_of w v = value.Text (image_type w (image v))

-- an unbound name has the type of undefined
abbrev pub type_of_option : World → Option Value → Value
type_of_option w (Some v) = type_of w v
type_of_option w None = value.Text (codes "undefined")

-- `~` (11.4.8)
abbrev pub complement : Num → Value
complement n = value.Num (Whole (neg_ℤ (to_int32 n) -ℤ pos 1))

-- `+`, `-` and `~` convert their operand to a number
abbrev pub unary_wants : UnaryOperator → ℕ → Option Hint
unary_wants unary.Plus i = Some hint.Number
unary_wants unary.Minus i = Some hint.Number
unary_wants unary.BitNot i = Some hint.Number
unary_wants o i = None

-- what an operator gives of its converted operand; `delete` of what is no property is true (11.4.1,
-- step 2)
abbrev pub unary_operate : {H : Type 0} → World → H → UnaryOperator → Value → Answer H
unary_operate w h unary.Delete v = Returns (value.Bool true) w h
unary_operate w h unary.Void v = Returns value.Undefined w h
unary_operate w h unary.TypeOf v = Returns (type_of w v) w h
unary_operate w h unary.Plus v = or_throw RangeError w h (option_map value.Num (to_number v))
unary_operate w h unary.Minus v =
    or_throw RangeError w h (option_map (λ n. value.Num (negated n)) (to_number v))
unary_operate w h unary.BitNot v = or_throw RangeError w h (option_map complement (to_number v))
unary_operate w h unary.Not v = Returns (value.Bool (not (to_boolean v))) w h
