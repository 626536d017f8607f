-- What a wrap stands for. Rows look at a value only through functions that can't tell a wrap from its callee: functions of its image.
use Rattle.std.specs.Prelude.{Bool, true, false, not, ◌==◌, length, pos, IsTrue}
use Rattle.std.specs.Ordering.{int_eq}
use Rattle.js_value.specs.declared.number.Num.{Num}
use Rattle.js_value.specs.declared.number.Num.TheVariants.{Whole, NaN}
use Rattle.js_value.specs.declared.value.Callee.{Callee}
use Rattle.js_value.specs.declared.value.Callee.TheVariants as callee
use Rattle.js_value.specs.declared.value.Value.{Value}
use Rattle.js_value.specs.declared.value.Value.TheVariants as value

abbrev pub value_of : Callee → Value
value_of (callee.Ref o) = value.Ref o
value_of (callee.Native n) = value.Native n

-- a wrap's image is what it calls; any other value's image is itself
abbrev pub image : Value → Value
image value.Undefined = value.Undefined
image value.Null = value.Null
image (value.Bool b) = value.Bool b
image (value.Num n) = value.Num n
image (value.Text t) = value.Text t
image (value.Ref o) = value.Ref o
image (value.Native n) = value.Native n
image (value.Wrap h c) = value_of c

-- not 0 and not NaN
abbrev pub number_to_boolean : Num → Bool
number_to_boolean (Whole z) = not (int_eq z (pos 0))
number_to_boolean NaN = false

-- ToBoolean (ECMA-262 edition 5.1, 9.2) of a value that is no wrap
abbrev pub image_to_boolean : Value → Bool
image_to_boolean value.Undefined = false
image_to_boolean value.Null = false
image_to_boolean (value.Bool b) = b
image_to_boolean (value.Num n) = number_to_boolean n
image_to_boolean (value.Text t) = not (length t == 0)
image_to_boolean (value.Ref o) = true
image_to_boolean (value.Native n) = true
image_to_boolean (value.Wrap h c) = true

abbrev pub to_boolean : Value → Bool
to_boolean v = image_to_boolean (image v)

-- neither an object nor a native function (the types of ECMA-262 edition 5.1, 8.1 to 8.5), of a value that is no wrap
abbrev pub image_is_primitive : Value → Bool
image_is_primitive value.Undefined = true
image_is_primitive value.Null = true
image_is_primitive (value.Bool b) = true
image_is_primitive (value.Num n) = true
image_is_primitive (value.Text t) = true
image_is_primitive (value.Ref o) = false
image_is_primitive (value.Native n) = false
image_is_primitive (value.Wrap h c) = false

abbrev pub is_primitive : Value → Bool
is_primitive v = image_is_primitive (image v)

abbrev pub IsPrimitive : Value → Type 0
IsPrimitive v = IsTrue (is_primitive v)
