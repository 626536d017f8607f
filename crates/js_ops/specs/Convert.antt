-- The numbers and the texts of values (ECMA-262 edition 5.1, 9.3 and 9.8). An object is converted to a primitive value before an operator
-- sees it, so what stands here for one is never asked. Each is a function of the value's image.
use Rattle.std.specs.Prelude.{ℕ, Bool, true, false, List, [], Option, Some, None, codes, is_some, pos, if◌then◌else◌}
use Rattle.mug_text.specs.Number.{spelling}
use Rattle.js_value.specs.Image.{image}
use Rattle.js_value.specs.Number.{in_profile}
use Rattle.js_value.specs.Numeral.{number_of_text}
use Rattle.js_value.specs.declared.number.Num.{Num}
use Rattle.js_value.specs.declared.number.Num.TheVariants.{Whole, NaN}
use Rattle.js_value.specs.declared.value.Value.{Value}
use Rattle.js_value.specs.declared.value.Value.TheVariants as value

-- ToNumber (9.3); none where the number of a text is outside the profile
abbrev pub image_to_number : Value → Option Num
image_to_number value.Undefined = Some NaN
image_to_number value.Null = Some (Whole (pos 0))
image_to_number (value.Bool b) = Some (Whole (pos (if b then 1 else 0)))
image_to_number (value.Num n) = Some n
image_to_number (value.Text t) = in_profile (number_of_text t)
image_to_number (value.Ref o) = Some NaN
image_to_number (value.Native n) = Some NaN
image_to_number (value.Wrap h c) = Some NaN

abbrev pub to_number : Value → Option Num
to_number v = image_to_number (image v)

-- the decimal spelling, or `NaN` (9.8.1)
abbrev pub number_to_text : Num → List ℕ
number_to_text (Whole z) = spelling z
number_to_text NaN = codes "NaN"

-- ToString (9.8)
abbrev pub image_to_text : Value → List ℕ
image_to_text value.Undefined = codes "undefined"
image_to_text value.Null = codes "null"
image_to_text (value.Bool b) = if b then codes "true" else codes "false"
image_to_text (value.Num n) = number_to_text n
image_to_text (value.Text t) = t
image_to_text (value.Ref o) = []
image_to_text (value.Native n) = []
image_to_text (value.Wrap h c) = []

abbrev pub to_text : Value → List ℕ
to_text v = image_to_text (image v)

-- the text that the value is
abbrev pub image_as_text : Value → Option (List ℕ)
image_as_text value.Undefined = None
image_as_text value.Null = None
image_as_text (value.Bool b) = None
image_as_text (value.Num n) = None
image_as_text (value.Text t) = Some t
image_as_text (value.Ref o) = None
image_as_text (value.Native n) = None
image_as_text (value.Wrap h c) = None

abbrev pub as_text : Value → Option (List ℕ)
as_text v = image_as_text (image v)

abbrev pub is_text : Value → Bool
is_text v = is_some (as_text v)

-- undefined or null
abbrev pub image_is_missing : Value → Bool
image_is_missing value.Undefined = true
image_is_missing value.Null = true
image_is_missing (value.Bool b) = false
image_is_missing (value.Num n) = false
image_is_missing (value.Text t) = false
image_is_missing (value.Ref o) = false
image_is_missing (value.Native n) = false
image_is_missing (value.Wrap h c) = false

abbrev pub is_missing : Value → Bool
is_missing v = image_is_missing (image v)
