-- The arguments of natives (ECMA-262 edition 5.1, 15.4.4). Objects among those that are wanted as
-- texts or numbers are converted before the call.
use Rattle.std.specs.Prelude.{ℕ, suc, ◌-◌, min, ℤ, pos, negsuc, Bool, true, false, List, Option}
use Rattle.std.specs.Prelude.{Some, codes, slice_get, unwrap_or, if◌then◌else◌}
use Rattle.std.specs.Option.{option_map}
use Rattle.js_value.specs.Image.{image}
use Rattle.js_value.specs.declared.value.Value.{Value}
use Rattle.js_value.specs.declared.value.Value.TheVariants as value
use Rattle.js_ops.specs.Convert.{to_number, to_text}
use Rattle.js_ops.specs.Numbers.{to_integer}

-- the value at a place, and undefined where there is none
abbrev pub value_at : List Value → ℕ → Value
value_at vs i = unwrap_or (slice_get vs i) value.Undefined

abbrev pub image_is_undefined : Value → Bool
image_is_undefined value.Undefined = true
image_is_undefined v = false

abbrev pub is_undefined : Value → Bool
is_undefined v = image_is_undefined (image v)

-- a whole number (9.4); none where the number of a text is outside the profile
abbrev pub integer_in : Value → Option ℤ
integer_in v = option_map to_integer (to_number v)

-- a place among so many: a negative one counts from the end (15.4.4.10, steps 5 to 8)
abbrev pub place_in : ℕ → ℤ → ℕ
place_in n (pos k) = min k n
place_in n (negsuc k) = n - suc k

-- how many of so many (15.4.4.12, step 7)
abbrev pub count_in : ℕ → ℤ → ℕ
count_in n (pos k) = min k n
count_in n (negsuc k) = 0

-- where a part ends: at the end, where nothing else is asked (15.4.4.10, step 7)
abbrev pub end_in : ℕ → Value → Option ℕ
end_in n v = if is_undefined v then Some n else option_map (place_in n) (integer_in v)

-- what stands between joined elements (15.4.4.5, step 4)
abbrev pub separator : Value → List ℕ
separator v = if is_undefined v then codes "," else to_text v
