-- A row each for the operators; none where the operator throws a RangeError. All but `==` have primitive operands.
-- The rows look at a value only through functions of its image, which can't tell a wrap from what it calls.
use Rattle.std.specs.Prelude.{ℕ, Bool, false, ◌&&◌, ◌||◌, List, ◌++◌, length, nat_le, Option, Some, None, if◌then◌else◌}
use Rattle.std.specs.Cmp.Lexicographic.{slice_cmp}
use Rattle.std.specs.Option.{option_and_then, option_map}
use Rattle.std.specs.Ordering.{is_lt, nat_cmp}
use Rattle.mug_text.specs.declared.limits.TheConstants.{TEXT_LIMIT}
use Rattle.js_value.specs.Image.{is_primitive}
use Rattle.js_value.specs.Number.{in_profile, num_equal}
use Rattle.js_value.specs.Same.{same, text_equal}
use Rattle.js_value.specs.declared.number.Num.{Num}
use Rattle.js_value.specs.declared.number.Num.TheVariants.{Whole}
use Rattle.js_value.specs.declared.value.Value.{Value}
use Rattle.js_value.specs.declared.value.Value.TheVariants as value
use Rattle.js_ops.specs.Convert.{to_number, to_text, as_text, is_text, is_missing}
use Rattle.js_ops.specs.Numbers.{wholes, sum, whole_result, to_uint32, bits_result, number_less}
use Rattle.js_ops.specs.declared.equality.Equality.{Equality}
use Rattle.js_ops.specs.declared.equality.Equality.TheVariants.{Is, Converts}
use Rattle.js_ops.specs.declared.equality.Hint.TheVariants.{Default}
use Rattle.js_ops.specs.declared.equality.Side.{Side}
use Rattle.js_ops.specs.declared.equality.Side.TheVariants.{Left, Right}
use Rattle.js_ops.specs.declared.number.Arith.{Arith}
use Rattle.js_ops.specs.declared.number.Bits.{Bits}

-- what is made of both numbers, where both are there
abbrev pub both_numbers : {A : Type 0} → (Num → Num → Option A) → Option Num → Option Num → Option A
both_numbers f (Some m) (Some n) = f m n
both_numbers f (Some m) None = None
both_numbers f None n = None

abbrev pub of_numbers : {A : Type 0} → (Num → Num → Option A) → Value → Value → Option A
of_numbers f a b = both_numbers f (to_number a) (to_number b)

-- what is made of both texts, where both values are texts, and else the other
abbrev pub both_texts : {A : Type 0} → (List ℕ → List ℕ → A) → A → Option (List ℕ) → Option (List ℕ) → A
both_texts f other (Some s) (Some t) = f s t
both_texts f other (Some s) None = other
both_texts f other None t = other

abbrev pub of_texts : {A : Type 0} → (List ℕ → List ℕ → A) → A → Value → Value → A
of_texts f other a b = both_texts f other (as_text a) (as_text b)

-- the exact result, where it is in the profile
abbrev pub profiled : Option Num → Option Value
profiled r = option_map value.Num (option_and_then in_profile r)

-- a text, where it isn't too long
abbrev pub joined : List ℕ → Option Value
joined t = if nat_le (length t) TEXT_LIMIT then Some (value.Text t) else None

-- `+` (11.6.1)
abbrev pub add : Value → Value → Option Value
add a b = if is_text a || is_text b then joined (to_text a ++ to_text b) else of_numbers (λ m n. profiled (wholes sum m n)) a b

-- `-`, `*`, `/`, `%` (11.6.2, 11.5)
abbrev pub arith : Arith → Value → Value → Option Value
arith op a b = of_numbers (λ m n. profiled (wholes (whole_result op) m n)) a b

-- `&`, `|`, `^`, `<<`, `>>`, `>>>` (11.10, 11.7)
abbrev pub bits : Bits → Value → Value → Option Value
bits op a b = of_numbers (λ m n. Some (value.Num (Whole (bits_result op (to_uint32 m) (to_uint32 n))))) a b

-- `<` (11.8.5): two texts by their units, all else by numbers; nothing is said where NaN takes part
abbrev pub less : Value → Value → Option (Option Bool)
less a b = of_texts (λ s t. Some (Some (is_lt (slice_cmp nat_cmp s t)))) (of_numbers (λ m n. Some (number_less m n)) a b) a b

-- `==` on primitive values: undefined and null are equal to each other and to nothing else, two texts by their units, all else by numbers
abbrev pub equal_primitives : Value → Value → Option Bool
equal_primitives a b =
    if is_missing a || is_missing b then Some (is_missing a && is_missing b)
    else of_texts (λ s t. Some (text_equal s t)) (of_numbers (λ m n. Some (num_equal m n)) a b) a b

-- of a primitive value and an object, which stands on this side: unequal where the value is undefined or null, and else the object is converted
abbrev pub equal_object : Value → Side → Equality
equal_object v side = if is_missing v then Is false else Converts side Default

-- `==` of any two values (11.9.3): what it comes to, or what is converted before it is asked again
abbrev pub equal : Value → Value → Option Equality
equal a b =
    if is_primitive a then (if is_primitive b then option_map Is (equal_primitives a b) else Some (equal_object a Right))
    else (if is_primitive b then Some (equal_object b Left) else Some (Is (same a b)))
