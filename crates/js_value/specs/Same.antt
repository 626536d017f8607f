-- The strict equality of values (ECMA-262 edition 5.1, 11.9.6).
use Rattle.std.specs.Prelude.{ℕ, Bool, true, false, ◌==◌, List, nat_eq}
use Rattle.std.specs.Cmp.Lexicographic.{pointwise}
use Rattle.js_value.specs.Image.{image}
use Rattle.js_value.specs.Number.{num_equal}
use Rattle.js_value.specs.declared.value.Value.{Value}
use Rattle.js_value.specs.declared.value.Value.TheVariants as value

-- of the same length, and equal unit by unit
abbrev pub text_equal : List ℕ → List ℕ → Bool
text_equal s t = pointwise nat_eq s t

abbrev pub bool_equal : Bool → Bool → Bool
bool_equal true b = b
bool_equal false true = false
bool_equal false false = true

-- of values that are no wraps: values of different types are unequal
abbrev pub images_same : Value → Value → Bool
images_same value.Undefined value.Undefined = true
images_same value.Null value.Null = true
images_same (value.Bool a) (value.Bool b) = bool_equal a b
images_same (value.Num m) (value.Num n) = num_equal m n
images_same (value.Text s) (value.Text t) = text_equal s t
images_same (value.Ref o) (value.Ref p) = o.number == p.number
images_same (value.Native m) (value.Native n) = m.number == n.number
images_same _ _ = false

abbrev pub same : Value → Value → Bool
same v w = images_same (image v) (image w)
