-- The texts of keys.
use Rattle.std.proofs.Common.{◌≡◌, Bool, true, false, [], refl}
use Rattle.js_value.specs.Image.{is_primitive}
use Rattle.js_value.specs.declared.value.Callee.TheVariants as callee
use Rattle.js_value.specs.declared.value.Value.{Value}
use Rattle.js_value.specs.declared.value.Value.TheVariants as value
use Rattle.js_ops.specs.Convert.{to_text}

-- an object, which is converted before, has none
pub text_of_object : (v : Value) → is_primitive v ≡ false → to_text v ≡ []
text_of_object (value.Ref o) e = refl
text_of_object (value.Native n) e = refl
text_of_object (value.Wrap f (callee.Ref o)) e = refl
text_of_object (value.Wrap f (callee.Native n)) e = refl
text_of_object value.Undefined e = cc
text_of_object value.Null e = cc
text_of_object (value.Bool b) e = cc
text_of_object (value.Num n) e = cc
text_of_object (value.Text t) e = cc
