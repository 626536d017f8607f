-- Functions of a value's image can't tell a wrap from what it calls.
use Rattle.std.proofs.Common.{◌≡◌, refl, ap}
use Rattle.js_value.specs.Image.{image, image_is_primitive, image_to_boolean, is_primitive, to_boolean, value_of}
use Rattle.js_value.specs.Same.{images_same, same}
use Rattle.js_value.specs.declared.value.Callee.{Callee}
use Rattle.js_value.specs.declared.value.Callee.TheVariants as callee
use Rattle.js_value.specs.declared.value.Value.{Value}
use Rattle.js_value.specs.declared.value.Value.TheVariants as value

image-value_of : (c : Callee) → image (value_of c) ≡ value_of c
image-value_of (callee.Ref o) = refl
image-value_of (callee.Native n) = refl

pub image-image : (v : Value) → image (image v) ≡ image v
image-image value.Undefined = refl
image-image value.Null = refl
image-image (value.Bool b) = refl
image-image (value.Num n) = refl
image-image (value.Text t) = refl
image-image (value.Ref o) = refl
image-image (value.Native n) = refl
image-image (value.Wrap h c) = image-value_of c

pub is_primitive-image : (v : Value) → is_primitive (image v) ≡ is_primitive v
is_primitive-image v = ap image_is_primitive (image-image v)

pub to_boolean-image : (v : Value) → to_boolean (image v) ≡ to_boolean v
to_boolean-image v = ap image_to_boolean (image-image v)

pub same-image_left : (v w : Value) → same (image v) w ≡ same v w
same-image_left v w = ap (λ x. images_same x (image w)) (image-image v)

pub same-image_right : (v w : Value) → same v (image w) ≡ same v w
same-image_right v w = ap (images_same (image v)) (image-image w)
