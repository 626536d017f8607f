-- Functions of a value's image can't tell a wrap from what it calls, and neither can the rows, which are functions of both images.
use Rattle.std.proofs.Common.{◌≡◌, ◌++◌, ◌&&◌, ◌||◌, Bool, false, if◌then◌else◌, is_some, Option, Some, ap, ◌∙◌}
use Rattle.std.specs.Option.{option_map}
use Rattle.std.specs.Cmp.Lexicographic.{slice_cmp}
use Rattle.std.specs.Ordering.{is_lt, nat_cmp}
use Rattle.js_value.proofs.Images.{image-image}
use Rattle.js_value.specs.Image.{image, image_is_primitive}
use Rattle.js_value.specs.Number.{num_equal}
use Rattle.js_value.specs.Same.{images_same, text_equal}
use Rattle.js_value.specs.declared.number.Num.TheVariants.{Whole}
use Rattle.js_value.specs.declared.value.Value.{Value}
use Rattle.js_value.specs.declared.value.Value.TheVariants.{Num}
use Rattle.js_ops.specs.Convert.{image_to_number, image_to_text, image_as_text, image_is_missing, to_number, to_text, as_text, is_missing}
use Rattle.js_ops.specs.Numbers.{wholes, sum, whole_result, to_uint32, bits_result, number_less}
use Rattle.js_ops.specs.Rows as rows
use Rattle.js_ops.specs.declared.equality.Equality.{Equality}
use Rattle.js_ops.specs.declared.equality.Equality.TheVariants.{Is, Converts}
use Rattle.js_ops.specs.declared.equality.Hint.TheVariants.{Default}
use Rattle.js_ops.specs.declared.equality.Side.{Side}
use Rattle.js_ops.specs.declared.equality.Side.TheVariants.{Left, Right}
use Rattle.js_ops.specs.declared.number.Arith.{Arith}
use Rattle.js_ops.specs.declared.number.Bits.{Bits}

pub to_number-image : (v : Value) → to_number (image v) ≡ to_number v
to_number-image v = ap image_to_number (image-image v)

pub to_text-image : (v : Value) → to_text (image v) ≡ to_text v
to_text-image v = ap image_to_text (image-image v)

pub as_text-image : (v : Value) → as_text (image v) ≡ as_text v
as_text-image v = ap image_as_text (image-image v)

pub is_missing-image : (v : Value) → is_missing (image v) ≡ is_missing v
is_missing-image v = ap image_is_missing (image-image v)

-- of any function of both images
of_images : {A : Type 0} (f : Value → Value → A) (v w : Value) → f (image (image v)) (image (image w)) ≡ f (image v) (image w)
of_images f v w = ap (λ x. f x (image (image w))) (image-image v) ∙ ap (f (image v)) (image-image w)

pub add-image : (v w : Value) → rows.add (image v) (image w) ≡ rows.add v w
add-image v w = of_images (λ x y. if is_some (image_as_text x) || is_some (image_as_text y) then rows.joined (image_to_text x ++ image_to_text y) else rows.both_numbers (λ m n. rows.profiled (wholes sum m n)) (image_to_number x) (image_to_number y)) v w

pub arith-image : (op : Arith) (v w : Value) → rows.arith op (image v) (image w) ≡ rows.arith op v w
arith-image op v w = of_images (λ x y. rows.both_numbers (λ m n. rows.profiled (wholes (whole_result op) m n)) (image_to_number x) (image_to_number y)) v w

pub bits-image : (op : Bits) (v w : Value) → rows.bits op (image v) (image w) ≡ rows.bits op v w
bits-image op v w = of_images (λ x y. rows.both_numbers (λ m n. Some (Num (Whole (bits_result op (to_uint32 m) (to_uint32 n))))) (image_to_number x) (image_to_number y)) v w

pub less-image : (v w : Value) → rows.less (image v) (image w) ≡ rows.less v w
less-image v w = of_images (λ x y. rows.both_texts (λ s t. Some (Some (is_lt (slice_cmp nat_cmp s t)))) (rows.both_numbers (λ m n. Some (number_less m n)) (image_to_number x) (image_to_number y)) (image_as_text x) (image_as_text y)) v w

abbrev images_equal : Value → Value → Option Bool
images_equal x y = if image_is_missing x || image_is_missing y then Some (image_is_missing x && image_is_missing y) else rows.both_texts (λ s t. Some (text_equal s t)) (rows.both_numbers (λ m n. Some (num_equal m n)) (image_to_number x) (image_to_number y)) (image_as_text x) (image_as_text y)

abbrev images_equal_object : Value → Side → Equality
images_equal_object x side = if image_is_missing x then Is false else Converts side Default

pub equal_primitives-image : (v w : Value) → rows.equal_primitives (image v) (image w) ≡ rows.equal_primitives v w
equal_primitives-image v w = of_images images_equal v w

pub equal-image : (v w : Value) → rows.equal (image v) (image w) ≡ rows.equal v w
equal-image v w = of_images (λ x y. if image_is_primitive x then (if image_is_primitive y then option_map Is (images_equal x y) else Some (images_equal_object x Right)) else (if image_is_primitive y then Some (images_equal_object y Left) else Some (Is (images_same x y)))) v w
