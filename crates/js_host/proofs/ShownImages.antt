-- What is shown of a value is shown of its image.
use Rattle.std.proofs.Common.{◌≡◌, List, ◌++◌, Option, Some, None, codes, unwrap_or, slice_get, refl, ap, ◌∙◌}
use Rattle.std.specs.Option.{option_and_then, option_map}
use Rattle.std.proofs.lemmas.Option.{slice_get-map}
use Rattle.js_value.specs.Image.{image}
use Rattle.js_value.specs.declared.value.ObjId.{ObjId}
use Rattle.js_value.specs.declared.value.Value.{Value}
use Rattle.js_value.specs.declared.value.Value.TheVariants as value
use Rattle.js_value.proofs.Images.{image-image}
use Rattle.js_ops.specs.Convert.{as_text, image_as_text}
use Rattle.js_heap.specs.Objects.{class_of, get}
use Rattle.js_heap.specs.World.{World, object_at}
use Rattle.js_heap.specs.declared.class.Class.{Class}
use Rattle.js_heap.specs.declared.class.Class.TheVariants as class
use Rattle.js_heap.specs.declared.object.Object.{Object}
use Rattle.js_host.specs.Images.{plain_class, plain_object, plain_world}
use Rattle.js_host.specs.Shown.{class_shown, error_shown, image_shown, message_shown, object_shown, shown}
use Rattle.js_host.proofs.Plain.{get-plain}

text-plain : (o : Option Value) → option_and_then as_text (option_map image o) ≡ option_and_then as_text o
text-plain None = refl
text-plain (Some v) = ap image_as_text (image-image v)

error-plain : (n m : Option Value) → error_shown (option_map image n) (option_map image m) ≡ error_shown n m
error-plain n m =
    ap (λ t. unwrap_or t (codes "Error") ++ message_shown (option_and_then as_text (option_map image m))) (text-plain n)
    ∙ ap (λ t. unwrap_or (option_and_then as_text n) (codes "Error") ++ message_shown t) (text-plain m)

error_at-plain : (w : World) (o : ObjId)
    → error_shown (get (plain_world w) o (codes "name")) (get (plain_world w) o (codes "message")) ≡ error_shown (get w o (codes "name")) (get w o (codes "message"))
error_at-plain w o =
    ap (λ n. error_shown n (get (plain_world w) o (codes "message"))) (get-plain w o (codes "name"))
    ∙ (ap (error_shown (option_map image (get w o (codes "name")))) (get-plain w o (codes "message")) ∙ error-plain (get w o (codes "name")) (get w o (codes "message")))

class-plain : (w : World) (o : ObjId) (c : Class) → class_shown (plain_world w) o (Some (plain_class c)) ≡ class_shown w o (Some c)
class-plain w o class.Object = refl
class-plain w o class.Array = refl
class-plain w o (class.Function c) = refl
class-plain w o (class.Bound b) = refl
class-plain w o (class.Date t) = refl
class-plain w o class.Error = error_at-plain w o
class-plain w o class.Arguments = refl
class-plain w o class.Event = refl
class-plain w o (class.Node n) = refl
class-plain w o (class.Request n) = refl
class-plain w o (class.Builtin None) = refl
class-plain w o (class.Builtin (Some n)) = refl

object-plain : (w : World) (o : ObjId) (p : Option Object)
    → class_shown (plain_world w) o (option_map class_of (option_map plain_object p)) ≡ class_shown w o (option_map class_of p)
object-plain w o None = refl
object-plain w o (Some p) = class-plain w o p.class

image-plain : (w : World) (v : Value) → image_shown (plain_world w) v ≡ image_shown w v
image-plain w (value.Ref o) =
    ap (λ p. class_shown (plain_world w) o (option_map class_of p)) (slice_get-map plain_object w.objects o.number) ∙ object-plain w o (object_at w o)
image-plain w v = refl

pub shown-plain : (w : World) (v : Value) → shown (plain_world w) (image v) ≡ shown w v
shown-plain w v = ap (image_shown (plain_world w)) (image-image v) ∙ image-plain w (image v)
