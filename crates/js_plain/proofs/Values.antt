-- What values are commutes with the plain image.
use Rattle.std.proofs.Common.{◌≡◌, ℕ, List, ◌++◌, false, codes, length, Option, Some}
use Rattle.std.proofs.Common.{None, nat_le}
use Rattle.std.proofs.Common.{◌+◌, refl, ap, sym, ◌∙◌}
use Rattle.std.specs.Option.{option_map, option_map_or}
use Rattle.std.proofs.lemmas.List.{length-map}
use Rattle.js_value.specs.Image.{image}
use Rattle.js_value.specs.declared.value.ObjId.{ObjId}
use Rattle.js_value.specs.declared.value.Value.{Value}
use Rattle.js_value.specs.declared.value.Value.TheVariants as value
use Rattle.js_value.proofs.Images.{image-image}
use Rattle.js_heap.specs.Objects.{class_of, with_object}
use Rattle.js_heap.specs.Puts.{put}
use Rattle.js_heap.specs.Roots.{id_of}
use Rattle.js_heap.specs.World.{World, object_at}
use Rattle.js_heap.specs.declared.class.Class.{Class}
use Rattle.js_heap.specs.declared.class.Class.TheVariants as class
use Rattle.js_heap.specs.declared.class.Code.{Code}
use Rattle.js_heap.specs.declared.fault.TheConstants.{COUNT_LIMIT}
use Rattle.js_heap.specs.declared.root.Root.TheVariants as root
use Rattle.js_host.specs.Images.{plain_class, plain_object, plain_world}
use Rattle.js_reference.specs.Callables.{class_at, class_is_callable, class_is_date, class_native}
use Rattle.js_reference.specs.Callables.{image_is_callable, image_is_date, image_native}
use Rattle.js_reference.specs.Errors.{next_object, root_object}
use Rattle.js_reference.specs.Functions.{linked, with_function, with_function_objects}
use Rattle.js_reference.specs.Keys.{image_keys, indices_from, text_keys}
use Rattle.js_reference.specs.Room.{objects_fit}
use Rattle.js_plain.specs.Operations.{ValuesCommute}
use Rattle.js_plain.proofs.Common.{get-map, option-twice, or-same}
use Rattle.js_plain.proofs.Objects.{keys-plain, put-plain, with_object-plain}

pub class_at-plain : (w : World) (o : ObjId)
    → class_at (plain_world w) o ≡ option_map plain_class (class_at w o)
class_at-plain w o =
    ap (option_map class_of) (get-map plain_object w.objects o.number)
    ∙ (option-twice plain_object class_of (object_at w o)
    ∙ sym (option-twice class_of plain_class (object_at w o)))

callable-plain : (c : Class) → class_is_callable (plain_class c) ≡ class_is_callable c
callable-plain class.Object = refl
callable-plain class.Array = refl
callable-plain (class.Function f) = refl
callable-plain (class.Bound b) = refl
callable-plain (class.Date n) = refl
callable-plain class.Error = refl
callable-plain class.Arguments = refl
callable-plain class.Event = refl
callable-plain (class.Node n) = refl
callable-plain (class.Request n) = refl
callable-plain (class.Builtin n) = refl

date-plain : (c : Class) → class_is_date (plain_class c) ≡ class_is_date c
date-plain class.Object = refl
date-plain class.Array = refl
date-plain (class.Function f) = refl
date-plain (class.Bound b) = refl
date-plain (class.Date n) = refl
date-plain class.Error = refl
date-plain class.Arguments = refl
date-plain class.Event = refl
date-plain (class.Node n) = refl
date-plain (class.Request n) = refl
date-plain (class.Builtin n) = refl

native-plain : (c : Class) → class_native (plain_class c) ≡ class_native c
native-plain class.Object = refl
native-plain class.Array = refl
native-plain (class.Function f) = refl
native-plain (class.Bound b) = refl
native-plain (class.Date n) = refl
native-plain class.Error = refl
native-plain class.Arguments = refl
native-plain class.Event = refl
native-plain (class.Node n) = refl
native-plain (class.Request n) = refl
native-plain (class.Builtin n) = refl

image_is_callable-plain : (w : World) (v : Value)
    → image_is_callable (plain_world w) v ≡ image_is_callable w v
image_is_callable-plain w (value.Ref o) =
    ap (λ c. option_map_or class_is_callable c false) (class_at-plain w o)
    ∙ or-same plain_class class_is_callable class_is_callable false callable-plain (class_at w o)
image_is_callable-plain w value.Undefined = refl
image_is_callable-plain w value.Null = refl
image_is_callable-plain w (value.Bool b) = refl
image_is_callable-plain w (value.Num n) = refl
image_is_callable-plain w (value.Text t) = refl
image_is_callable-plain w (value.Native n) = refl
image_is_callable-plain w (value.Wrap k c) = refl

image_is_date-plain : (w : World) (v : Value) → image_is_date
    (plain_world w) v ≡ image_is_date w v
image_is_date-plain w (value.Ref o) =
    ap (λ c. option_map_or class_is_date c false) (class_at-plain w o)
    ∙ or-same plain_class class_is_date class_is_date false date-plain (class_at w o)
image_is_date-plain w value.Undefined = refl
image_is_date-plain w value.Null = refl
image_is_date-plain w (value.Bool b) = refl
image_is_date-plain w (value.Num n) = refl
image_is_date-plain w (value.Text t) = refl
image_is_date-plain w (value.Native n) = refl
image_is_date-plain w (value.Wrap k c) = refl

native_along : (w : World) (o : ObjId) (a : Option Class) → class_at
    (plain_world w) o ≡ option_map plain_class a
    → class_at w o ≡ a → image_native (plain_world w) (value.Ref o) ≡ image_native w
    (value.Ref o)
native_along w o (Some c) e f = rw e (rw f (native-plain c))
native_along w o None e f = rw e (rw f refl)

image_native-plain : (w : World) (v : Value) → image_native (plain_world w) v ≡ image_native w v
image_native-plain w (value.Ref o) = native_along w o (class_at w o) (class_at-plain w o) refl
image_native-plain w value.Undefined = refl
image_native-plain w value.Null = refl
image_native-plain w (value.Bool b) = refl
image_native-plain w (value.Num n) = refl
image_native-plain w (value.Text t) = refl
image_native-plain w (value.Native n) = refl
image_native-plain w (value.Wrap k c) = refl

text_keys-plain : (w : World) (t : List ℕ) → text_keys (plain_world w) t ≡ text_keys w t
text_keys-plain w t = ap (λ l. indices_from 0 (length t) ++ l) (keys-plain w
    (root_object root.StringPrototype))

image_keys-plain : (w : World) (v : Value) → image_keys (plain_world w) v ≡ image_keys w v
image_keys-plain w (value.Ref o) = keys-plain w o
image_keys-plain w (value.Native n) = keys-plain w (root_object root.FunctionPrototype)
image_keys-plain w (value.Text t) = text_keys-plain w t
image_keys-plain w (value.Num n) = keys-plain w (root_object root.NumberPrototype)
image_keys-plain w (value.Bool b) = keys-plain w (root_object root.BooleanPrototype)
image_keys-plain w value.Undefined = refl
image_keys-plain w value.Null = refl
image_keys-plain w (value.Wrap k c) = refl

pub objects_fit-plain : (w : World) (n : ℕ) → objects_fit (plain_world w) n ≡ objects_fit w n
objects_fit-plain w n = ap (λ k. nat_le (k + n) COUNT_LIMIT) (length-map w.objects plain_object)

pub next_object-plain : (w : World) → next_object (plain_world w) ≡ next_object w
next_object-plain w = ap id_of (length-map w.objects plain_object)

function_objects-plain : (w : World) (code : Code)
    → with_function_objects (plain_world w) code ≡ plain_world (with_function_objects w code)
function_objects-plain w code =
    ap (λ v. with_object v class.Object (Some (root_object root.ObjectPrototype)))
    (with_object-plain w (class.Function code) (Some (root_object root.FunctionPrototype)))
    ∙ with_object-plain (with_object w (class.Function code) (Some
    (root_object root.FunctionPrototype))) class.Object
    (Some (root_object root.ObjectPrototype))

linked-plain : (w : World) (f p : ObjId) → linked (plain_world w) f p ≡ plain_world
    (linked w f p)
linked-plain w f p =
    ap (λ v. put v p (codes "constructor") (value.Ref f) false) (put-plain w f (codes "prototype")
    (value.Ref p) false)
    ∙ put-plain (put w f (codes "prototype") (value.Ref p) false) p (codes "constructor")
    (value.Ref f) false

with_function-plain : (w : World) (code : Code)
    → with_function (plain_world w) code ≡ plain_world (with_function w code)
with_function-plain w code =
    let v : World = with_object w (class.Function code) (Some
    (root_object root.FunctionPrototype)) in
    ap (λ u. linked u (next_object (plain_world w))
    (next_object (with_object (plain_world w) (class.Function code) (Some
    (root_object root.FunctionPrototype)))))
    (function_objects-plain w code)
    ∙ (ap (λ o. linked (plain_world (with_function_objects w code)) o
    (next_object (with_object (plain_world w) (class.Function code) (Some
    (root_object root.FunctionPrototype)))))
    (next_object-plain w)
    ∙ (ap (λ u. linked (plain_world (with_function_objects w code)) (next_object w)
    (next_object u))
    (with_object-plain w (class.Function code) (Some (root_object root.FunctionPrototype)))
    ∙ (ap (linked (plain_world (with_function_objects w code)) (next_object w))
    (next_object-plain v)
    ∙ linked-plain (with_function_objects w code) (next_object w) (next_object v))))

pub values-plain : ValuesCommute
values-plain = record {
  is_callable = λ w v. ap (image_is_callable (plain_world w)) (image-image v)
      ∙ image_is_callable-plain w (image v);
  native_of = λ w v. ap (image_native (plain_world w)) (image-image v) ∙ image_native-plain w
      (image v);
  is_date = λ w v. ap (image_is_date (plain_world w)) (image-image v) ∙ image_is_date-plain w
      (image v);
  keys_in = λ w v. ap (image_keys (plain_world w)) (image-image v) ∙ image_keys-plain w
      (image v);
  with_function = with_function-plain;
}
