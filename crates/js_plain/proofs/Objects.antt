-- What objects have and are given commutes with the plain image.
use Rattle.std.proofs.Common.{◌≡◌, ℕ, List, [], ◌∷◌, ◌++◌, Bool, false, not}
use Rattle.std.proofs.Common.{◌&&◌, Option, Some}
use Rattle.std.proofs.Common.{flat_map, is_none, is_some, map, slice_get, slice_set}
use Rattle.std.proofs.Common.{if◌then◌else◌}
use Rattle.std.proofs.Common.{refl, ap, sym, ◌∙◌}
use Rattle.std.specs.Option.{option_map, option_map_or}
use Rattle.std.proofs.lemmas.List.{map-append}
use Rattle.js_value.specs.Image.{image}
use Rattle.js_value.specs.declared.value.ObjId.{ObjId}
use Rattle.js_value.specs.declared.value.Value.{Value}
use Rattle.js_table.specs.Listing.{listed_names}
use Rattle.js_table.specs.Properties.{property_named, without}
use Rattle.js_table.specs.declared.property.Property.{Property}
use Rattle.js_heap.specs.Chains.{chain}
use Rattle.js_heap.specs.Elements.{length_in}
use Rattle.js_heap.specs.Keys.{keys, properties_along}
use Rattle.js_heap.specs.Objects.{changed_at, first_properties, gives_up, gives_up_at, is_length}
use Rattle.js_heap.specs.Objects.{object_without, properties_in, prototype_number, remove}
use Rattle.js_heap.specs.Objects.{with_object}
use Rattle.js_heap.specs.Puts.{object_cut, object_with, put, refuses, refuses_at, set_length}
use Rattle.js_heap.specs.World.{World}
use Rattle.js_heap.specs.declared.class.Class.{Class}
use Rattle.js_heap.specs.declared.class.Class.TheVariants as class
use Rattle.js_heap.specs.declared.object.Object.{Object}
use Rattle.js_host.specs.Images.{plain_class, plain_object, plain_property, plain_world}
use Rattle.js_host.proofs.Plain.{get-plain, get_own-plain}
use Rattle.js_plain.specs.Heaps.{ObjectsCommute}
use Rattle.js_plain.proofs.Common.{chain-same, get-map, if-ap, is_some-map, or-along, or-same}
use Rattle.js_plain.proofs.Common.{set-map}
use Rattle.js_plain.proofs.Tables.{cut-plain, is_length-plain, length_in-plain, listed_names-plain}
use Rattle.js_plain.proofs.Tables.{property_named-plain, with_put-plain, without-plain}

first_properties-plain : (c : Class)
    → first_properties (plain_class c) ≡ map plain_property (first_properties c)
first_properties-plain class.Object = refl
first_properties-plain class.Array = refl
first_properties-plain (class.Function f) = refl
first_properties-plain (class.Bound b) = refl
first_properties-plain (class.Date n) = refl
first_properties-plain class.Error = refl
first_properties-plain class.Arguments = refl
first_properties-plain class.Event = refl
first_properties-plain (class.Node n) = refl
first_properties-plain (class.Request n) = refl
first_properties-plain (class.Builtin n) = refl

abbrev object : Class → Option ObjId → List Property → Object
object c p ps = record { class = c; prototype = p; properties = ps }

abbrev plains : List Object → List Object
plains os = map plain_object os

abbrev with_objects : World → List Object → World
with_objects w os = record { objects = os; scopes = (plain_world w).scopes }

pub with_object-plain : (w : World) (c : Class) (p : Option ObjId)
    → with_object (plain_world w) (plain_class c) p ≡ plain_world (with_object w c p)
with_object-plain w c p =
    ap (λ ps. with_objects w (plains w.objects ++ object (plain_class c) p ps ∷ []))
    (first_properties-plain c)
    ∙ ap (with_objects w) (sym (map-append plain_object w.objects (object c p
    (first_properties c) ∷ [])))

-- an object that is changed by what commutes
pub changed-plain : (f g : Object → Object) → ((o : Object) → g
    (plain_object o) ≡ plain_object
    (f o))
    → (os : List Object) (n : ℕ) → changed_at (plains os) n g ≡ plains (changed_at os n f)
changed-plain f g e os n =
    ap (λ o. option_map_or (λ k. slice_set (plains os) n (g k)) o (plains os))
    (get-map plain_object os n)
    ∙ or-along plain_object (λ k. slice_set (plains os) n (g k)) (λ k. slice_set os n
    (f k)) plains os
    (λ k. ap (slice_set (plains os) n) (e k) ∙ set-map plain_object os n (f k)) (slice_get os n)

object_with-plain : (x : List ℕ) (v : Value) (b : Bool) (o : Object)
    → object_with x (image v) b (plain_object o) ≡ plain_object (object_with x v b o)
object_with-plain x v b o = ap (object (plain_class o.class) o.prototype)
    (with_put-plain o.class x v b o.properties)

pub put-plain : (w : World) (o : ObjId) (x : List ℕ) (v : Value) (b : Bool)
    → put (plain_world w) o x (image v) b ≡ plain_world (put w o x v b)
put-plain w o x v b =
    ap (with_objects w)
    (changed-plain (object_with x v b) (object_with x (image v) b)
    (object_with-plain x v b) w.objects o.number)

refuses-plain : (x : List ℕ) (v : Value) (o : Object)
    → refuses (plain_object o) x (image v) ≡ refuses o x v
refuses-plain x v o =
    ap (λ b. b && is_none (length_in (image v))) (is_length-plain o.class x)
    ∙ ap (λ n. is_length o.class x && is_none n) (length_in-plain v)

pub refuses_at-plain : (os : List Object) (n : ℕ) (x : List ℕ) (v : Value)
    → refuses_at (plains os) n x (image v) ≡ refuses_at os n x v
refuses_at-plain os n x v =
    ap (λ o. option_map_or (λ k. refuses k x (image v)) o false) (get-map plain_object os n)
    ∙ or-same plain_object (λ k. refuses k x (image v)) (λ k. refuses k x v) false
    (refuses-plain x v) (slice_get os n)

object_cut-plain : (n : ℕ) (o : Object) → object_cut n (plain_object o) ≡ plain_object
    (object_cut n o)
object_cut-plain n o = ap (object (plain_class o.class) o.prototype) (cut-plain n o.properties)

set_length-plain : (w : World) (o : ObjId) (n : ℕ)
    → set_length (plain_world w) o n ≡ plain_world (set_length w o n)
set_length-plain w o n =
    ap (with_objects w) (changed-plain (object_cut n) (object_cut n)
    (object_cut-plain n) w.objects o.number)

object_without-plain : (x : List ℕ) (o : Object)
    → object_without x (plain_object o) ≡ plain_object (object_without x o)
object_without-plain x o =
    ap (λ b. object (plain_class o.class) o.prototype
    (if b then map plain_property o.properties else without x (map plain_property o.properties)))
    (is_length-plain o.class x)
    ∙ (ap (λ l. object (plain_class o.class) o.prototype
    (if is_length o.class x then map plain_property o.properties else l))
    (without-plain x o.properties)
    ∙ ap (object (plain_class o.class) o.prototype)
    (if-ap (map plain_property) (is_length o.class x) o.properties (without x o.properties)))

pub remove-plain : (w : World) (o : ObjId) (x : List ℕ)
    → remove (plain_world w) o x ≡ plain_world (remove w o x)
remove-plain w o x =
    ap (with_objects w)
    (changed-plain (object_without x) (object_without x)
    (object_without-plain x) w.objects o.number)

gives_up-plain : (x : List ℕ) (o : Object) → gives_up (plain_object o) x ≡ gives_up o x
gives_up-plain x o =
    ap (λ b. not b && is_some (property_named x (map plain_property o.properties)))
    (is_length-plain o.class x)
    ∙ (ap (λ p. not (is_length o.class x) && is_some p) (property_named-plain x o.properties)
    ∙ ap (λ b. not (is_length o.class x) && b) (is_some-map plain_property
    (property_named x o.properties)))

gives_up_at-plain : (os : List Object) (n : ℕ) (x : List ℕ)
    → gives_up_at (plains os) n x ≡ gives_up_at os n x
gives_up_at-plain os n x =
    ap (λ o. option_map_or (λ k. gives_up k x) o false) (get-map plain_object os n)
    ∙ or-same plain_object (λ k. gives_up k x) (λ k. gives_up k x) false (gives_up-plain x)
    (slice_get os n)

properties-plain : (o : Option Object)
    → option_map_or (λ k. k.properties) (option_map plain_object o) []
    ≡ map plain_property (option_map_or (λ k. k.properties) o [])
properties-plain o = or-along plain_object (λ k. k.properties) (λ k. k.properties)
    (map plain_property) [] (λ k. refl) o

properties_in-plain : (os : List Object) (n : ℕ)
    → properties_in (plains os) n ≡ map plain_property (properties_in os n)
properties_in-plain os n =
    ap (λ o. option_map_or (λ k. k.properties) o []) (get-map plain_object os n)
    ∙ properties-plain
    (slice_get os n)

pub prototypes-plain : (os : List Object) (p : Option ℕ)
    → chain prototype_number (plains os) p ≡ chain prototype_number os p
prototypes-plain os p = chain-same plain_object prototype_number prototype_number (λ o. refl) os p

along-plain : (os : List Object) (ns : List ℕ)
    → flat_map (λ n. properties_in (plains os) n) ns
    ≡ map plain_property (flat_map (λ n. properties_in os n) ns)
along-plain os [] = refl
along-plain os (n ∷ ns) =
    ap (λ l. l ++ flat_map (λ n. properties_in (plains os) n) ns) (properties_in-plain os n)
    ∙ (ap (λ l. map plain_property (properties_in os n) ++ l) (along-plain os ns)
    ∙ sym (map-append plain_property (properties_in os n) (flat_map
    (λ n. properties_in os n) ns)))

pub keys-plain : (w : World) (o : ObjId) → keys (plain_world w) o ≡ keys w o
keys-plain w o =
    ap (λ ns. listed_names (flat_map (λ n. properties_in (plains w.objects) n) ns))
    (prototypes-plain w.objects (Some o.number))
    ∙ (ap listed_names (along-plain w.objects (chain prototype_number w.objects (Some o.number)))
    ∙ listed_names-plain (properties_along w.objects (Some o.number)))

pub objects-plain : ObjectsCommute
objects-plain = record {
  with_object = with_object-plain;
  get_own = get_own-plain;
  get = get-plain;
  put = put-plain;
  refuses = λ w o x v. refuses_at-plain w.objects o.number x v;
  set_length = set_length-plain;
  remove = remove-plain;
  gives_up = λ w o x. gives_up_at-plain w.objects o.number x;
  keys = keys-plain;
}
