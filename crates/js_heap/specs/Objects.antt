-- Objects and their properties.
use Rattle.std.specs.Prelude.{ℕ, Bool, false, not, ◌&&◌, List, [], ◌∷◌, ◌++◌, Option, Some, codes, if◌then◌else◌, is_some, pos, slice_get, slice_set}
use Rattle.std.specs.Option.{option_map, option_map_or}
use Rattle.js_value.specs.Same.{text_equal}
use Rattle.js_value.specs.declared.number.Num.TheVariants.{Whole}
use Rattle.js_value.specs.declared.value.ObjId.{ObjId}
use Rattle.js_value.specs.declared.value.Value.{Value}
use Rattle.js_value.specs.declared.value.Value.TheVariants as value
use Rattle.js_heap.specs.Chains.{chain, first_some}
use Rattle.js_table.specs.Properties.{property_named, value_named, without}
use Rattle.js_heap.specs.World.{Object, Property, World}
use Rattle.js_heap.specs.declared.class.Class.{Class}
use Rattle.js_heap.specs.declared.class.Class.TheVariants as class

abbrev pub id_number : ObjId → ℕ
id_number o = o.number

abbrev pub prototype_number : Object → Option ℕ
prototype_number o = option_map id_number o.prototype

abbrev pub class_of : Object → Class
class_of o = o.class

abbrev pub prototype_of : Object → Option ObjId
prototype_of o = o.prototype

-- an array's `length` is its first property (ECMA-262 edition 5.1, 15.4.5.2); other objects have
-- none at first
abbrev pub first_properties : Class → List Property
first_properties class.Array =
    record { name = codes "length"; value = value.Num (Whole (pos 0)); listed = false } ∷ []
first_properties c = []

-- with one more object
abbrev pub with_object : World → Class → Option ObjId → World
with_object w c p = record {
  objects = w.objects ++ record { class = c; prototype = p; properties = first_properties c } ∷ [];
  scopes = w.scopes;
}

-- the own properties of the object of this number
abbrev pub properties_in : List Object → ℕ → List Property
properties_in os n = option_map_or (λ o. o.properties) (slice_get os n) []

abbrev pub properties_at : World → ObjId → List Property
properties_at w o = properties_in w.objects o.number

-- the value of the name in the first object along the prototypes that has it
abbrev pub value_along : List Object → Option ℕ → List ℕ → Option Value
value_along os p x =
    first_some (λ n. value_named x (properties_in os n)) (chain prototype_number os p)

-- the value of an object's own property (8.12.1)
abbrev pub get_own : World → ObjId → List ℕ → Option Value
get_own w o x = value_named x (properties_at w o)

-- the value of a property of the object, or else of its prototype, and so on (8.12.2)
abbrev pub get : World → ObjId → List ℕ → Option Value
get w o x = value_along w.objects (Some o.number) x

-- an array's `length`, which stays
abbrev pub is_length : Class → List ℕ → Bool
is_length class.Array x = text_equal x (codes "length")
is_length c x = false

-- whether the object has the property and gives it up (8.12.7)
abbrev pub gives_up : Object → List ℕ → Bool
gives_up o x = not (is_length o.class x) && is_some (property_named x o.properties)

abbrev pub object_without : List ℕ → Object → Object
object_without x o = record {
  class = o.class;
  prototype = o.prototype;
  properties = if is_length o.class x then o.properties else without x o.properties;
}

-- the objects after that of this number is changed
abbrev pub changed_at : List Object → ℕ → (Object → Object) → List Object
changed_at os n f = option_map_or (λ o. slice_set os n (f o)) (slice_get os n) os

abbrev pub gives_up_at : List Object → ℕ → List ℕ → Bool
gives_up_at os n x = option_map_or (λ o. gives_up o x) (slice_get os n) false

-- after an own property is removed, where the object gives it up
abbrev pub remove : World → ObjId → List ℕ → World
remove w o x = record {
  objects = changed_at w.objects o.number (object_without x);
  scopes = w.scopes;
}
