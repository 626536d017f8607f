-- What objects are given: properties, and an array its `length`.
use Rattle.std.specs.Prelude.{ℕ, Bool, false, ◌&&◌, List, is_none, slice_get}
use Rattle.std.specs.Option.{option_map_or}
use Rattle.js_value.specs.declared.value.ObjId.{ObjId}
use Rattle.js_value.specs.declared.value.Value.{Value}
use Rattle.js_heap.specs.Elements.{cut, length_in, with_element}
use Rattle.js_heap.specs.Objects.{changed_at, is_length}
use Rattle.js_table.specs.Properties.{with_property}
use Rattle.js_heap.specs.World.{Object, Property, World}
use Rattle.js_heap.specs.declared.class.Class.{Class}
use Rattle.js_heap.specs.declared.class.Class.TheVariants as class

-- after a name of an object of this class is given a value; `listed` counts only for a new name
abbrev pub with_put : Class → List ℕ → Value → Bool → List Property → List Property
with_put class.Array x v listed ps = with_element x v listed ps
with_put c x v listed ps = with_property x v listed ps

abbrev pub object_with : List ℕ → Value → Bool → Object → Object
object_with x v listed o = record {
  class = o.class;
  prototype = o.prototype;
  properties = with_put o.class x v listed o.properties;
}

abbrev pub object_cut : ℕ → Object → Object
object_cut n o = record {
  class = o.class;
  prototype = o.prototype;
  properties = cut n o.properties;
}

-- the value is no length, and would be an array's
abbrev pub refuses : Object → List ℕ → Value → Bool
refuses o x v = is_length o.class x && is_none (length_in v)

-- the same of the object of this number
abbrev pub refuses_at : List Object → ℕ → List ℕ → Value → Bool
refuses_at os n x v = option_map_or (λ o. refuses o x v) (slice_get os n) false

-- after an own property of the object is given a value (8.12.5, 15.4.5.1)
abbrev pub put : World → ObjId → List ℕ → Value → Bool → World
put w o x v listed = record {
  objects = changed_at w.objects o.number (object_with x v listed);
  scopes = w.scopes;
}

-- after an array is given this length
abbrev pub set_length : World → ObjId → ℕ → World
set_length w o n = record {
  objects = changed_at w.objects o.number (object_cut n);
  scopes = w.scopes;
}
