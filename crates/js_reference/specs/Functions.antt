-- Function objects (ECMA-262 edition 5.1, 13.2).
use Rattle.std.specs.Prelude.{ℕ, Bool, true, false, codes, Some}
use Rattle.std.specs.Option.{option_map_or}
use Rattle.js_value.specs.declared.value.ObjId.{ObjId}
use Rattle.js_value.specs.declared.value.Value.TheVariants as value
use Rattle.js_heap.specs.Objects.{with_object}
use Rattle.js_heap.specs.Puts.{put}
use Rattle.js_heap.specs.World.{World, object_at}
use Rattle.js_heap.specs.declared.class.Class.{Class}
use Rattle.js_heap.specs.declared.class.Class.TheVariants as class
use Rattle.js_heap.specs.declared.class.Code.{Code}
use Rattle.js_heap.specs.declared.root.Root.TheVariants as root
use Rattle.js_reference.specs.Errors.{next_object, root_object}

-- the objects that a function is made of
abbrev pub objects_of_function : ℕ
objects_of_function = 2

-- the function, and then the object that is its `prototype`
abbrev pub with_function_objects : World → Code → World
with_function_objects w code =
    let v : World = with_object w (class.Function code) (Some (root_object root.FunctionPrototype))
    in with_object v class.Object (Some (root_object root.ObjectPrototype))

abbrev pub is_array : Class → Bool
is_array class.Array = true
is_array c = false

abbrev pub is_array_at : World → ObjId → Bool
is_array_at w o = option_map_or (λ k. is_array k.class) (object_at w o) false

-- each has the other as an unlisted property (13.2, steps 16 to 18)
abbrev pub linked : World → (function prototype : ObjId) → World
linked w f p =
    put (put w f (codes "prototype") (value.Ref p) false) p (codes "constructor")
    (value.Ref f) false

-- with one more function, which is the next object
abbrev pub with_function : World → Code → World
with_function w code =
    let v : World = with_object w (class.Function code) (Some (root_object root.FunctionPrototype))
    in linked (with_function_objects w code) (next_object w) (next_object v)
