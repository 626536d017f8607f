-- What can be called (ECMA-262 edition 5.1, 9.11), and what is an object. A native function without
-- an object counts as one.
use Rattle.std.specs.Prelude.{Bool, true, false, not, Option, Some, None}
use Rattle.std.specs.Option.{option_map, option_map_or}
use Rattle.js_value.specs.Image.{image, is_primitive}
use Rattle.js_value.specs.declared.value.NativeId.{NativeId}
use Rattle.js_value.specs.declared.value.ObjId.{ObjId}
use Rattle.js_value.specs.declared.value.Value.{Value}
use Rattle.js_value.specs.declared.value.Value.TheVariants as value
use Rattle.js_heap.specs.Objects.{class_of}
use Rattle.js_heap.specs.World.{World, object_at}
use Rattle.js_heap.specs.declared.class.Class.{Class}
use Rattle.js_heap.specs.declared.class.Class.TheVariants as class

abbrev pub is_object : Value → Bool
is_object v = not (is_primitive v)

-- the object that a value is, which is no native function without an object
abbrev pub image_as_object : Value → Option ObjId
image_as_object (value.Ref o) = Some o
image_as_object v = None

abbrev pub as_object : Value → Option ObjId
as_object v = image_as_object (image v)

abbrev pub class_at : World → ObjId → Option Class
class_at w o = option_map class_of (object_at w o)

abbrev pub class_is_callable : Class → Bool
class_is_callable (class.Function code) = true
class_is_callable (class.Bound b) = true
class_is_callable (class.Builtin (Some n)) = true
class_is_callable c = false

abbrev pub class_native : Class → Option NativeId
class_native (class.Builtin n) = n
class_native c = None

abbrev pub image_is_callable : World → Value → Bool
image_is_callable w (value.Ref o) = option_map_or class_is_callable (class_at w o) false
image_is_callable w (value.Native n) = true
image_is_callable w v = false

abbrev pub is_callable : World → Value → Bool
is_callable w v = image_is_callable w (image v)

abbrev option_native : Option Class → Option NativeId
option_native (Some c) = class_native c
option_native None = None

-- the native that a call of the value runs
abbrev pub image_native : World → Value → Option NativeId
image_native w (value.Ref o) = option_native (class_at w o)
image_native w (value.Native n) = Some n
image_native w v = None

abbrev pub native_of : World → Value → Option NativeId
native_of w v = image_native w (image v)

abbrev pub class_is_date : Class → Bool
class_is_date (class.Date n) = true
class_is_date c = false

abbrev pub image_is_date : World → Value → Bool
image_is_date w (value.Ref o) = option_map_or class_is_date (class_at w o) false
image_is_date w v = false

-- the value is a date (15.9)
abbrev pub is_date : World → Value → Bool
is_date w v = image_is_date w (image v)
