-- The objects through whose indices natives go (ECMA-262 edition 5.1, 15.4.4).
use Rattle.std.specs.Prelude.{ℕ, List, Option, Some, None, codes, decimal, map}
use Rattle.std.specs.Prelude.{if◌then◌else◌}
use Rattle.std.specs.List.{range_with_len}
use Rattle.std.specs.Option.{option_and_then, option_map}
use Rattle.js_value.specs.Image.{image}
use Rattle.js_value.specs.declared.number.Num.TheVariants.{Whole}
use Rattle.js_value.specs.declared.value.ObjId.{ObjId}
use Rattle.js_value.specs.declared.value.Value.{Value}
use Rattle.js_value.specs.declared.value.Value.TheVariants as value
use Rattle.js_ops.specs.Numbers.{to_uint32}
use Rattle.js_heap.specs.Elements.{length_of}
use Rattle.js_heap.specs.Objects.{get, properties_at}
use Rattle.js_heap.specs.World.{World}
use Rattle.js_heap.specs.declared.root.Root.TheVariants as root
use Rattle.js_reference.specs.Callables.{as_object}
use Rattle.js_reference.specs.Errors.{root_object}
use Rattle.js_reference.specs.Functions.{is_array_at}
use Rattle.js_native_array.specs.declared.source.Source.{Source}

-- The object that has a value's properties: an object itself, and for a native function without an
-- object the prototype of functions. A value that is no object has none.
abbrev pub image_holder : Value → Option ObjId
image_holder (value.Ref o) = Some o
image_holder (value.Native n) = Some (root_object root.FunctionPrototype)
image_holder v = None

abbrev pub holder : Value → Option ObjId
holder v = image_holder (image v)

-- what the object, or else its prototypes, have at an index; at a hole none
abbrev pub Slot : Type 0
Slot = Option Value

abbrev pub element : World → ObjId → ℕ → Slot
element w o k = get w o (decimal k)

-- the same at so many indices, from one on
abbrev pub elements : World → ObjId → ℕ → ℕ → List Slot
elements w o from n = map (element w o) (range_with_len from n)

-- a whole number as a count (9.6)
abbrev pub whole_count : Value → Option ℕ
whole_count (value.Num (Whole z)) = Some (to_uint32 (Whole z))
whole_count v = None

abbrev pub length_at : World → ObjId → Option ℕ
length_at w o = option_and_then whole_count (get w o (codes "length"))

abbrev pub source_at : World → ObjId → Option Source
source_at w o = option_map (λ n. record { holder = o; length = n }) (length_at w o)

-- a value as what natives go through: an object with a whole `length`
abbrev pub source : World → Value → Option Source
source w v = option_and_then (source_at w) (holder v)

abbrev pub if_array : World → ObjId → Option ObjId
if_array w o = if is_array_at w o then Some o else None

-- the array that a value is (15.4)
abbrev pub array_in : World → Value → Option ObjId
array_in w v = option_and_then (if_array w) (as_object v)

abbrev pub array_length : World → ObjId → ℕ
array_length w a = length_of (properties_at w a)

-- all elements of an array
abbrev pub array_elements : World → ObjId → List Slot
array_elements w a = elements w a 0 (array_length w a)
