-- What natives change: elements that are put, taken away or moved, and new arrays.
use Rattle.std.specs.Prelude.{ℕ, suc, ◌-◌, true, List, [], ◌∷◌, Some, None, decimal}
use Rattle.std.specs.Prelude.{nat_le, if◌then◌else◌}
use Rattle.mug_text.specs.declared.limits.TheConstants.{INDEX_END}
use Rattle.js_value.specs.declared.value.ObjId.{ObjId}
use Rattle.js_value.specs.declared.value.Value.{Value}
use Rattle.js_value.specs.declared.value.Value.TheVariants as value
use Rattle.js_heap.specs.Objects.{remove, with_object}
use Rattle.js_heap.specs.Puts.{put, set_length}
use Rattle.js_heap.specs.World.{World}
use Rattle.js_heap.specs.declared.class.Class.TheVariants as class
use Rattle.js_heap.specs.declared.root.Root.TheVariants as root
use Rattle.js_reference.specs.Errors.{next_object, root_object}
use Rattle.js_reference.specs.declared.error.ErrorName.TheVariants.{RangeError}
use Rattle.js_native_array.specs.Rows.{Row, gives, throws}
use Rattle.js_native_array.specs.Sources.{Slot}

-- an element is given a value, in its place or as the object's last property
abbrev pub put_at : World → ObjId → ℕ → Value → World
put_at w o k v = put w o (decimal k) v true

-- an element becomes what stands in a slot; a hole takes it away
abbrev pub placed : World → ObjId → ℕ → Slot → World
placed w o k None = remove w o (decimal k)
placed w o k (Some v) = put_at w o k v

-- a change for each of a list, with its number, one after the other
abbrev pub each_from : {X : Type 0} → (World → ℕ → X → World) → World → ℕ → List X → World
each_from f w k [] = w
each_from f w k (x ∷ xs) = each_from f (f w k x) (suc k) xs

-- the elements from an index on become these, one after the other
abbrev pub placed_up : World → ObjId → ℕ → List Slot → World
placed_up w o k xs = each_from (λ u i x. placed u o i x) w k xs

-- the same, the last one first
abbrev pub placed_down : World → ObjId → ℕ → List Slot → World
placed_down w o k [] = w
placed_down w o k (x ∷ xs) = placed (placed_down w o (suc k) xs) o k x

-- an element and the one opposite to it change places (15.4.4.8)
abbrev pub exchanged : ObjId → (last : ℕ) → World → ℕ → Slot × Slot → World
exchanged o last w k p = placed (placed w o k p.1) o (last - k) p.0

-- elements are given these values, from an index on
abbrev pub with_values : World → ObjId → ℕ → List Value → World
with_values w o k vs = each_from (λ u i v. put_at u o i v) w k vs

-- the elements of a new array; a hole is passed over
abbrev pub put_if : World → ObjId → ℕ → Slot → World
put_if w o k None = w
put_if w o k (Some v) = put_at w o k v

abbrev pub filled : World → ObjId → ℕ → List Slot → World
filled w o k xs = each_from (λ u i x. put_if u o i x) w k xs

-- a new array, which is the next object
abbrev pub with_array : World → World
with_array w = with_object w class.Array (Some (root_object root.ArrayPrototype))

abbrev pub new_array : World → Value
new_array w = value.Ref (next_object w)

-- a new array with these elements; its `length` is what the last one that is there makes it
abbrev pub with_elements : World → List Slot → World
with_elements w xs = filled (with_array w) (next_object w) 0 xs

-- a new array of holes
abbrev pub with_holes : World → ℕ → World
with_holes w n = set_length (with_array w) (next_object w) n

-- Last of all an array is given its `length`. The array has by then what its native put: a `length`
-- above the range of indices is refused (15.4.5.1).
abbrev pub lengthened : World → ObjId → ℕ → Value → Row
lengthened w a n v = if nat_le n INDEX_END then gives v (set_length w a n) else throws RangeError w
