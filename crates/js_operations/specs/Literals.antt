-- Array and object literals (ECMA-262 edition 5.1, 11.1.4, 11.1.5), of values in the order of the
-- text.
use Rattle.std.specs.Prelude.{ℕ, suc, Bool, true, false, List, [], ◌∷◌, Some, decimal}
use Rattle.std.specs.Prelude.{if◌then◌else◌}
use Rattle.js_value.specs.declared.value.ObjId.{ObjId}
use Rattle.js_value.specs.declared.value.Value.{Value}
use Rattle.js_value.specs.declared.value.Value.TheVariants as value
use Rattle.js_heap.specs.Objects.{with_object}
use Rattle.js_heap.specs.Puts.{put, set_length}
use Rattle.js_heap.specs.World.{World}
use Rattle.js_heap.specs.declared.class.Class.TheVariants as class
use Rattle.js_heap.specs.declared.root.Root.TheVariants as root
use Rattle.js_reference.specs.Errors.{Answer, next_object, root_object, thrown}
use Rattle.js_reference.specs.Errors.Answer.{Returns}
use Rattle.js_reference.specs.Room.{objects_fit}
use Rattle.js_reference.specs.declared.error.ErrorName.TheVariants.{RangeError}

-- an array's elements from an index on; one that isn't there is a hole, and `length` counts all
abbrev pub with_elements : World → ObjId → ℕ → (are_there : List Bool) → List Value → World
with_elements w a i (false ∷ es) vs = with_elements w a (suc i) es vs
with_elements w a i (true ∷ es) (v ∷ vs) =
    with_elements (put w a (decimal i) v true) a (suc i) es vs
with_elements w a i (true ∷ es) [] = set_length w a i
with_elements w a i [] vs = set_length w a i

-- an object's entries; a later value of a key takes an earlier one's place
abbrev pub with_entries : World → ObjId → (keys : List (List ℕ)) → List Value → World
with_entries w o (k ∷ ks) (v ∷ vs) = with_entries (put w o k v true) o ks vs
with_entries w o (k ∷ ks) [] = w
with_entries w o [] vs = w

-- with one more array
abbrev pub with_array : World → World
with_array w = with_object w class.Array (Some (root_object root.ArrayPrototype))

-- with one more object that has no class of its own
abbrev pub with_plain : World → World
with_plain w = with_object w class.Object (Some (root_object root.ObjectPrototype))

-- what a literal gives: the object that is made next, where it fits
abbrev pub literal : {H : Type 0} → World → H → (after : World) → Answer H
literal w h after =
    if objects_fit w 1 then Returns (value.Ref (next_object w)) after h
    else thrown RangeError w h

abbrev pub array_literal : {H : Type 0} → World → H → List Bool → List Value → Answer H
array_literal w h es vs = literal w h (with_elements (with_array w) (next_object w) 0 es vs)

abbrev pub object_literal : {H : Type 0} → World → H → List (List ℕ) → List Value → Answer H
object_literal w h ks vs = literal w h (with_entries (with_plain w) (next_object w) ks vs)
