-- What an operation comes to, and the errors that one throws (ECMA-262 edition 5.1, 15.11.6): a new
-- error object of the name, without a message of its own. Where no object fits any more, the error
-- is the text of its name.
use Rattle.std.specs.Prelude.{ℕ, List, Option, Some, None, codes, length, if◌then◌else◌}
use Rattle.js_value.specs.declared.value.ObjId.{ObjId}
use Rattle.js_value.specs.declared.value.Value.{Value}
use Rattle.js_value.specs.declared.value.Value.TheVariants as value
use Rattle.js_heap.specs.Objects.{with_object}
use Rattle.js_heap.specs.Roots.{id_of, root_number}
use Rattle.js_heap.specs.World.{World}
use Rattle.js_heap.specs.declared.class.Class.TheVariants as class
use Rattle.js_heap.specs.declared.root.Root.{Root}
use Rattle.js_heap.specs.declared.root.Root.TheVariants as root
use Rattle.js_reference.specs.Room.{objects_fit}
use Rattle.js_reference.specs.declared.error.ErrorName.TheVariants.{RangeError, ReferenceError}
use Rattle.js_reference.specs.declared.error.ErrorName.TheVariants.{TypeError}
-- the errors that steps throw (15.11.6)
pub use Rattle.js_reference.specs.declared.error.ErrorName.{ErrorName}

-- an operation gives a value or throws one, and leaves a world and a host
pub data Answer (H : Type 0) : Type 0 where
  Returns : Value → World → H → Answer H
  Throws : Value → World → H → Answer H

-- the object of a root
abbrev pub root_object : Root → ObjId
root_object r = id_of (root_number r)

-- the object that is made next
abbrev pub next_object : World → ObjId
next_object w = id_of (length w.objects)

abbrev pub error_text : ErrorName → List ℕ
error_text RangeError = codes "RangeError"
error_text ReferenceError = codes "ReferenceError"
error_text TypeError = codes "TypeError"

abbrev pub error_prototype : ErrorName → ObjId
error_prototype RangeError = root_object root.RangeErrorPrototype
error_prototype ReferenceError = root_object root.ReferenceErrorPrototype
error_prototype TypeError = root_object root.TypeErrorPrototype

-- the error, and the world in which it is there
abbrev pub error_value : World → ErrorName → Value
error_value w e = if objects_fit w 1 then value.Ref (next_object w) else value.Text (error_text e)

abbrev pub with_error : World → ErrorName → World
with_error w e = if objects_fit w 1 then with_object w class.Error (Some (error_prototype e)) else w

-- an operation that throws the error
abbrev pub thrown : {H : Type 0} → ErrorName → World → H → Answer H
thrown e w h = Throws (error_value w e) (with_error w e) h

-- the value that was asked for, or else the error
abbrev pub or_throw : {H : Type 0} → ErrorName → World → H → Option Value → Answer H
or_throw e w h (Some v) = Returns v w h
or_throw e w h None = thrown e w h
