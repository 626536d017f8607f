-- Rows on worked cases: an array that is the first object behind those that a heap holds from the
-- start, and what it holds afterwards.
use Rattle.std.specs.Prelude.{ℕ, false, List, Some}
use Rattle.js_value.specs.declared.value.NativeId.{NativeId}
use Rattle.js_value.specs.declared.value.ObjId.{ObjId}
use Rattle.js_value.specs.declared.value.Value.{Value}
use Rattle.js_value.specs.declared.value.Value.TheVariants as value
use Rattle.js_heap.specs.Keys.{keys}
use Rattle.js_heap.specs.Roots.{first_world, id_of}
use Rattle.js_heap.specs.World.{World}
use Rattle.js_heap.specs.Puts.{set_length}
use Rattle.js_host.specs.declared.call.Callback.TheVariants.{Call}
use Rattle.js_host.specs.declared.call.NativeCall.{NativeCall}
use Rattle.js_host.specs.declared.call.Outcome.{Outcome}
use Rattle.js_host.specs.declared.call.Outcome.TheVariants as outcome
use Rattle.js_host.specs.declared.call.Resume.{Resume}
use Rattle.js_native_array.specs.Changes.{with_elements}
use Rattle.js_native_array.specs.Rows.{Row, count}
use Rattle.js_native_array.specs.Sources.{Slot, array_elements}

-- the array, and an object that is made next
abbrev pub array : ObjId
array = id_of 16

abbrev pub made : ObjId
made = id_of 17

abbrev pub self : Value
self = value.Ref array

-- `parseInt` stands for any function
abbrev pub function : Value
function = value.Native (record { number = 0 })

-- an array of a length
abbrev pub held : List Slot → ℕ → World
held xs n = set_length (with_elements first_world xs) array n

abbrev pub one : ℕ → Slot
one n = Some (count n)

abbrev pub letter : List ℕ → Slot
letter t = Some (value.Text t)

abbrev pub call : List Value → NativeCall
call vs = record { construct = false; this = self; args = vs }

-- a value that is given, and what the array holds then
abbrev pub Left : Type 0
Left = Outcome × List Slot

abbrev pub left : Row → Left
left r = (r.0, array_elements r.1 array)

abbrev pub given : Value → List Slot → Left
given v xs = (outcome.Value v, xs)

-- what a new array holds, and the old one
abbrev pub both : Row → List Slot × List Slot
both r = (array_elements r.1 made, array_elements r.1 array)

-- the names of its elements, in their order
abbrev pub order : Row → List (List ℕ)
order r = keys r.1 array

-- a native that waits for a call with an element, its index and the array
abbrev pub waits : NativeId → ℕ → List Value → List Value → Outcome
waits id k args kept =
    outcome.Enter (Call function value.Undefined args) (record { id = id; stage = k; kept = kept })

-- the point at which a native goes on
abbrev pub point : NativeId → ℕ → List Value → Resume
point id k kept = record { id = id; stage = k; kept = kept }

abbrev pub native : ℕ → NativeId
native n = record { number = n }
