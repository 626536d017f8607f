-- The natives that change an array: `push`, `pop`, `shift`, `unshift`, `splice`, `reverse`
-- (ECMA-262 edition 5.1, 15.4.4.6 to 15.4.4.9, 15.4.4.12, 15.4.4.13). Each is said by the elements
-- that the array, or else its prototypes, have before.
use Rattle.std.specs.Prelude.{ℕ, ◌+◌, ◌-◌, ◌/◌, List, [], ◌∷◌, ◌==◌, drop, length, nat_lt}
use Rattle.std.specs.Prelude.{reverse, take, unwrap_or, if◌then◌else◌}
use Rattle.std.specs.List.{zip}
use Rattle.js_value.specs.declared.value.ObjId.{ObjId}
use Rattle.js_value.specs.declared.value.Value.{Value}
use Rattle.js_value.specs.declared.value.Value.TheVariants as value
use Rattle.js_heap.specs.Puts.{set_length}
use Rattle.js_heap.specs.World.{World}
use Rattle.js_host.specs.declared.call.NativeCall.{NativeCall}
use Rattle.js_reference.specs.declared.error.ErrorName.TheVariants.{RangeError, TypeError}
use Rattle.js_native_array.specs.Arguments.{count_in, integer_in, place_in, value_at}
use Rattle.js_native_array.specs.Changes.{each_from, exchanged, lengthened, new_array, placed_down}
use Rattle.js_native_array.specs.Changes.{placed_up, with_elements, with_values}
use Rattle.js_native_array.specs.Rows.{Row, count, gives, makes, of_some, within}
use Rattle.js_native_array.specs.Sources.{Slot, array_elements, array_in, array_length, element}
use Rattle.js_native_array.specs.Sources.{elements}

-- the row of an array; of all else a TypeError
abbrev pub of_array : World → NativeCall → (ObjId → Row) → Row
of_array w c row = of_some TypeError w (array_in w c.this) row

-- what stands in a slot, undefined where it is a hole
abbrev pub slot_value : Slot → Value
slot_value x = unwrap_or x value.Undefined

-- `push`: the values behind the last index, and the new `length`
abbrev pub pushed : World → ObjId → List Value → Row
pushed w a vs =
    let n = array_length w a + length vs in
    lengthened (with_values w a (array_length w a) vs) a n (count n)

abbrev pub push_row : World → NativeCall → Row
push_row w c = of_array w c (λ a. pushed w a c.args)

-- `pop`: the last element, which is taken away with its index
abbrev pub popped : World → ObjId → ℕ → Row
popped w a n =
    if n == 0 then gives value.Undefined w
    else gives (slot_value (element w a (n - 1))) (set_length w a (n - 1))

abbrev pub pop_row : World → NativeCall → Row
pop_row w c = of_array w c (λ a. popped w a (array_length w a))

-- the first element, and the others, each one index lower
abbrev pub shifted : World → ObjId → List Slot → Row
shifted w a [] = gives value.Undefined w
shifted w a (x ∷ xs) = gives (slot_value x) (set_length (placed_up w a 0 xs) a (length xs))

-- `shift`
abbrev pub shift_row : World → NativeCall → Row
shift_row w c = of_array w c (λ a. within w (array_length w a) (shifted w a (array_elements w a)))

-- the elements each so much higher, and the values in front of them
abbrev pub unshifted : World → ObjId → List Slot → List Value → World
unshifted w a xs vs = with_values (placed_down w a (length vs) xs) a 0 vs

-- `unshift`: the new `length`
abbrev pub unshift_row : World → NativeCall → Row
unshift_row w c =
    of_array w c (λ a.
    let n = array_length w a + length c.args in
    within w n (lengthened (unshifted w a (array_elements w a) c.args) a n (count n)))

-- the elements behind a gap are moved to where another one ends: nothing is to be moved where both
-- are as wide
abbrev pub moved : World → ObjId → (to wide narrow : ℕ) → List Slot → World
moved w a to before after xs =
    if before == after then w
    else (if nat_lt after before then placed_up w a to xs else placed_down w a to xs)

-- `splice`: so many elements from a place on are taken out, and the values put in their stead
abbrev pub replaced : World → ObjId → (at out : ℕ) → List Slot → List Value → World
replaced w a at out rest vs =
    with_values (moved w a (at + length vs) out (length vs) rest) a at vs

-- how many indices `splice` goes through: those of what it takes out, and of what it moves
abbrev pub spliced_indices : (out put rest : ℕ) → ℕ
spliced_indices out put rest = if out == put then out else out + rest

-- what was taken out is a new array
abbrev pub spliced : World → ObjId → (at out : ℕ) → List Value → Row
spliced w a at out vs =
    let rest = array_length w a - (at + out) in
    within w (spliced_indices out (length vs) rest)
    (makes w (lengthened
    (replaced (with_elements w (elements w a at out)) a at out (elements w a (at + out) rest) vs)
    a (at + length vs + rest) (new_array w)))

abbrev pub splice_row : World → NativeCall → Row
splice_row w c =
    of_array w c (λ a.
    of_some RangeError w (integer_in (value_at c.args 0)) (λ from.
    of_some RangeError w (integer_in (value_at c.args 1)) (λ out.
    let at = place_in (array_length w a) from in
    spliced w a at (count_in (array_length w a - at) out) (drop 2 c.args))))

-- each element of the first half, with the one opposite to it
abbrev pub opposites : List Slot → List (Slot × Slot)
opposites xs = zip (take (length xs / 2) xs) (reverse xs)

abbrev pub reversed : World → ObjId → List Slot → World
reversed w a xs = each_from (exchanged a (length xs - 1)) w 0 (opposites xs)

-- `reverse`: the array
abbrev pub reverse_row : World → NativeCall → Row
reverse_row w c =
    of_array w c (λ a.
    within w (array_length w a) (gives c.this (reversed w a (array_elements w a))))
