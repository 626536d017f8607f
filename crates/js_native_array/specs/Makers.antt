-- The natives that look at arrays and make new ones: `Array`, `Array.isArray`, `slice`, `concat`,
-- `indexOf` (ECMA-262 edition 5.1, 15.4.1, 15.4.2, 15.4.3.2, 15.4.4.4, 15.4.4.10, 15.4.4.14).
use Rattle.std.specs.Prelude.{ℕ, ◌+◌, ◌-◌, negsuc, Bool, true, false, List, [], ◌∷◌, Option}
use Rattle.std.specs.Prelude.{Some, None, ◌==◌, is_some, length, map, if◌then◌else◌}
use Rattle.std.specs.List.{flat_map, position}
use Rattle.std.specs.Option.{option_map, option_map_or}
use Rattle.js_value.specs.Same.{same}
use Rattle.js_value.specs.declared.number.Num.TheVariants.{Whole}
use Rattle.js_value.specs.declared.value.Value.{Value}
use Rattle.js_value.specs.declared.value.Value.TheVariants as value
use Rattle.js_heap.specs.Elements.{length_in}
use Rattle.js_heap.specs.World.{World}
use Rattle.js_host.specs.declared.call.NativeCall.{NativeCall}
use Rattle.js_reference.specs.declared.error.ErrorName.TheVariants.{RangeError, TypeError}
use Rattle.js_native_array.specs.Arguments.{end_in, integer_in, place_in, value_at}
use Rattle.js_native_array.specs.Changes.{new_array, with_elements, with_holes}
use Rattle.js_native_array.specs.Rows.{Row, count, gives, makes, of_some, within}
use Rattle.js_native_array.specs.Sources.{Slot, array_elements, array_in, elements, source}
use Rattle.js_native_array.specs.declared.source.Source.{Source}

-- a new array with these elements
abbrev pub lists : World → List Slot → Row
lists w xs = makes w (gives (new_array w) (with_elements w xs))

abbrev pub is_number : Value → Bool
is_number (value.Num n) = true
is_number v = false

-- one number is the new array's `length`
abbrev pub array_of_length : World → Value → Row
array_of_length w v =
    of_some RangeError w (length_in v) (λ n. makes w (gives (new_array w) (with_holes w n)))

-- `Array`, with and without `new`
abbrev pub array_of : World → List Value → Row
array_of w (v ∷ []) = if is_number v then array_of_length w v else lists w (Some v ∷ [])
array_of w vs = lists w (map Some vs)

abbrev pub array_row : World → NativeCall → Row
array_row w c = array_of w c.args

-- `Array.isArray`
abbrev pub is_array_row : World → NativeCall → Row
is_array_row w c = gives (value.Bool (is_some (array_in w (value_at c.args 0)))) w

-- the elements from one place up to another
abbrev pub part : World → Source → (from to : ℕ) → Row
part w s from to = within w (to - from) (lists w (elements w s.holder from (to - from)))

-- `slice`
abbrev pub slice_row : World → NativeCall → Row
slice_row w c =
    of_some TypeError w (source w c.this) (λ s.
    of_some RangeError w (integer_in (value_at c.args 0)) (λ from.
    of_some RangeError w (end_in s.length (value_at c.args 1)) (λ to.
    part w s (place_in s.length from) to)))

-- what a value adds: an array its elements, any other value itself
abbrev pub items_of : World → Value → List Slot
items_of w v = option_map_or (array_elements w) (array_in w v) (Some v ∷ [])

abbrev pub concatenated : World → List Slot → Row
concatenated w xs = within w (length xs) (lists w xs)

-- `concat`
abbrev pub concat_row : World → NativeCall → Row
concat_row w c =
    of_some TypeError w (source w c.this) (λ s.
    concatenated w (flat_map (items_of w) (c.this ∷ c.args)))

-- an element that is there, and is the value (11.9.6)
abbrev pub is_at : Value → Slot → Bool
is_at v x = option_map_or (same v) x false

-- a place, and -1 where there is none
abbrev pub index_or_none : Option ℕ → Value
index_or_none i = option_map_or count i (value.Num (Whole (negsuc 0)))

-- the first place from one on at which an element is the value
abbrev pub place_of : World → Source → Value → (from : ℕ) → Option ℕ
place_of w s v from =
    option_map (λ j. from + j) (position (is_at v) (elements w s.holder from (s.length - from)))

abbrev pub found_from : World → Source → Value → (from : ℕ) → Row
found_from w s v from =
    within w (s.length - from) (gives (index_or_none (place_of w s v from)) w)

-- `indexOf`; without elements the place isn't looked at
abbrev pub index_of_row : World → NativeCall → Row
index_of_row w c =
    of_some TypeError w (source w c.this) (λ s.
    if s.length == 0 then gives (index_or_none None) w
    else of_some RangeError w (integer_in (value_at c.args 1)) (λ from.
    found_from w s (value_at c.args 0) (place_in s.length from)))
