-- `join` (ECMA-262 edition 5.1, 15.4.4.5). Objects among the elements are converted one after the
-- other: for each the native waits, and keeps the texts that it has so far.
use Rattle.std.specs.Prelude.{ℕ, ◌+◌, ◌-◌, suc, Bool, true, List, [], ◌∷◌, ◌++◌, Some}
use Rattle.std.specs.Prelude.{drop, length, map, unwrap_or, if◌then◌else◌}
use Rattle.std.specs.List.{flat_map, take_while}
use Rattle.std.specs.Option.{option_map_or}
use Rattle.js_value.specs.Image.{is_primitive}
use Rattle.js_value.specs.declared.value.NativeId.{NativeId}
use Rattle.js_value.specs.declared.value.Value.{Value}
use Rattle.js_value.specs.declared.value.Value.TheVariants as value
use Rattle.js_ops.specs.Convert.{as_text, is_missing, to_text}
use Rattle.js_ops.specs.Rows as operators
use Rattle.js_heap.specs.Elements.{length_in}
use Rattle.js_heap.specs.World.{World}
use Rattle.js_host.specs.declared.call.Callback.TheVariants.{Convert}
use Rattle.js_host.specs.declared.call.NativeCall.{NativeCall}
use Rattle.js_host.specs.declared.call.Outcome.TheVariants as outcome
use Rattle.js_host.specs.declared.call.Resume.{Resume}
use Rattle.js_reference.specs.declared.error.ErrorName.TheVariants.{RangeError, TypeError}
use Rattle.js_native_array.specs.Arguments.{separator, value_at}
use Rattle.js_native_array.specs.Rows.{Row, count, gives, of_some, within}
use Rattle.js_native_array.specs.Sources.{Slot, elements, holder, source}

-- What a join keeps: the object, what stands between the texts, how many indices there are, and the
-- texts so far.
abbrev pub text_in : Value → List ℕ
text_in v = unwrap_or (as_text v) []

abbrev pub count_kept : Value → ℕ
count_kept v = unwrap_or (length_in v) 0

abbrev pub join_object : (kept : List Value) → Value
join_object vs = value_at vs 0

abbrev pub join_between : (kept : List Value) → List ℕ
join_between vs = text_in (value_at vs 1)

abbrev pub join_length : (kept : List Value) → ℕ
join_length vs = count_kept (value_at vs 2)

abbrev pub join_texts : (kept : List Value) → List (List ℕ)
join_texts vs = map text_in (drop 3 vs)

-- texts behind one another, with something between
abbrev pub joined_by : List ℕ → List (List ℕ) → List ℕ
joined_by between [] = []
joined_by between (t ∷ ts) = t ++ flat_map (λ u. between ++ u) ts

-- the whole text, where it isn't too long
abbrev pub join_ended : World → (kept : List Value) → Row
join_ended w vs =
    of_some RangeError w (operators.joined (joined_by (join_between vs) (join_texts vs)))
    (λ t. gives t w)

-- undefined, null and holes are empty
abbrev pub slot_text : Slot → List ℕ
slot_text x = option_map_or (λ v. if is_missing v then [] else to_text v) x []

-- it has a text without a conversion
abbrev pub is_plain : Slot → Bool
is_plain x = option_map_or is_primitive x true

-- with the texts of these elements
abbrev pub with_texts : (kept : List Value) → List Slot → List Value
with_texts vs xs = vs ++ map (λ x. value.Text (slot_text x)) xs

-- at the first element that is an object, which stands at an index
abbrev pub join_waits : NativeId → World → (kept : List Value) → ℕ → List Slot → Row
join_waits id w vs k (Some v ∷ xs) =
    (outcome.Enter (Convert true v) (record { id = id; stage = k; kept = vs }), w)
join_waits id w vs k xs = join_ended w vs

abbrev pub join_among : NativeId → World → (kept : List Value) → ℕ → List Slot → Row
join_among id w vs k xs =
    let plain = take_while is_plain xs in
    join_waits id w (with_texts vs plain) (k + length plain) (drop (length plain) xs)

-- the elements from an index on, as the object has them by now
abbrev pub elements_left : World → Value → ℕ → ℕ → List Slot
elements_left w v k n = option_map_or (λ o. elements w o k (n - k)) (holder v) []

-- goes on from an index
abbrev pub join_from : NativeId → World → (kept : List Value) → ℕ → Row
join_from id w vs k =
    join_among id w vs k (elements_left w (join_object vs) k (join_length vs))

abbrev pub join_row : NativeId → World → NativeCall → Row
join_row id w c =
    of_some TypeError w (source w c.this) (λ s.
    within w s.length (join_from id w
    (c.this ∷ value.Text (separator (value_at c.args 0)) ∷ count s.length ∷ []) 0))

-- the element's text is there
abbrev pub join_resumed : World → Resume → (answer : Value) → Row
join_resumed w r a = join_from r.id w (r.kept ++ value.Text (to_text a) ∷ []) (suc r.stage)
