-- The natives that call a function for each element: `forEach`, `map`, `filter`, `some`, `every`,
-- `reduce` (ECMA-262 edition 5.1, 15.4.4.16 to 15.4.4.21). `length` is read once, each element when
-- its turn comes, and holes are passed over. Each call is entered: the native waits for its answer.
-- A page function whose `this` is undefined or null has the window.
use Rattle.std.specs.Prelude.{ℕ, suc, ◌-◌, true, false, List, [], ◌∷◌, Option, Some, None}
use Rattle.std.specs.Prelude.{length, nat_le, if◌then◌else◌}
use Rattle.std.specs.List.{range_with_len}
use Rattle.std.specs.Option.{option_and_then, option_map, option_map_or}
use Rattle.js_value.specs.Image.{to_boolean}
use Rattle.js_value.specs.declared.value.NativeId.{NativeId}
use Rattle.js_value.specs.declared.value.ObjId.{ObjId}
use Rattle.js_value.specs.declared.value.Value.{Value}
use Rattle.js_value.specs.declared.value.Value.TheVariants as value
use Rattle.js_heap.specs.Chains.{first_some}
use Rattle.js_heap.specs.World.{World}
use Rattle.js_host.specs.declared.call.Callback.TheVariants.{Call}
use Rattle.js_host.specs.declared.call.NativeCall.{NativeCall}
use Rattle.js_host.specs.declared.call.Outcome.TheVariants as outcome
use Rattle.js_host.specs.declared.call.Resume.{Resume}
use Rattle.js_reference.specs.Callables.{as_object, is_callable}
use Rattle.js_reference.specs.declared.error.ErrorName.TheVariants.{TypeError}
use Rattle.js_native_array.specs.Arguments.{value_at}
use Rattle.js_native_array.specs.Changes.{new_array, put_at, with_array, with_holes}
use Rattle.js_native_array.specs.Joins.{count_kept}
use Rattle.js_native_array.specs.Rows.{Row, count, gives, makes, of_some, or_throws, within}
use Rattle.js_native_array.specs.Sources.{array_length, element, holder, source}
use Rattle.js_native_array.specs.declared.native.Walking.{Walking}
use Rattle.js_native_array.specs.declared.native.Walking.TheVariants as walking
use Rattle.js_native_array.specs.declared.source.Source.{Source}
use Rattle.js_native_array.specs.declared.walk.Walk.{Walk}

-- What a walk keeps, as a list with the element whose turn it is; and from the list again.
abbrev pub kept_walk : Walk → Value → List Value
kept_walk s x = s.object ∷ count s.length ∷ s.function ∷ s.this ∷ s.result ∷ x ∷ []

abbrev pub walk_kept : List Value → Walk
walk_kept vs = record {
  object = value_at vs 0;
  length = count_kept (value_at vs 1);
  function = value_at vs 2;
  this = value_at vs 3;
  result = value_at vs 4;
}

abbrev pub element_kept : List Value → Value
element_kept vs = value_at vs 5

-- an element and its index
abbrev pub numbered : World → ObjId → ℕ → Option (ℕ × Value)
numbered w o k = option_map (λ v. (k, v)) (element w o k)

-- the first element from an index on, as the object has it by now
abbrev pub next_at : World → ObjId → ℕ → ℕ → Option (ℕ × Value)
next_at w o k n = first_some (numbered w o) (range_with_len k (n - k))

abbrev pub next_element : World → Value → ℕ → ℕ → Option (ℕ × Value)
next_element w v k n = option_and_then (λ o. next_at w o k n) (holder v)

-- with what the function is called: the element, its index and the object; for `reduce` behind what
-- there is so far
abbrev pub walk_arguments : Walking → Walk → ℕ → Value → List Value
walk_arguments walking.Reduce s k x = s.result ∷ x ∷ count k ∷ s.object ∷ []
walk_arguments m s k x = x ∷ count k ∷ s.object ∷ []

abbrev pub walk_enters : NativeId → Walking → World → Walk → ℕ × Value → Row
walk_enters id m w s p = (
  outcome.Enter (Call s.function s.this (walk_arguments m s p.0 p.1))
      (record { id = id; stage = p.0; kept = kept_walk s p.1 }),
  w,
)

-- goes on from an index
abbrev pub walk_from : NativeId → Walking → World → Walk → ℕ → Row
walk_from id m w s k =
    option_map_or (walk_enters id m w s) (next_element w s.object k s.length) (gives s.result w)

-- what comes before the first turn: `map` makes an array of holes, `filter` one without elements
abbrev pub walk_begun : NativeId → Walking → World → Walk → Row
walk_begun id walking.Map w s =
    makes w (walk_from id walking.Map (with_holes w s.length)
    (record s { result = new_array w }) 0)
walk_begun id walking.Filter w s =
    makes w (walk_from id walking.Filter (with_array w) (record s { result = new_array w }) 0)
walk_begun id m w s = walk_from id m w s 0

-- what is given where there is no element
abbrev pub first_result : Walking → Value
first_result walking.Any = value.Bool false
first_result walking.Every = value.Bool true
first_result m = value.Undefined

-- the native goes through an object with a whole `length`, and calls what can be called
abbrev pub walks : World → NativeCall → (Source → Row) → Row
walks w c row =
    of_some TypeError w (source w c.this) (λ s.
    or_throws TypeError w (is_callable w (value_at c.args 0)) (within w s.length (row s)))

-- `forEach`, `map`, `filter`, `some`, `every`
abbrev pub walk_row : NativeId → Walking → World → NativeCall → Row
walk_row id m w c =
    walks w c (λ s. walk_begun id m w (record {
      object = c.this;
      length = s.length;
      function = value_at c.args 0;
      this = value_at c.args 1;
      result = first_result m;
    }))

-- a `reduce` with what there is so far
abbrev pub reduction : NativeCall → Source → Value → Walk
reduction c s v = record {
  object = c.this;
  length = s.length;
  function = value_at c.args 0;
  this = value.Undefined;
  result = v;
}

-- without a first value the first element is it, and there must be one
abbrev pub reduced_from_first : NativeId → World → NativeCall → Source → Row
reduced_from_first id w c s =
    of_some TypeError w (next_at w s.holder 0 s.length) (λ p.
    walk_from id walking.Reduce w (reduction c s p.1) (suc p.0))

abbrev pub reduce_row : NativeId → World → NativeCall → Row
reduce_row id w c =
    walks w c (λ s.
    if nat_le 2 (length c.args)
    then walk_from id walking.Reduce w (reduction c s (value_at c.args 1)) 0
    else reduced_from_first id w c s)

-- the value that ends a walk at an answer
abbrev pub ended_by : Walking → Value → Option Value
ended_by walking.Any a = if to_boolean a then Some (value.Bool true) else None
ended_by walking.Every a = if to_boolean a then None else Some (value.Bool false)
ended_by m a = None

-- a new array with one more element
abbrev pub added_to : World → ObjId → Value → World
added_to w a v = put_at w a (array_length w a) v

-- an answer is kept in the new array at its index, or its element behind the others
abbrev pub world_answered : Walking → World → Walk → ℕ → (x a : Value) → World
world_answered walking.Map w s k x a = option_map_or (λ o. put_at w o k a) (as_object s.result) w
world_answered walking.Filter w s k x a =
    if to_boolean a then option_map_or (λ o. added_to w o x) (as_object s.result) w else w
world_answered m w s k x a = w

-- an answer to `reduce` is what there is so far
abbrev pub walk_answered : Walking → Walk → Value → Walk
walk_answered walking.Reduce s a = record s { result = a }
walk_answered m s a = s

abbrev pub walk_goes_on : NativeId → Walking → World → Walk → ℕ → (x a : Value) → Row
walk_goes_on id m w s k x a =
    walk_from id m (world_answered m w s k x a) (walk_answered m s a) (suc k)

abbrev pub walk_resumed : Walking → World → Resume → Value → Row
walk_resumed m w r a =
    option_map_or (λ v. gives v w) (ended_by m a)
    (walk_goes_on r.id m w (walk_kept r.kept) r.stage (element_kept r.kept) a)
