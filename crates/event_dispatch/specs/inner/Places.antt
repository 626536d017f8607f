-- How listeners are kept: in slots, one for each number, and for each object the places of its
-- listeners.
use Rattle.std.specs.Prelude.{◌≡◌, ℕ, suc, Bool, false, not, ◌==◌, List, [], ◌∷◌, ◌++◌, filter, length, map, slice_get, slice_set, Option, Some, None, unwrap_or, if◌then◌else◌}
use Rattle.std.specs.List.{filter_map}
use Rattle.std.specs.Option.{ForSome, option_flatten, option_map_or, option_to_list}
use Rattle.std.specs.Ordering.{nat_cmp}
use Rattle.std.specs.BTreeMap.{BTreeMap, get}
use Rattle.js_value.specs.declared.callable.Callable.{Callable}
use Rattle.event_dispatch.specs.Dispatch.{Pending, Phase, pending}
use Rattle.event_dispatch.specs.Listeners.{Listener, ListenerList, is_called, with_f}

-- those that are there
abbrev pub present : List (Option Listener) → List Listener
present [] = []
present (None ∷ es) = present es
present (Some l ∷ es) = l ∷ present es

-- what the slots hold, as a list
abbrev pub listed : List (Option Listener) → ListenerList
listed es = record { given = length es; listeners = present es }

-- the listener of number n stands in the first slot, that of the next number in the next, and so on
abbrev pub AreNumbered : ℕ → List (Option Listener) → Type 0
AreNumbered n [] = Unit {0}
AreNumbered n (e ∷ es) = ForSome e (λ l. l.number ≡ n) × AreNumbered (suc n) es

abbrev pub is_owned : ℕ → Option Listener → Bool
is_owned o e = option_map_or (λ l. l.owner.number == o) e false

-- the places of an object's listeners, where the first slot is number n
abbrev pub places_of : ℕ → ℕ → List (Option Listener) → List ℕ
places_of o n [] = []
places_of o n (e ∷ es) =
    if is_owned o e then n ∷ places_of o (suc n) es else places_of o (suc n) es

-- the listener at a place
abbrev pub one_at : List (Option Listener) → ℕ → List Listener
one_at es p = option_to_list (option_flatten (slice_get es p))

-- the listeners at these places
abbrev pub at_places : List (Option Listener) → List ℕ → List Listener
at_places es ps = filter_map (λ p. option_flatten (slice_get es p)) ps

-- the places that the index has for an object
abbrev pub places_at : BTreeMap ℕ (List ℕ) → ℕ → List ℕ
places_at m o = unwrap_or (get nat_cmp m o) []

-- the index after another place of an object is noted, behind the others
abbrev pub IsNoted : ℕ → ℕ → BTreeMap ℕ (List ℕ) → BTreeMap ℕ (List ℕ) → Type 0
IsNoted o p before after = (q : ℕ) → places_at after q
    ≡ (if q == o then places_at before q ++ p ∷ [] else places_at before q)

abbrev pub without_place : ℕ → List ℕ → List ℕ
without_place p ps = filter (λ q. not (q == p)) ps

-- the index after a place of an object is forgotten
abbrev pub IsForgotten : ℕ → ℕ → BTreeMap ℕ (List ℕ) → BTreeMap ℕ (List ℕ) → Type 0
IsForgotten o p before after = (q : ℕ) → places_at after q
    ≡ (if q == o then without_place p (places_at before q) else places_at before q)

abbrev pub HasSamePlaces : BTreeMap ℕ (List ℕ) → BTreeMap ℕ (List ℕ) → Type 0
HasSamePlaces before after = (q : ℕ) → places_at after q ≡ places_at before q

-- what holds of the slots and the index
pub record Holds (es : List (Option Listener)) (m : BTreeMap ℕ (List ℕ)) : Type 0 where
  pub numbered : AreNumbered 0 es
  pub indexed : (o : ℕ) → places_at m o ≡ places_of o 0 es

-- the numbers that are copied of these listeners, for the half of the way
abbrev pub pended : Phase → List ℕ → Bool → List Listener → List Pending
pended phase kind down ls = map (pending phase) (filter (is_called kind down) ls)

-- the slots after the listener at a place has another function to call
abbrev pub with_function_in : Option Listener → ℕ → Callable → List (Option Listener)
    → List (Option Listener)
with_function_in None p f es = es
with_function_in (Some l) p f es = slice_set es p (Some (with_f f l))

abbrev pub with_function : ℕ → Callable → List (Option Listener) → List (Option Listener)
with_function p f es = with_function_in (option_flatten (slice_get es p)) p f es
