-- How a queue is kept: in slots, one for each number, as a tree over their list.
use Rattle.std.specs.Prelude.{◌≡◌, ℕ, zero, suc, ◌+◌, ◌/◌, ◌<◌, ◌≤◌, min, ◌==◌, List, [], ◌∷◌, ◌++◌, length, map, take, drop, replicate, slice_get, Option, Some, None, if◌then◌else◌}
use Rattle.std.specs.Option.{ForSome, option_map_or}
use Rattle.mug_text.specs.declared.limits.TheConstants.{SAFE_END}
use Rattle.timer_queue.specs.Queue.{Timer}
use Rattle.timer_queue.specs.declared.fault.TheConstants.{TIMER_LIMIT}
use Rattle.timer_queue.specs.declared.slots.Slot.{Slot}
use Rattle.timer_queue.specs.declared.slots.TheConstants.{NEVER}

abbrev pub timers_in : List Slot → List (Option Timer)
timers_in ss = map (λ s. s.timer) ss

-- the timers that are there
abbrev pub present : List (Option Timer) → List Timer
present [] = []
present (None ∷ ts) = present ts
present (Some t ∷ ts) = t ∷ present ts

-- a timer that is kept under this number; its delay and due are so small that no sum passes 64 bits
pub record Stands (n : ℕ) (t : Timer) : Type 0 where
  pub number : t.id ≡ n
  pub due : t.due < NEVER
  pub every : ForSome t.every (λ delay. delay < SAFE_END)

-- the timer of number n + 1 stands in the first slot, that of the next number in the next, and so
-- on
abbrev pub AreNumbered : ℕ → List (Option Timer) → Type 0
AreNumbered n [] = Unit {0}
AreNumbered n (t ∷ ts) = ForSome t (Stands (suc n)) × AreNumbered (suc n) ts

abbrev pub due_in : Option Timer → ℕ
due_in None = NEVER
due_in (Some t) = t.due

abbrev pub least_due : List (Option Timer) → ℕ
least_due [] = NEVER
least_due (t ∷ ts) = min (due_in t) (least_due ts)

-- the first timer that is due at this moment
abbrev pub first_with : ℕ → List (Option Timer) → Option Timer
first_with due [] = None
first_with due (t ∷ ts) = if due_in t == due then t else first_with due ts

-- the root of a tree, and the trees before and behind it
abbrev pub middle : List Slot → ℕ
middle ss = length ss / 2

abbrev pub before : List Slot → List Slot
before ss = take (middle ss) ss

abbrev pub behind : List Slot → List Slot
behind ss = drop (middle ss + 1) ss

abbrev pub least_at : Option Slot → ℕ
least_at s = option_map_or (λ s. s.least) s NEVER

-- each root of a tree at most so high knows the least moment at which a timer of its tree is due
abbrev pub kept : ℕ → List Slot → Type 0
kept zero ss = Unit {0}
kept (suc n) ss =
    (0 < length ss → least_at (slice_get ss (middle ss)) ≡ least_due (timers_in ss))
    × kept n (before ss) × kept n (behind ss)

-- each root of the tree does; it is less high than it has slots
abbrev pub IsKept : List Slot → Type 0
IsKept ss = kept (length ss) ss

abbrev pub AreHalvesKept : List Slot → Type 0
AreHalvesKept ss = IsKept (before ss) × IsKept (behind ss)

-- the same timers, and slots without timers behind them
pub record IsLonger (old new : List (Option Timer)) : Type 0 where
  pub more : ℕ
  pub is : new ≡ old ++ replicate more None

-- what holds of the slots after so many numbers were given
pub record Holds (given : ℕ) (ss : List Slot) : Type 0 where
  pub kept : IsKept ss
  pub numbered : AreNumbered 0 (timers_in ss)
  pub room : given ≤ length ss
  pub vacant : present (drop given (timers_in ss)) ≡ []
  pub few : given ≤ TIMER_LIMIT
