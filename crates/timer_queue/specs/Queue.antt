-- The timers of a page (HTML Standard, 8.6, "map of setTimeout and setInterval IDs"): a list in the
-- order of their numbers.
use Rattle.std.specs.Prelude.{◌≡◌, ℕ, ◌+◌, ◌<◌, ◌≤◌, max, Bool, false, ◌==◌, nat_lt, nat_le, ◌&&◌, ◌||◌, List, [], ◌∷◌, ◌++◌, Option, Some, None, find, All, Contains, MatchOption, IsSomeAnd, if◌then◌else◌}
use Rattle.std.specs.List.{filter_map}
use Rattle.std.specs.Option.{option_map}
use Rattle.js_value.specs.declared.callable.Callable.{Callable}
-- a timer: its number, what it calls, the moment from which on it may fire, and the delay of an
-- interval, which a timeout hasn't
pub use Rattle.timer_queue.specs.declared.timer.Timer.{Timer}

-- how many numbers were given so far, and the timers that are set, in the order of their numbers
pub record Queue : Type 0 where
  pub given : ℕ
  pub timers : List Timer

abbrev pub no_timers : Queue
no_timers = record { given = 0; timers = [] }

-- one more timer, which has the next number
abbrev pub added : Callable → ℕ → Option ℕ → Queue → Queue
added f due every q = record {
  given = q.given + 1;
  timers = q.timers ++ record { id = q.given + 1; f = f; due = due; every = every } ∷ [];
}

-- the timer of this number
abbrev pub timer_of : ℕ → List Timer → Option Timer
timer_of id ts = find (λ t. t.id == id) ts

-- the timers after this change of the one of this number, which may take it away
abbrev pub changed : ℕ → (Timer → Option Timer) → List Timer → List Timer
changed id change ts = filter_map (λ t. if t.id == id then change t else Some t) ts

-- without the timer of this number
abbrev pub cancelled : ℕ → Queue → Queue
cancelled id q = record q { timers = changed id (λ t. None) q.timers }

-- after it fired at this clock: an interval fires next at the clock and the greater of its delay
-- and 1; a timeout is gone
abbrev pub set_anew : ℕ → Timer → Option Timer
set_anew clock t = option_map (λ delay. record t { due = clock + max delay 1 }) t.every

-- after the timer of this number fired at this clock
abbrev pub fired : ℕ → ℕ → Queue → Queue
fired id clock q = record q { timers = changed id (set_anew clock) q.timers }

-- the first is due before the second, or at the same moment and has the lower number
abbrev pub comes_before : Timer → Timer → Bool
comes_before t u = nat_lt t.due u.due || (t.due == u.due && nat_lt t.id u.id)

abbrev pub sooner : Timer → Option Timer → Timer
sooner t None = t
sooner t (Some u) = if comes_before u t then u else t

-- the timer that no other comes before
abbrev pub soonest : List Timer → Option Timer
soonest [] = None
soonest (t ∷ ts) = Some (sooner t (soonest ts))

-- its number, where it is due at this clock
abbrev pub number_due : ℕ → Option Timer → Option ℕ
number_due clock None = None
number_due clock (Some t) = if nat_le t.due clock then Some t.id else None

-- the number of the timer that fires next at this clock
abbrev pub next_due : ℕ → Queue → Option ℕ
next_due clock q = number_due clock (soonest q.timers)

-- the timer of this number is among them, and is due at this clock
abbrev pub IsDueAmong : ℕ → ℕ → List Timer → Type 0
IsDueAmong id clock ts = IsSomeAnd (timer_of id ts) (λ t. t.due ≤ clock)

abbrev pub IsDue : ℕ → ℕ → Queue → Type 0
IsDue id clock q = IsDueAmong id clock q.timers

-- this timer is among them, is due, and none of them comes before it
pub record IsLeast (clock : ℕ) (ts : List Timer) (id : ℕ) (t : Timer) : Type 0 where
  pub number : t.id ≡ id
  pub there : Contains ts t
  pub due : t.due ≤ clock
  pub least : All (λ u. comes_before u t ≡ false) ts

-- what it means to be next: the least is due, or else none
abbrev pub IsNextDue : ℕ → Queue → Option ℕ → Type 0
IsNextDue clock q next =
    MatchOption next (All (λ t. clock < t.due) q.timers)
    (λ id. (t : Timer) × IsLeast clock q.timers id t)
