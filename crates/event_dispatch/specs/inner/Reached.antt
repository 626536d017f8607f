-- The turn at which a dispatch goes on.
use Rattle.std.specs.Prelude.{◌≡◌, ℕ, ◌≤◌, List, drop, length, Option, Some, MatchOption}
use Rattle.event_dispatch.specs.Dispatch.{Turn, come, ended}
use Rattle.event_dispatch.specs.Listeners.{Listener}
use Rattle.event_dispatch.specs.declared.walk.Reached.{Reached}

-- what is called at the first turn to come in whose copied list there is somebody to call, and what
-- is left of the dispatch then
pub record IsReached (all : List Turn) (done : ℕ) (kind : List ℕ) (ls : List Listener) (r : Reached)
    : Type 0 where
  pub is : come ls kind (drop done all) ≡ record {
    call = Some r.call;
    after = record { kind = kind; left = drop r.called r.copy.items; turns = drop r.done all };
  }
  pub within : r.called ≤ length r.copy.items

-- the same, or nobody is called any more
abbrev pub Reaches : List Turn → ℕ → List ℕ → List Listener → Option Reached → Type 0
Reaches all done kind ls r =
    MatchOption r (come ls kind (drop done all) ≡ ended kind) (IsReached all done kind ls)
