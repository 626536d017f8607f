-- A sink in memory, as callers see it.
use Rattle.std.specs.Prelude.{◌≡◌, ◌⊎◌, ℕ, List, []}
use Rattle.mug_outside.specs.Cause.{counted}
use Rattle.mug_outside.specs.Schedule.{Schedule, IsDue}

-- the bytes that it took, the calls that are to fail, how often it has failed, and how often for
-- want of memory
pub record SinkState : Type 0 where
  pub taken : List ℕ
  pub schedule : Schedule
  pub faults : ℕ
  pub starved : ℕ

-- before the first call
abbrev pub sink_of : List ℕ → SinkState
sink_of listed = record {
  taken = [];
  schedule = record { listed = listed; calls = 0 };
  faults = 0;
  starved = 0;
}

-- a failed call was one of those that are to fail, or it found no memory to grow, which is counted
abbrev pub IsListedOrStarved : SinkState → SinkState → Type 0
IsListedOrStarved old new =
    (IsDue old.schedule × (new.starved ≡ old.starved))
    ⊎ ((¬ IsDue old.schedule) × (new.starved ≡ counted old.starved))
