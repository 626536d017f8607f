-- A source in memory, as callers see it.
use Rattle.std.specs.Prelude.{ℕ, List}
use Rattle.mug_outside.specs.Schedule.{Schedule}

-- the bytes still to come, the calls that are to fail, and how often it has failed
pub record SourceState : Type 0 where
  pub left : List ℕ
  pub schedule : Schedule
  pub faults : ℕ

-- before the first call
abbrev pub source_of : List ℕ → List ℕ → SourceState
source_of bytes listed =
    record { left = bytes; schedule = record { listed = listed; calls = 0 }; faults = 0 }
