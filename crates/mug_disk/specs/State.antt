-- What contracts see of a disk.
use Rattle.std.specs.Prelude.{ℕ, Bool, List}
use Rattle.mug_outside.specs.Schedule.{Schedule}

-- a disk in memory: its bytes, its counts, which of its writes and syncs are to fail, and which of
-- its `len` and `read_at` calls
pub record DiskState : Type 0 where
  pub held : List ℕ
  pub moment : ℕ
  pub faults : ℕ
  pub starved : ℕ
  pub writes : Schedule
  pub reads : Schedule

-- a disk that holds these bytes, before its first call
abbrev pub start : List ℕ → Schedule → Schedule → DiskState
start bytes writes reads =
    record { held = bytes; moment = 0; faults = 0; starved = 0; writes = writes; reads = reads }

-- these calls are to fail, and none was made so far
abbrev pub listed : List ℕ → Schedule
listed calls = record { listed = calls; calls = 0 }

-- a disk over a file: whether the file is there, and the counts
pub record FileState : Type 0 where
  pub there : Bool
  pub moment : ℕ
  pub faults : ℕ
