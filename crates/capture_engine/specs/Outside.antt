-- What disk and output show at one moment: one value for the state before a call, and one for the
-- state after it.
use Rattle.std.specs.Prelude.{ℕ, ◌≤◌, List, Option}
use Rattle.mug_disk.specs.declared.disk.Disk.{Ghosts as DiskGhosts}
use Rattle.mug_outside.specs.declared.sink.Sink.{Ghosts as SinkGhosts}
use Rattle.capture_engine.specs.declared.recorder.TheConstants.{EARLY_MOMENT}

-- the bytes that the disk holds and the number of its writes and syncs, the bytes that the output
-- took, and both counts of faults
pub record Shown : Type 0 where
  pub held : Option (List ℕ)
  pub moment : ℕ
  pub taken : Option (List ℕ)
  pub disk : ℕ
  pub out : ℕ

module _ {D O : Type 0} (d : DiskGhosts D) (o : SinkGhosts O) where
  -- what these two show
  abbrev pub shown : D → O → Shown
  shown disk out = record {
    held = d.held disk;
    moment = d.moment disk;
    taken = o.taken out;
    disk = d.faults disk;
    out = o.faults out;
  }

-- the same, by its parts
abbrev pub seen : Option (List ℕ) → ℕ → Option (List ℕ) → ℕ → ℕ → Shown
seen held moment taken disk out =
    record { held = held; moment = moment; taken = taken; disk = disk; out = out }

-- a moment from which moments can be counted on
abbrev pub IsEarly : ℕ → Type 0
IsEarly moment = moment ≤ EARLY_MOMENT
