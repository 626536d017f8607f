use Rattle.std.proofs.Common.{◌≡◌, ◌≤◌, ◌-◌, length, take}
use Rattle.mug_outside.specs.Told.{behind}
use Rattle.mug_outside.proofs.sink.write_whole.Given as goal

abbrev pub invariant-loop-at : goal.invariant-loop-at
invariant-loop-at g l =
    (l.at ≤ length l.bytes) × (g.S.Sink.taken l.sink ≡ behind (take l.at l.bytes) (g.S.Sink.taken l.initial.sink)) × (g.S.Sink.faults l.initial.sink ≤ g.S.Sink.faults l.sink)

abbrev pub decreases-loop-at : goal.decreases-loop-at
decreases-loop-at g l = length l.bytes - l.at
