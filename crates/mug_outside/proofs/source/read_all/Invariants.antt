use Rattle.std.proofs.Common.{◌≡◌, ◌≤◌, ◌-◌, ◌+◌, length}
use Rattle.mug_outside.specs.Told.{ahead}
use Rattle.mug_outside.proofs.source.read_all.Given as goal

abbrev pub invariant-loop-chunk : goal.invariant-loop-chunk
invariant-loop-chunk g l =
    (g.S.Source.left l.initial.source ≡ ahead l.all.items (g.S.Source.left l.source)) × (g.S.Source.faults l.initial.source ≤ g.S.Source.faults l.source) × (length l.chunk ≡ 4096) × (length l.all.items ≤ l.limit + 4096)

abbrev pub decreases-loop-chunk : goal.decreases-loop-chunk
decreases-loop-chunk g l = l.limit + 4097 - length l.all.items
