use Rattle.std.proofs.Common.{◌≡◌, ◌<◌, ◌≤◌, ◌-◌, IfSome}
use Rattle.session_store.specs.Session.{HasHeader}
use Rattle.session_store.specs.inner.Steps.{AreOfFrames, SoFar}
use Rattle.session_store.proofs.recovery.read_frames.Given as goal

abbrev pub invariant-frames : goal.invariant-frames
invariant-frames g l =
    (g.D.Disk.held l.disk ≡ g.D.Disk.held l.fn.disk) × (g.D.Disk.moment l.disk ≡ g.D.Disk.moment l.fn.disk) × (g.D.Disk.faults l.fn.disk ≤ g.D.Disk.faults l.disk)
    × (l.reader < 18446744073709551615) × IfSome (g.D.Disk.held l.fn.disk) (λ held. HasHeader held → SoFar held l.items.items l.reader)
    × AreOfFrames l.items.items

abbrev pub decreases-frames : goal.decreases-frames
decreases-frames g l = 18446744073709551616 - l.reader
