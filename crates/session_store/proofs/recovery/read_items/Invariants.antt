use Rattle.std.proofs.Common.{◌≡◌, ◌≤◌, ◌-◌, ◌++◌, length, drop}
use Rattle.session_store.specs.Session.{AreItems, payload_of}
use Rattle.session_store.proofs.recovery.read_items.Given as goal

abbrev pub invariant-loop-at : goal.invariant-loop-at
invariant-loop-at l = (l.at ≤ length l.payload) × AreItems l.items.items × (l.payload ≡ payload_of l.items.items ++ drop l.at l.payload)

abbrev pub decreases-loop-at : goal.decreases-loop-at
decreases-loop-at l = length l.payload - l.at
