use Rattle.std.proofs.Common.{◌≡◌, ◌≤◌, ◌-◌, List, ◌++◌, length, drop}
use Rattle.input_log.specs.declared.item.LogItem.{LogItem}
use Rattle.session_store.specs.Session.{AreItems, payload_of}
use Rattle.mugshot_cli.proofs.damage.has_later_kind.Given as goal

abbrev pub invariant-loop-at : goal.invariant-loop-at
invariant-loop-at l = (l.at ≤ length l.payload) × ((items : List LogItem) × AreItems items × (l.payload ≡ payload_of items ++ drop l.at l.payload))

abbrev pub decreases-loop-at : goal.decreases-loop-at
decreases-loop-at l = length l.payload - l.at
