use Rattle.js_control.proofs.Targets.{keys-read, members-read}
use Rattle.js_control.proofs.laws.revised_targets_are_read.Goals as goal

pub returns : goal.returns
returns g c = record { members = members-read; keys = keys-read }
