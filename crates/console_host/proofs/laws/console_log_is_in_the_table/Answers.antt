use Rattle.std.proofs.Common.{refl}
use Rattle.js_host.specs.Natives.{natives}
use Rattle.console_host.proofs.laws.console_log_is_in_the_table.Goals as goal

pub returns : goal.returns
unfolding natives
returns c = record { name = refl; quiet = refl }
