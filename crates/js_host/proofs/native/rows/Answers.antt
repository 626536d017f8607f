use Rattle.std.proofs.Common.{refl}
use Rattle.js_host.specs.Natives.{natives}
use Rattle.js_host.proofs.native.rows.Goals as goal

pub returns : goal.returns
unfolding natives
returns c = refl
