use Rattle.std.proofs.Common.{refl}
use Rattle.js_host.specs.Natives.{natives}
use Rattle.js_host.proofs.native.natives_that_ask_and_construct.Goals as goal

pub returns : goal.returns
unfolding natives
returns c = record { asks = refl; only = refl; either = refl; this = refl }
