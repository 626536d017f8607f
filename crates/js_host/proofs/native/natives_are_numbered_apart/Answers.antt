use Rattle.std.proofs.Common.{refl}
use Rattle.js_host.proofs.Numbers.{named-number, number-named}
use Rattle.js_host.specs.Natives.{natives}
use Rattle.js_host.proofs.native.natives_are_numbered_apart.Goals as goal

pub returns : goal.returns
unfolding natives
returns c = record { at = named-number; only = number-named; count = refl }
