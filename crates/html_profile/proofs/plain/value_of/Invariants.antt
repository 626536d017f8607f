use Rattle.std.proofs.Common.{◌≡◌, take, min}
use Rattle.html_profile.specs.Plain.{value_of}
use Rattle.html_profile.proofs.plain.value_of.Given as goal

abbrev pub invariant-loop-digit : goal.invariant-loop-digit
invariant-loop-digit l = l.value ≡ min (value_of l.base (take l.digit-index l.digits)) 0x11_0000
