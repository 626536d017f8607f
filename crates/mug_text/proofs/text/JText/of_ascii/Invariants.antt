-- The bytes so far are units.
use Rattle.std.proofs.Common.{◌≡◌, take}
use Rattle.mug_text.proofs.text.JText.of_ascii.Given as goal

abbrev pub invariant-loop-byte : goal.invariant-loop-byte
invariant-loop-byte l = l.units.items ≡ take l.byte-index l.bytes
