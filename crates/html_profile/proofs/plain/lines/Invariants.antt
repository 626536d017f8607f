use Rattle.std.proofs.Common.{◌≡◌, ◌++◌, length}
use Rattle.html_profile.specs.Plain.{lines}
use Rattle.html_profile.proofs.plain.lines.Given as goal

abbrev pub invariant-loop-byte : goal.invariant-loop-byte
invariant-loop-byte l = lines l.fn.bytes ≡ l.out.items ++ lines l.rest

abbrev pub decreases-loop-byte : goal.decreases-loop-byte
decreases-loop-byte l = length l.rest
