use Rattle.std.proofs.Common.{◌≡◌, ◌++◌, length}
use Rattle.html_profile.specs.Plain.{resolved}
use Rattle.html_profile.proofs.plain.resolved.Given as goal

abbrev pub invariant-loop-byte : goal.invariant-loop-byte
invariant-loop-byte l = resolved 0 l.fn.bytes ≡ l.out.items ++ resolved 0 l.rest

abbrev pub decreases-loop-byte : goal.decreases-loop-byte
decreases-loop-byte l = length l.rest
