use Rattle.std.proofs.Common.{length, take, All, ◌-◌, ◌≤◌}
use Rattle.mugshot_cli.specs.ThinPage.inner.Parts.{IsDigit}
use Rattle.mugshot_cli.proofs.thin_page.reading.split_digits.Given as goal

abbrev pub invariant-loop-len : goal.invariant-loop-len
invariant-loop-len l = (l.len ≤ length l.bytes) × All IsDigit (take l.len l.bytes)

abbrev pub decreases-loop-len : goal.decreases-loop-len
decreases-loop-len l = length l.bytes - l.len
