-- The values before are copied.
use Rattle.std.proofs.Common.{◌≡◌, take}
use Rattle.console_host.proofs.line.copies.Given as goal

abbrev pub invariant-loop-value : goal.invariant-loop-value
invariant-loop-value l = l.copies ≡ take l.value-index l.value-items
