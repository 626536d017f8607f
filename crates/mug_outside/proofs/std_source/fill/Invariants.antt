use Rattle.std.proofs.Common.{◌≤◌, length}
use Rattle.mug_outside.proofs.std_source.fill.Given as goal

abbrev pub invariant-loop : goal.invariant-loop
invariant-loop g l = l.at ≤ length l.into
