use Rattle.std.proofs.Common.{length, take, ◌-◌, ◌≤◌}
use Rattle.arrival_file.specs.inner.Split.{IsField}
use Rattle.arrival_file.proofs.fields.split_word.Given as goal

abbrev pub invariant-loop-len : goal.invariant-loop-len
invariant-loop-len l = (l.len ≤ length l.bytes) × IsField (take l.len l.bytes)

abbrev pub decreases-loop-len : goal.decreases-loop-len
decreases-loop-len l = length l.bytes - l.len
