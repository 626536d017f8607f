-- What stands before is blank.
use Rattle.std.proofs.Common.{◌≡◌, ◌≤◌, ◌-◌, drop, length}
use Rattle.mug_text.specs.Characters.{skip_blanks}
use Rattle.mug_text.proofs.characters.blanks_in_front.Given as goal

abbrev pub invariant-loop-start : goal.invariant-loop-start
invariant-loop-start l = record {
  within : l.start ≤ length l.units;
  same : skip_blanks l.units ≡ skip_blanks (drop l.start l.units);
}

abbrev pub decreases-loop-start : goal.decreases-loop-start
decreases-loop-start l = length l.units - l.start
