-- What stands behind is blank.
use Rattle.std.proofs.Common.{◌≡◌, ◌≤◌, reverse, take, length}
use Rattle.mug_text.specs.Characters.{skip_blanks}
use Rattle.mug_text.proofs.characters.len_before_blanks.Given as goal

abbrev pub invariant-loop-end : goal.invariant-loop-end
invariant-loop-end l = record {
  within : l.end ≤ length l.units;
  same : skip_blanks (reverse l.units) ≡ skip_blanks (reverse (take l.end l.units));
}

abbrev pub decreases-loop-end : goal.decreases-loop-end
decreases-loop-end l = l.end
