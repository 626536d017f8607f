use Rattle.std.proofs.Common.{◌≤◌, length, reverse, take}
use Rattle.html_profile.specs.Standing.{HasStanding, names_of}
use Rattle.html_profile.proofs.tree.forget.Given as goal

-- the names of those in front are left
abbrev pub invariant-loop-end : goal.invariant-loop-end
invariant-loop-end l = record {
  known : HasStanding l.standing (names_of (reverse (take l.end l.elements)));
  from : l.at ≤ l.end;
  within : l.end ≤ length l.elements;
}

abbrev pub decreases-loop-end : goal.decreases-loop-end
decreases-loop-end l = l.end
