use Rattle.std.proofs.Common.{◌≡◌, ◌≤◌, length, reverse, take}
use Rattle.html_profile.specs.Tree.{closed}
use Rattle.html_profile.proofs.tree.nearest.Given as goal

-- none of those behind has the name
abbrev pub invariant-loop-at : goal.invariant-loop-at
invariant-loop-at l = record {
  same : closed l.name (reverse l.elements) ≡ closed l.name (reverse (take l.at l.elements));
  within : l.at ≤ length l.elements;
}

abbrev pub decreases-loop-at : goal.decreases-loop-at
decreases-loop-at l = l.at
