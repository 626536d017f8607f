use Rattle.std.proofs.Common.{◌≡◌, ◌≤◌, ℕ, ◌+◌, ◌-◌, length, drop, None, Some}
use Rattle.js_tokens.specs.Gaps.{star_slash}
use Rattle.js_tokens.proofs.gaps.star_slash_at.Given as goal

-- what is found from here on is what is found
abbrev pub invariant-units : goal.invariant-units
invariant-units l = record {
  within : l.at ≤ length l.units;
  some : (n : ℕ) → star_slash (drop l.at l.units) ≡ Some n → star_slash l.units ≡ Some (l.at + n);
  none : star_slash (drop l.at l.units) ≡ None → star_slash l.units ≡ None;
}

abbrev pub decreases-units : goal.decreases-units
decreases-units l = length l.units - l.at
