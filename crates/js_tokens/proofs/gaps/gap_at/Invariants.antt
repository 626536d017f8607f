use Rattle.std.proofs.Common.{◌≡◌, ◌≤◌, ℕ, ◌+◌, ◌-◌, Bool, ◌||◌, length, drop, None, IsTrue}
use Rattle.js_tokens.specs.Gaps.{star_slash, Gap}
use Rattle.js_tokens.proofs.gaps.gap_at.Given as goal

-- what stands from here on goes on what has been passed
abbrev pub invariant-pieces : goal.invariant-pieces
invariant-pieces l = record {
  within : l.len ≤ length l.units;
  dry : IsTrue l.dry → star_slash (drop 2 (drop l.len l.units)) ≡ None;
  on : (n : ℕ) (line : Bool) → Gap (drop l.len l.units) n line → Gap l.units (l.len + n) (l.line || line);
}

abbrev pub decreases-pieces : goal.decreases-pieces
decreases-pieces l = length l.units - l.len
