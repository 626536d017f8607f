use Rattle.std.proofs.Common.{◌≡◌, ◌≤◌, ℕ, ◌+◌, ◌-◌, ◌++◌, List, length, drop}
use Rattle.js_tokens.specs.Strings.{Inside}
use Rattle.js_tokens.proofs.strings.inside_at.Given as goal

-- what is inside from here on goes on what has been read, both ways
abbrev pub invariant-pieces : goal.invariant-pieces
invariant-pieces l = record {
  within : l.at ≤ length l.units;
  on : (n : ℕ) (v : List ℕ) → Inside l.quote (drop l.at l.units) n v → (w : List ℕ) × Inside l.quote l.units (l.at + n) w × (l.initial.out.items ++ w ≡ l.out.items ++ v);
  back : (n : ℕ) (w : List ℕ) → Inside l.quote l.units n w → (m : ℕ) × (v : List ℕ) × Inside l.quote (drop l.at l.units) m v;
}

abbrev pub decreases-pieces : goal.decreases-pieces
decreases-pieces l = length l.units - l.at
