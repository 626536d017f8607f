use Rattle.std.proofs.Common.{◌≡◌, ◌≤◌, ℕ, ◌-◌, ◌++◌, List, length, drop, None, IsTrue}
use Rattle.js_tokens.specs.Gaps.{star_slash}
use Rattle.js_tokens.specs.Tokens.{TokensFrom, RefusedFrom}
use Rattle.js_tokens.specs.declared.token.Token.{Token}
use Rattle.js_tokens.proofs.reading.tokens.Given as goal

-- what the text is from here on goes on what has been read
abbrev pub invariant-tokens : goal.invariant-tokens
invariant-tokens l = record {
  high : l.at ≤ length l.text;
  dry : IsTrue l.dry → star_slash (drop 2 (drop l.at l.text)) ≡ None;
  on : (ts : List Token) → TokensFrom l.text l.at ts → TokensFrom l.text 0 (l.items.items ++ ts);
  refused : (p : ℕ) → RefusedFrom l.text l.at p → RefusedFrom l.text 0 p;
}

abbrev pub decreases-tokens : goal.decreases-tokens
decreases-tokens l = length l.text - l.at
