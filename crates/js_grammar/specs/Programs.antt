-- The answer of a text of units: its program, or the place where it is refused (ECMA-262 edition 5.1, clauses 7 and 14).
use Rattle.std.specs.Prelude.{◌≡◌, ℕ, ◌⊎◌, List, length}
use Rattle.js_tokens.specs.Tokens.{TokensFrom, RefusedFrom}
use Rattle.js_tokens.specs.declared.token.Tokens.{Tokens}
use Rattle.js_tree.specs.Trees.{Tree}
use Rattle.js_grammar.specs.declared.sight.Names.{Names}
use Rattle.js_grammar.specs.declared.symbol.Start.{Start}
use Rattle.js_grammar.specs.Answers.{Text, Outcome, Accepted, Unexpected, TooDeep, Answer, place}

-- a tree, or the unit at which a token is unexpected or stands too deep
pub data Verdict : Type 0 where
  Reads : Tree → Verdict
  UnexpectedAt : ℕ → Verdict
  TooDeepAt : ℕ → Verdict

-- an outcome, with the first unit of the token in the place of its number
abbrev pub verdict : Text → Outcome → Verdict
verdict text (Accepted tree) = Reads tree
verdict text (Unexpected i) = UnexpectedAt (place text i)
verdict text (TooDeep i) = TooDeepAt (place text i)

-- the tokens are those of the units, and the reading of them ends so
pub record ReadsTokens (names : Names) (start : Start) (units : List ℕ) (v : Verdict) : Type 0 where
  pub tokens : Tokens
  pub outcome : Outcome
  pub are : TokensFrom units 0 tokens.items
  pub units_end : tokens.end ≡ length units
  pub answer : Answer (record { tokens = tokens; names = names; start = start }) outcome
  pub is : v ≡ verdict (record { tokens = tokens; names = names; start = start }) outcome

-- a place at which no token begins is refused before all others
abbrev pub IsVerdict : Names → Start → List ℕ → Verdict → Type 0
IsVerdict names start units v = ((at : ℕ) × RefusedFrom units 0 at × (v ≡ UnexpectedAt at)) ⊎ ReadsTokens names start units v

-- the answer of a text is one
abbrev pub OneVerdict : Type 0
OneVerdict = (names : Names) (start : Start) (units : List ℕ) (v v' : Verdict) → IsVerdict names start units v → IsVerdict names start units v' → v ≡ v'
