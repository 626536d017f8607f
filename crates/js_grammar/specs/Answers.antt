-- Inserted semicolons, offending tokens, and how the reading of a text ends (ECMA-262 edition 5.1, 7.9.1).
use Rattle.std.specs.Prelude.{◌≡◌, ℕ, ◌+◌, ◌<◌, ◌≤◌, ◌⊎◌, true, List, [], ◌∷◌, ◌++◌}
use Rattle.js_tokens.specs.declared.token.Tokens.{Tokens}
use Rattle.js_tree.specs.Trees.{Tree}
use Rattle.js_grammar.specs.declared.sight.Names.{Names}
use Rattle.js_grammar.specs.declared.sight.Seen.TheVariants as seen
use Rattle.js_grammar.specs.declared.symbol.Start.{Start}
use Rattle.js_grammar.specs.declared.symbol.Symbol.{Symbol}
use Rattle.js_grammar.specs.declared.symbol.Symbol.TheVariants.{FreeSemicolon}
use Rattle.js_grammar.specs.Sights.{sight, may_insert}
use Rattle.js_grammar.specs.Parts.{nesting}
use Rattle.js_grammar.specs.Derivations.{Lexeme, Given, Inserted, Derives, beginning, Prefix}

-- the deepest nesting at which a token may stand
abbrev pub limit : ℕ
limit = 200

-- a text as it is read: its tokens, whether it is a page's, and what it is read as
pub record Text : Type 0 where
  pub tokens : Tokens
  pub names : Names
  pub start : Start

abbrev pub given : Text → ℕ → Lexeme
given t i = Given (sight t.names t.tokens i)

-- a semicolon before the token of this number
abbrev pub before : Text → ℕ → Lexeme
before t i = Inserted (sight t.names t.tokens i).before (sight t.names t.tokens i).from

-- A semicolon may be inserted behind these words, before the token of this number: by 7.9.1, or behind a `do` and its `while`.
abbrev pub MayInsert : Text → List Lexeme → ℕ → Type 0
MayInsert t ws i = (may_insert (sight t.names t.tokens i) ≡ true) ⊎ ((s : List Symbol) × (vs : List Tree) × Derives (beginning t.start) [] ws (FreeSemicolon ∷ s) vs)

-- the tokens up to this one, with the semicolons inserted so far, have no prefix derivation
abbrev pub IsOffending : Text → List Lexeme → ℕ → Type 0
IsOffending t ws i = Prefix t.start (ws ++ given t i ∷ []) → ⊥

-- The first i tokens, with the semicolons inserted so far, are these words, and none of them stands too deep.
-- A semicolon is inserted only before an offending token, where it may be and something goes on with it.
pub data Reading (t : Text) : ℕ → List Lexeme → Type 0 where
  start : Reading t 0 []
  next : {i : ℕ} {ws : List Lexeme} {s : List Symbol} {vs : List Tree} → Reading t i ws →
      Derives (beginning t.start) [] (ws ++ given t i ∷ []) s vs → nesting s ≤ limit → (s ≡ [] → ⊥) → Reading t (i + 1) (ws ++ given t i ∷ [])
  insert : {i : ℕ} {ws : List Lexeme} → Reading t i ws →
      IsOffending t ws i → MayInsert t ws i → Prefix t.start (ws ++ before t i ∷ []) → Reading t i (ws ++ before t i ∷ [])

-- how the reading of a text ends: with a tree, or at the token of a number
pub data Outcome : Type 0 where
  Accepted : Tree → Outcome
  Unexpected : ℕ → Outcome
  TooDeep : ℕ → Outcome

-- Accepted: all tokens and the end are read, and the derivation is whole. Unexpected: the token is offending, and no semicolon before
-- it helps. Too deep: the token is read, and stands deeper than the limit.
abbrev pub Answer : Text → Outcome → Type 0
Answer t (Accepted tree) = (i : ℕ) × (ws : List Lexeme) × Reading t i ws × ((sight t.names t.tokens i).seen ≡ seen.End) × Derives (beginning t.start) [] (ws ++ given t i ∷ []) [] (tree ∷ [])
Answer t (Unexpected i) = (ws : List Lexeme) × Reading t i ws × IsOffending t ws i × (MayInsert t ws i → Prefix t.start (ws ++ before t i ∷ []) → ⊥)
Answer t (TooDeep i) = (ws : List Lexeme) × (s : List Symbol) × (vs : List Tree) × Reading t i ws × Derives (beginning t.start) [] (ws ++ given t i ∷ []) s vs × (limit < nesting s)

-- the first unit of the token of this number, or of the end
abbrev pub place : Text → ℕ → ℕ
place t i = (sight t.names t.tokens i).from
