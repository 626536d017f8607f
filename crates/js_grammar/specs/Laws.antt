-- What holds of the answer of a text, by the definitions alone.
use Rattle.std.specs.Prelude.{◌≡◌, ℕ, ◌<◌, ◌≤◌, List}
use Rattle.js_grammar.specs.Derivations.{Lexeme}
use Rattle.js_grammar.specs.Answers.{Text, Reading, Outcome, Unexpected, TooDeep, Answer}

-- the answer of a text is one
abbrev pub OneAnswer : Type 0
OneAnswer = (t : Text) (o o' : Outcome) → Answer t o → Answer t o' → o ≡ o'

-- each text has an answer, and no other
abbrev pub EachHasOneAnswer : Type 0
EachHasOneAnswer = (t : Text) → (o : Outcome) × Answer t o × ((o' : Outcome) → Answer t o' → o ≡ o')

-- A refusal stands at the first token that can't be read, whatever semicolons are inserted: the tokens before it are read, and with
-- it no more are.
abbrev pub FirstRefused : Type 0
FirstRefused = (t : Text) (i : ℕ) → Answer t (Unexpected i) →
    ((j : ℕ) → j ≤ i → (ws : List Lexeme) × Reading t j ws) × ((j : ℕ) (ws : List Lexeme) → i < j → Reading t j ws → ⊥)

-- Too deep stands the first token that does, whatever semicolons are inserted: the tokens before it are read, and with it no more are.
abbrev pub FirstTooDeep : Type 0
FirstTooDeep = (t : Text) (i : ℕ) → Answer t (TooDeep i) →
    ((j : ℕ) → j ≤ i → (ws : List Lexeme) × Reading t j ws) × ((j : ℕ) (ws : List Lexeme) → i < j → Reading t j ws → ⊥)
