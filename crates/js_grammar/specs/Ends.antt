-- How a text ends from one point of its reading: the same answer, one step after the other. What reads a part speaks of this.
use Rattle.std.specs.Prelude.{◌≡◌, ◌≢◌, ℕ, ◌+◌, ◌<◌, ◌≤◌, true, false, List, [], ◌∷◌, ◌++◌}
use Rattle.js_tokens.specs.declared.word.Word.{Word}
use Rattle.js_tokens.specs.declared.word.Word.TheVariants as w
use Rattle.js_tree.specs.Trees.{Tree}
use Rattle.js_grammar.specs.declared.sight.Sight.{Sight}
use Rattle.js_grammar.specs.declared.sight.Seen.TheVariants as seen
use Rattle.js_grammar.specs.declared.symbol.Build.{Build}
use Rattle.js_grammar.specs.declared.symbol.Nonterminal.{Nonterminal}
use Rattle.js_grammar.specs.declared.symbol.Open.{Open}
use Rattle.js_grammar.specs.declared.symbol.Symbol.{Symbol}
use Rattle.js_grammar.specs.declared.symbol.Symbol.TheVariants.{Word as T, End, Semicolon, FreeSemicolon, Never, Part, Build as Makes, Leave}
use Rattle.js_grammar.specs.Sights.{sight, may_insert}
use Rattle.js_grammar.specs.Parts.{nesting}
use Rattle.js_grammar.specs.Grammar.{produce}
use Rattle.js_grammar.specs.Derivations.{built, beginning}
use Rattle.js_grammar.specs.Answers.{Text, limit, Outcome, Accepted, Unexpected, TooDeep, Answer}

abbrev pub at : Text → ℕ → Sight
at text i = sight text.names text.tokens i

-- from what is still to be read, the trees so far and the token of a number, the text ends so
pub data Ends (text : Text) : List Symbol → List Tree → ℕ → Outcome → Type 0 where
  accepts : {v : Tree} {i : ℕ} → (at text i).seen ≡ seen.End → Ends text (End ∷ []) (v ∷ []) i (Accepted v)
  reads : {v : Word} {s : List Symbol} {vs : List Tree} {i : ℕ} {o : Outcome} →
      (at text i).seen ≡ seen.Word v → nesting s ≤ limit → Ends text s vs (i + 1) o → Ends text (T v ∷ s) vs i o
  deep : {v : Word} {s : List Symbol} {vs : List Tree} {i : ℕ} →
      (at text i).seen ≡ seen.Word v → limit < nesting s → Ends text (T v ∷ s) vs i (TooDeep i)
  refused : {v : Word} {s : List Symbol} {vs : List Tree} {i : ℕ} →
      (at text i).seen ≢ seen.Word v → Ends text (T v ∷ s) vs i (Unexpected i)
  goes_on : {s : List Symbol} {vs : List Tree} {i : ℕ} →
      (at text i).seen ≢ seen.End → Ends text (End ∷ s) vs i (Unexpected i)
  never : {s : List Symbol} {vs : List Tree} {i : ℕ} → Ends text (Never ∷ s) vs i (Unexpected i)
  semicolon : {s : List Symbol} {vs : List Tree} {i : ℕ} {o : Outcome} →
      (at text i).seen ≡ seen.Word w.Semicolon → nesting s ≤ limit → Ends text s vs (i + 1) o → Ends text (Semicolon ∷ s) vs i o
  deep_semicolon : {s : List Symbol} {vs : List Tree} {i : ℕ} →
      (at text i).seen ≡ seen.Word w.Semicolon → limit < nesting s → Ends text (Semicolon ∷ s) vs i (TooDeep i)
  inserted : {s : List Symbol} {vs : List Tree} {i : ℕ} {o : Outcome} →
      (at text i).seen ≢ seen.Word w.Semicolon → may_insert (at text i) ≡ true → Ends text s vs i o → Ends text (Semicolon ∷ s) vs i o
  missing : {s : List Symbol} {vs : List Tree} {i : ℕ} →
      (at text i).seen ≢ seen.Word w.Semicolon → may_insert (at text i) ≡ false → Ends text (Semicolon ∷ s) vs i (Unexpected i)
  free_semicolon : {s : List Symbol} {vs : List Tree} {i : ℕ} {o : Outcome} →
      (at text i).seen ≡ seen.Word w.Semicolon → nesting s ≤ limit → Ends text s vs (i + 1) o → Ends text (FreeSemicolon ∷ s) vs i o
  deep_free_semicolon : {s : List Symbol} {vs : List Tree} {i : ℕ} →
      (at text i).seen ≡ seen.Word w.Semicolon → limit < nesting s → Ends text (FreeSemicolon ∷ s) vs i (TooDeep i)
  free_inserted : {s : List Symbol} {vs : List Tree} {i : ℕ} {o : Outcome} →
      (at text i).seen ≢ seen.Word w.Semicolon → Ends text s vs i o → Ends text (FreeSemicolon ∷ s) vs i o
  expands : {x : Nonterminal} {s : List Symbol} {vs : List Tree} {i : ℕ} {o : Outcome} →
      Ends text (produce x s (at text i) vs ++ s) vs i o → Ends text (Part x ∷ s) vs i o
  makes : {b : Build} {s : List Symbol} {vs : List Tree} {i : ℕ} {o : Outcome} →
      Ends text s (built b (at text i) vs) i o → Ends text (Makes b ∷ s) vs i o
  leaves : {x : Open} {s : List Symbol} {vs : List Tree} {i : ℕ} {o : Outcome} →
      Ends text s vs i o → Ends text (Leave x ∷ s) vs i o

-- what a text ends in from its beginning is its answer
abbrev pub EndIsAnswer : Type 0
EndIsAnswer = (text : Text) (o : Outcome) → Ends text (beginning text.start) [] 0 o → Answer text o
