-- Derivations: which sentences the productions give, whole or unfinished (ECMA-262 edition 5.1, 5.1 and 7.9).
use Rattle.std.specs.Prelude.{◌≡◌, ℕ, zero, suc, pos, false, List, [], ◌∷◌, ◌++◌}
use Rattle.js_tokens.specs.declared.word.Word.TheVariants as w
use Rattle.js_tokens.specs.declared.word.Word.{Word}
use Rattle.js_tree.specs.declared.production.Production.TheVariants as p
use Rattle.js_tree.specs.Trees.{Tree, Made, Missing, Nil, Cons}
use Rattle.js_tree.specs.Trees.{Word as word_tree}
use Rattle.js_grammar.specs.declared.sight.Seen.TheVariants as seen
use Rattle.js_grammar.specs.declared.sight.Sight.{Sight}
use Rattle.js_grammar.specs.declared.symbol.Build.{Build}
use Rattle.js_grammar.specs.declared.symbol.Build.TheVariants as build
use Rattle.js_grammar.specs.declared.symbol.Nonterminal.{Nonterminal}
use Rattle.js_grammar.specs.declared.symbol.Nonterminal.TheVariants as n
use Rattle.js_grammar.specs.declared.symbol.Open.{Open}
use Rattle.js_grammar.specs.declared.symbol.Open.TheVariants as open_part
use Rattle.js_grammar.specs.declared.symbol.Start.{Start}
use Rattle.js_grammar.specs.declared.symbol.Start.TheVariants.{Program, Handler}
use Rattle.js_grammar.specs.declared.symbol.Symbol.{Symbol}
use Rattle.js_grammar.specs.declared.symbol.Symbol.TheVariants.{Word as T, End, Semicolon, FreeSemicolon, Part, Build as Makes, Leave}
use Rattle.js_grammar.specs.Grammar.{produce}

-- a word of a sentence: a token of the text or its end, as it is seen; or a semicolon that was inserted, with the unit behind
-- the token before it and the first unit of what stands behind it
pub data Lexeme : Type 0 where
  Given : Sight → Lexeme
  Inserted : ℕ → ℕ → Lexeme

-- what the choice of a production sees: of a semicolon that was inserted nothing, so that no part goes on there
abbrev pub look : Lexeme → Sight
look (Given u) = u
look (Inserted before from) = record { seen = seen.End; text = []; number = pos 0; line_before = false; colon = false; target = false; before = before; from = from }

-- the last so many trees before these, as a list, and the trees before them
abbrev pub grouped : ℕ → Tree → List Tree → Tree × List Tree
grouped zero ts vs = (ts, vs)
grouped (suc n) ts [] = (ts, [])
grouped (suc n) ts (v ∷ vs) = grouped n (Cons v ts) vs

abbrev pub behind : Tree → Tree → Tree
behind (Cons t ts) v = Cons t (behind ts v)
behind _ v = Cons v Nil

-- The trees, with the last one first, behind a making. A node ends where the last token before what is seen does.
abbrev pub built : Build → Sight → List Tree → List Tree
built (build.Node q from count) u vs = Made q from u.before (grouped count Nil vs).0 ∷ (grouped count Nil vs).1
built (build.Root q) u (v ∷ vs) = Made q 0 u.from (Cons v Nil) ∷ vs
built (build.Group count) u vs = (grouped count Nil vs).0 ∷ (grouped count Nil vs).1
built build.Add u (v ∷ ts ∷ vs) = behind ts v ∷ vs
built build.Missing u vs = Missing ∷ vs
built (build.Text t) u vs = word_tree t ∷ vs
built _ u vs = vs

-- From what is to be read and the trees so far this sentence is derived, and leaves what is still to be read, and the trees then.
-- Where nothing is left the derivation is whole. Else its last part is unfinished, and lacks what is left.
pub data Derives : List Symbol → List Tree → List Lexeme → List Symbol → List Tree → Type 0 where
  so_far : {s : List Symbol} {vs : List Tree} → Derives s vs [] s vs
  token : {v : Word} {u : Sight} {s s' : List Symbol} {vs vs' : List Tree} {us : List Lexeme} →
      u.seen ≡ seen.Word v → Derives s vs us s' vs' → Derives (T v ∷ s) vs (Given u ∷ us) s' vs'
  the_end : {u : Sight} {s s' : List Symbol} {vs vs' : List Tree} {us : List Lexeme} →
      u.seen ≡ seen.End → Derives s vs us s' vs' → Derives (End ∷ s) vs (Given u ∷ us) s' vs'
  semicolon : {u : Sight} {s s' : List Symbol} {vs vs' : List Tree} {us : List Lexeme} →
      u.seen ≡ seen.Word w.Semicolon → Derives s vs us s' vs' → Derives (Semicolon ∷ s) vs (Given u ∷ us) s' vs'
  free_semicolon : {u : Sight} {s s' : List Symbol} {vs vs' : List Tree} {us : List Lexeme} →
      u.seen ≡ seen.Word w.Semicolon → Derives s vs us s' vs' → Derives (FreeSemicolon ∷ s) vs (Given u ∷ us) s' vs'
  inserted : {b f : ℕ} {s s' : List Symbol} {vs vs' : List Tree} {us : List Lexeme} →
      Derives s vs us s' vs' → Derives (Semicolon ∷ s) vs (Inserted b f ∷ us) s' vs'
  free_inserted : {b f : ℕ} {s s' : List Symbol} {vs vs' : List Tree} {us : List Lexeme} →
      Derives s vs us s' vs' → Derives (FreeSemicolon ∷ s) vs (Inserted b f ∷ us) s' vs'
  part : {x : Nonterminal} {u : Lexeme} {s s' : List Symbol} {vs vs' : List Tree} {us : List Lexeme} →
      Derives (produce x s (look u) vs ++ s) vs (u ∷ us) s' vs' → Derives (Part x ∷ s) vs (u ∷ us) s' vs'
  makes : {b : Build} {u : Lexeme} {s s' : List Symbol} {vs vs' : List Tree} {us : List Lexeme} →
      Derives s (built b (look u) vs) (u ∷ us) s' vs' → Derives (Makes b ∷ s) vs (u ∷ us) s' vs'
  leaves : {o : Open} {u : Lexeme} {s s' : List Symbol} {vs vs' : List Tree} {us : List Lexeme} →
      Derives s vs (u ∷ us) s' vs' → Derives (Leave o ∷ s) vs (u ∷ us) s' vs'

-- what is to be read at first
abbrev pub beginning : Start → List Symbol
beginning Program = Makes (build.Group 0) ∷ Part n.Sources ∷ Makes (build.Root p.Program) ∷ End ∷ []
beginning Handler = Makes (build.Group 0) ∷ Part n.Sources ∷ Leave open_part.Function ∷ Makes (build.Root p.Handler) ∷ End ∷ []

-- the sentence is derived, and the last part may be unfinished
abbrev pub Prefix : Start → List Lexeme → Type 0
Prefix start ws = (s : List Symbol) × (vs : List Tree) × Derives (beginning start) [] ws s vs
