-- Where a reading stands, and what a step of it comes to.
use Rattle.std.specs.Prelude.{◌≡◌, ℕ, ◌+◌, ◌<◌, ◌≤◌, ◌⊎◌, List, [], ◌∷◌, ◌++◌, length, drop, Option, Some, None}
use Rattle.js_tokens.specs.declared.token.Tokens.{Tokens}
use Rattle.js_tree.specs.Trees.{Tree}
use Rattle.js_expr.specs.declared.reading.End.{End}
use Rattle.js_expr.specs.declared.reading.End.TheVariants as end
use Rattle.js_expr.specs.declared.reading.Ending.{Ending}
use Rattle.js_expr.specs.declared.reading.Ending.TheVariants as ending
use Rattle.js_expr.specs.declared.reading.Reading.{Reading}
use Rattle.js_expr.specs.declared.reading.Step.{Step}
use Rattle.js_expr.specs.declared.reading.Step.TheVariants as step
use Rattle.js_grammar.specs.declared.sight.Names.{Names}
use Rattle.js_grammar.specs.declared.sight.Sight.{Sight}
use Rattle.js_grammar.specs.declared.symbol.Start.{Start}
use Rattle.js_grammar.specs.declared.symbol.Symbol.{Symbol}
use Rattle.js_grammar.specs.declared.symbol.Symbol.TheVariants as symbol
use Rattle.js_grammar.specs.declared.symbol.Build.TheVariants as build
use Rattle.js_grammar.specs.inner.Ranks.{Balanced, front}
use Rattle.js_grammar.specs.inner.Sorts.{IsSorted}
use Rattle.js_grammar.specs.Sights.{sight}
use Rattle.js_grammar.specs.Answers.{Text, Outcome, Accepted, Unexpected, TooDeep}
use Rattle.js_grammar.specs.Ends.{Ends}
use Rattle.js_productions.specs.Glances.{sight_of}
use Rattle.js_pieces.specs.declared.pieces.Piece.{Piece}
use Rattle.js_pieces.specs.Pieces.{sorts}
use Rattle.js_pieces.specs.Functions.{LastIsText, whole_of}
use Rattle.js_expr.specs.Trees.{HoldsTrees, IsText}

abbrev pub text_of : Tokens → Names → Start → Text
text_of tokens names start = record { tokens = tokens; names = names; start = start }

-- the reading ends with this outcome
abbrev pub Shows : Ending → Outcome → Type 0
Shows (ending.Accepted script) (Accepted t) = IsText script t
Shows (ending.Unexpected i) (Unexpected j) = i ≡ j
Shows (ending.TooDeep i) (TooDeep j) = i ≡ j
Shows _ _ = ⊥

-- what is seen at the place, as a glance keeps it
abbrev pub seen_by : Tokens → Reading → Sight
seen_by tokens r = sight_of r.glance (drop r.place tokens.items)

-- that is what stands there
pub record IsAt (tokens : Tokens) (names : Names) (r : Reading) : Type 0 where
  pub within : r.place ≤ length tokens.items
  pub seen : seen_by tokens r ≡ sight names tokens r.place

-- the making of the whole text is still to be read, as the last of all, or it was read
abbrev pub LeadsToText : List Symbol → List Piece → Type 0
LeadsToText s ps =
    ((start : Start) × (p : List Symbol) ×
    (s ≡ p ++ symbol.Build (build.Root (whole_of start)) ∷ symbol.End ∷ [])) ⊎
    ((s ≡ symbol.End ∷ []) × LastIsText ps)

-- these are the trees of a reading, and with them what is to be read leads to a whole text
pub record HasTrees (r : Reading) (s : List Symbol) (vs : List Tree) : Type 0 where
  pub holds : HoldsTrees r.trees vs
  pub balanced : Balanced s (length vs)
  pub sorted : IsSorted s (sorts r.trees.pieces)
  pub leads : LeadsToText s r.trees.pieces

-- a reading that may go on with these symbols
abbrev pub GoesWith : Reading → List Symbol → Type 0
GoesWith r s = (vs : List Tree) × HasTrees r s vs

-- the symbols of a reading, the next one first
abbrev pub symbols_of : Reading → List Symbol
symbols_of r = r.stack

-- what the text ends in from where a reading is, it ends in from these symbols, trees and place
pub record IsBehind (text : Text) (s : List Symbol) (vs : List Tree) (i : ℕ) (r : Reading) : Type 0 where
  pub trees : List Tree
  pub has : HasTrees r (symbols_of r) trees
  pub on : (o : Outcome) → Ends text (symbols_of r) trees r.place o → Ends text s vs i o

-- from these symbols, trees and place the text ends so
abbrev pub EndsSo : Text → List Symbol → List Tree → ℕ → End → Reading → Type 0
EndsSo text s vs i end.Accepted r = (t : Tree) × IsText r.trees.script t × Ends text s vs i (Accepted t)
EndsSo text s vs i (end.Unexpected j) r = Ends text s vs i (Unexpected j)
EndsSo text s vs i (end.TooDeep j) r = Ends text s vs i (TooDeep j)

-- a step without a word leaves less in front; one with a word goes on behind it
abbrev pub Goes : Text → List Symbol → List Tree → ℕ → Step → Reading → Type 0
Goes text s vs i step.On r = IsBehind text s vs i r × (r.place ≡ i) × (front (symbols_of r) < front s)
Goes text s vs i step.Behind r = IsBehind text s vs i r × (r.place ≡ i + 1) × (i < length text.tokens.items)
Goes text s vs i (step.Ended e) r = EndsSo text s vs i e r

-- a step from these symbols, whatever is read and whatever trees the reading has
abbrev pub GoesFrom : Tokens → Names → List Symbol → Reading → Step → Reading → Type 0
GoesFrom tokens names s old st new = (start : Start) (vs : List Tree) → HasTrees old s vs → Goes (text_of tokens names start) s vs old.place st new

-- a word is read, or the text ends
abbrev pub Arrives : Text → List Symbol → List Tree → ℕ → Option End → Reading → Type 0
Arrives text s vs i None r = IsBehind text s vs i r × (r.place ≡ i + 1) × (i < length text.tokens.items)
Arrives text s vs i (Some e) r = EndsSo text s vs i e r

abbrev pub ArrivesFrom : Tokens → Names → Reading → Option End → Reading → Type 0
ArrivesFrom tokens names old o new = (start : Start) (vs : List Tree) → HasTrees old (symbols_of old) vs → Arrives (text_of tokens names start) (symbols_of old) vs old.place o new
