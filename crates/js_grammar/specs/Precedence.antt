-- Precedence of the operators between operands (ECMA-262 edition 5.1, 11.5 to 11.11).
use Rattle.std.specs.Prelude.{◌≡◌, ℕ, ◌+◌, ◌<◌, ◌≤◌, ◌↔◌, ◌⊎◌, Bool, true, false, List, [], ◌∷◌, ◌++◌, Some}
use Rattle.js_tree.specs.declared.production.Production.{Production}
use Rattle.js_tree.specs.Trees.{Tree, Made, Nil, Cons}
use Rattle.js_grammar.specs.declared.sight.Seen.{Seen}
use Rattle.js_grammar.specs.declared.sight.Seen.TheVariants as seen
use Rattle.js_grammar.specs.declared.symbol.Form.{Form}
use Rattle.js_grammar.specs.declared.symbol.Nonterminal.{Nonterminal}
use Rattle.js_grammar.specs.declared.symbol.Nonterminal.TheVariants as n
use Rattle.js_grammar.specs.declared.symbol.Symbol.{Symbol}
use Rattle.js_grammar.specs.declared.symbol.Symbol.TheVariants.{Word as T, End, Semicolon, Never, Part}
use Rattle.js_grammar.specs.Grammar.{binary_operator}
use Rattle.js_grammar.specs.Derivations.{Lexeme, Given, Inserted, look, Derives}

-- the symbol that reads what is seen, and nothing else
abbrev pub symbol_of : Seen → Symbol
symbol_of (seen.Word v) = T v
symbol_of seen.End = End
symbol_of seen.Forbidden = Never

abbrev pub just : Lexeme → Symbol
just (Given u) = symbol_of u.seen
just (Inserted before from) = Semicolon

-- These words are this part and give this tree, where u stands behind them: from the part, and then just u, the words and u are derived,
-- and the derivation is whole.
abbrev pub IsPart : Nonterminal → List Lexeme → Lexeme → Tree → Type 0
IsPart x ws u t = Derives (Part x ∷ just u ∷ []) [] (ws ++ u ∷ []) [] (t ∷ [])

-- an operator between operands, of this level and this production
abbrev pub IsOperator : Form → Lexeme → ℕ → Production → Type 0
IsOperator f u level q = binary_operator f (look u).seen ≡ Some (level, q)

-- What is written by these words, where u stands behind them, with operators of at least this level between operands, and its tree.
-- It is an operand; or an operation, whose left operand has operators of the operation's level and above, and whose right operand has
-- operators of higher levels alone. An operation's node goes from the first unit of its first word to where its last one ends.
pub data Written (f : Form) : ℕ → List Lexeme → Lexeme → Tree → Type 0 where
  operand : {least : ℕ} {ws : List Lexeme} {u : Lexeme} {t : Tree} → IsPart n.Unary ws u t → Written f least ws u t
  operation : {least level : ℕ} {q : Production} {w o u : Lexeme} {ws us : List Lexeme} {a b : Tree} →
      IsOperator f o level q → least ≤ level → Written f level (w ∷ ws) o a → Written f (level + 1) us u b →
      Written f least (w ∷ ws ++ o ∷ us) u (Made q (look w).from (look u).before (Cons a (Cons b Nil)))

-- no operator of this level or above
abbrev pub IsBelow : Form → ℕ → Lexeme → Type 0
IsBelow f least u = (level : ℕ) (q : Production) → IsOperator f u level q → level < least

-- What is derived as an operation is what is written so, where no operator goes on with it.
abbrev pub OperationIsWritten : Type 0
OperationIsWritten = (least : ℕ) (f : Form) (ws : List Lexeme) (u : Lexeme) (t : Tree) →
    IsPart (n.Operation least f) ws u t ↔ (Written f least ws u t × IsBelow f least u)

-- By these words one operation is written.
abbrev pub OneOperation : Type 0
OneOperation = (least : ℕ) (f : Form) (ws : List Lexeme) (u : Lexeme) (t t' : Tree) → IsBelow f least u → Written f least ws u t → Written f least ws u t' → t ≡ t'

-- an expression or a part of one that begins it
abbrev pub is_expression : Nonterminal → Bool
is_expression (n.Expression f) = true
is_expression (n.Assignment f) = true
is_expression (n.Conditional f) = true
is_expression (n.Operation least f) = true
is_expression n.Unary = true
is_expression n.LeftHand = true
is_expression n.New = true
is_expression n.Primary = true
is_expression n.Function = true
is_expression _ = false

-- An expression is the same wherever it stands: what goes on from its tree goes on behind its words, and nothing else does.
abbrev pub ExpressionIsAnywhere : Type 0
ExpressionIsAnywhere = (x : Nonterminal) (ws us : List Lexeme) (u : Lexeme) (t : Tree) (s s' : List Symbol) (vs vs' : List Tree) →
    is_expression x ≡ true → IsPart x ws u t → (Derives s (t ∷ vs) (u ∷ us) s' vs' ↔ Derives (Part x ∷ s) vs (ws ++ u ∷ us) s' vs')

-- What is derived from an expression and what is to be read behind it is derived from the expression alone, and nothing behind it is read;
-- or it begins with words that are the expression, and goes on from its tree.
abbrev pub ExpressionComesFirst : Type 0
ExpressionComesFirst = (x : Nonterminal) (zs : List Lexeme) (s s' : List Symbol) (vs vs' : List Tree) →
    is_expression x ≡ true → Derives (Part x ∷ s) vs zs s' vs' →
    ((p : List Symbol) × (ts : List Tree) × (s' ≡ p ++ s) × (vs' ≡ ts ++ vs) × Derives (Part x ∷ []) [] zs p ts) ⊎
    ((ws : List Lexeme) × (us : List Lexeme) × (u : Lexeme) × (t : Tree) × (zs ≡ ws ++ u ∷ us) × IsPart x ws u t × Derives s (t ∷ vs) (u ∷ us) s' vs')
