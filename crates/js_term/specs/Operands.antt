-- The operands of a node of syntax, in the order in which they are evaluated, and the term of a
-- tree (ECMA-262 edition 5.1, clauses 11 to 14). What a node evaluates later, such as the right
-- side of `&&` or a loop's parts, its row has as trees. A member in the place of a callee or a
-- target is no node of its own: its operands are those of the call, assignment, update or `delete`.
-- The name under `typeof` is no operand either. The statements of a program, a handler, a body, and
-- of the block of a `try` are operands of the form that runs them; a program and a body are no
-- nodes of their own.
use Rattle.std.specs.Prelude.{ℕ, zero, suc, ◌+◌, List, [], ◌∷◌, Bool, Option, Some, None}
use Rattle.js_value.specs.declared.number.Num.TheVariants.{Whole}
use Rattle.js_value.specs.declared.value.Value.{Value}
use Rattle.js_value.specs.declared.value.Value.TheVariants as value
use Rattle.js_tree.specs.declared.production.Production.{Production}
use Rattle.js_tree.specs.declared.production.Production.TheVariants as production
use Rattle.js_tree.specs.declared.production.UnaryOperator.TheVariants.{Delete, TypeOf}
use Rattle.js_tree.specs.Runs.{labels_before}
use Rattle.js_tree.specs.Trees.{Tree}
use Rattle.js_tree.specs.Trees.Tree.{Made, Word, Missing, Cons}
use Rattle.js_term.specs.Place.{Place}
use Rattle.js_term.specs.Place.Place.{At}
use Rattle.js_term.specs.Term.{Term, node, terms}
use Rattle.js_term.specs.Term.Term.{Val}

-- a literal's value (7.8)
abbrev pub literal : Production → Tree → Option Value
literal production.Null ts = Some value.Null
literal (production.Bool b) ts = Some (value.Bool b)
literal (production.Number z) ts = Some (value.Num (Whole z))
literal production.Text (Cons (Word k) ts) = Some (value.Text k)
literal p ts = None

-- trees that are there, of a list
abbrev pub listed : Tree → List Tree
listed (Cons Missing ts) = listed ts
listed (Cons t ts) = t ∷ listed ts
listed t = []

-- the values of an object literal's entries
abbrev pub entry_values : Tree → List Tree
entry_values (Cons (Cons k (Cons e rest)) ts) = e ∷ entry_values ts
entry_values t = []

-- the first initialiser of a `var`
abbrev pub first_initialiser : Tree → List Tree
first_initialiser (Cons (Cons k (Cons Missing rest)) ts) = first_initialiser ts
first_initialiser (Cons (Cons k (Cons e rest)) ts) = e ∷ []
first_initialiser t = []

-- a target's own operands: a member's
abbrev pub target_operands : Tree → List Tree
target_operands (Made production.Member u v (Cons e ts)) = e ∷ []
target_operands (Made production.Index u v (Cons e (Cons k ts))) = e ∷ k ∷ []
target_operands t = []

-- the operands of a node of a production, with these parts
abbrev pub operands : Production → Tree → List Tree
operands production.Array (Cons es ts) = listed es
operands production.Object (Cons es ts) = entry_values es
operands production.Member (Cons e ts) = e ∷ []
operands production.Index (Cons e (Cons k ts)) = e ∷ k ∷ []
operands production.Call (Cons (Made production.Member a b (Cons e rest)) (Cons xs ts)) = e ∷ []
operands production.Call (Cons (Made production.Index a b (Cons e (Cons k rest))) (Cons xs ts)) =
    e ∷ k ∷ []
operands production.Call (Cons f (Cons xs ts)) = f ∷ listed xs
operands production.New (Cons f (Cons xs ts)) = f ∷ listed xs
operands (production.Postfix o) (Cons e ts) = target_operands e
operands (production.Prefix o) (Cons e ts) = target_operands e
operands (production.Unary TypeOf) (Cons (Made production.Name a b rest) ts) = []
operands (production.Unary Delete) (Cons (Made production.Member a b (Cons e rest)) ts) = e ∷ []
operands (production.Unary Delete) (Cons (Made production.Index a b (Cons e (Cons k rest))) ts) =
    e ∷ k ∷ []
operands (production.Unary o) (Cons e ts) = e ∷ []
operands (production.Binary o) (Cons a (Cons b ts)) = a ∷ b ∷ []
operands production.And (Cons a ts) = a ∷ []
operands production.Or (Cons a ts) = a ∷ []
operands production.Conditional (Cons a ts) = a ∷ []
operands (production.Assign None) (Cons (Made production.Name u v rest) (Cons e ts)) = e ∷ []
operands (production.Assign None) (Cons (Made production.Member u v (Cons b rest)) (Cons e ts)) =
    b ∷ e ∷ []
operands (production.Assign None)
    (Cons (Made production.Index u v (Cons b (Cons k rest))) (Cons e ts)) = b ∷ k ∷ e ∷ []
operands (production.Assign o) (Cons a ts) = target_operands a
operands production.Comma (Cons a ts) = a ∷ []
operands production.Block (Cons ss ts) = listed ss
operands production.Var (Cons ds ts) = first_initialiser ds
operands production.Expression (Cons e ts) = e ∷ []
operands production.If (Cons e ts) = e ∷ []
operands production.ForIn (Cons x (Cons e ts)) = e ∷ []
operands production.Return (Cons Missing ts) = []
operands production.Return (Cons e ts) = e ∷ []
operands production.Labelled (Cons l (Cons s ts)) = s ∷ []
operands production.Switch (Cons e ts) = e ∷ []
operands production.Throw (Cons e ts) = e ∷ []
operands production.Try (Cons ss ts) = listed ss
operands production.Program (Cons ss ts) = listed ss
operands production.Handler (Cons ss ts) = listed ss
operands production.Body (Cons ss ts) = listed ss
operands p ts = []

-- those of a tree, and its literal's value, where it is one
abbrev pub tree_operands : Tree → List Tree
tree_operands (Made p u v ts) = operands p ts
tree_operands t = []

abbrev pub tree_literal : Tree → Option Value
tree_literal (Made p u v ts) = literal p ts
tree_literal t = None

-- how many free moves at most a tree is begun and finished with, and so a list
abbrev pub weight : Tree → ℕ
weight (Made p u v ts) = 5 + weight ts
weight (Cons t ts) = weight t + weight ts
weight t = 2

abbrev pub total : {X : Type 0} → (X → ℕ) → List X → ℕ
total f [] = 0
total f (x ∷ xs) = f x + total f xs

-- the labels that stand directly around a statement (12.12), the inner one first
abbrev pub Labels : Type 0
Labels = List (List ℕ)

module _ {R : Type 0} (no_step : R → Bool) (row : Labels → Place → Production → Tree → R) where
  -- a node's term: its value where it is a literal, else its row over its operands' terms
  abbrev pub made : (Labels → Tree → Term R) → Labels → Place → Production → Tree → Option Value
      → Term R
  made f ls a p ts (Some v) = Val v
  made f ls a p ts None =
      node no_step (row ls a p ts) (terms (f (labels_before p ts ls)) (operands p ts))

  abbrev pub opened : (Labels → Tree → Term R) → Labels → (text : ℕ) → Tree → Term R
  opened f ls x (Made p u v ts) = made f ls (At x u) p ts (literal p ts)
  opened f ls x t = Val value.Undefined

  -- the term of a tree of which so many levels are looked at
  abbrev pub term_to : ℕ → (text : ℕ) → Labels → Tree → Term R
  term_to zero x ls t = Val value.Undefined
  term_to (suc n) x ls t = opened (term_to n x) ls x t

  -- the term of a tree of a text, by the text's number, with these labels around it; an operand
  -- stands in its tree, so that the tree's weight is levels enough
  unfoldable pub term_of : (text : ℕ) → Labels → Tree → Term R
  term_of x ls t = term_to (weight t) x ls t
