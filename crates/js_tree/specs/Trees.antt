-- Trees, and what it means that an arena holds one (ECMA-262 edition 5.1, clauses 11 to 14, in a profile).
use Rattle.std.specs.Prelude.{◌≡◌, ℕ, List, [], ◌∷◌, Option, Some, None, slice_get}
use Rattle.js_tree.specs.declared.node.NodeId.{NodeId}
use Rattle.js_tree.specs.declared.node.Entry.{Entry}
use Rattle.js_tree.specs.declared.node.Declarator.{Declarator}
use Rattle.js_tree.specs.declared.node.Case.{Case}
use Rattle.js_tree.specs.declared.node.Catch.{Catch}
use Rattle.js_tree.specs.declared.node.Node.{Node}
use Rattle.js_tree.specs.declared.node.Node.TheVariants as node
use Rattle.js_tree.specs.declared.production.Production.{Production}
use Rattle.js_tree.specs.declared.production.Production.TheVariants as production
use Rattle.js_tree.specs.declared.script.Kept.{Kept}

-- A node of a production has a span, its first unit and the unit behind its last, and a list of parts. A part is a tree, a text,
-- a list of parts, or isn't there.
pub data Tree : Type 0 where
  Made : Production → ℕ → ℕ → Tree → Tree
  Word : List ℕ → Tree
  Missing : Tree
  Nil : Tree
  Cons : Tree → Tree → Tree

-- the parts of a node of the arena: nodes and bodies are named by their numbers
pub data Part : Type 0 where
  At : ℕ → Part
  Body : ℕ → Part
  Word : List ℕ → Part
  Missing : Part
  Nil : Part
  Cons : Part → Part → Part

abbrev pub at : NodeId → Part
at id = At id.number

abbrev pub perhaps : Option NodeId → Part
perhaps None = Missing
perhaps (Some id) = at id

abbrev pub named : Option (List ℕ) → Part
named None = Missing
named (Some name) = Word name

abbrev pub nodes : List NodeId → Part
nodes [] = Nil
nodes (id ∷ ids) = Cons (at id) (nodes ids)

abbrev pub elements : List (Option NodeId) → Part
elements [] = Nil
elements (id ∷ ids) = Cons (perhaps id) (elements ids)

abbrev pub words : List (List ℕ) → Part
words [] = Nil
words (name ∷ names) = Cons (Word name) (words names)

abbrev pub one : Part → Part
one p = Cons p Nil

abbrev pub two : Part → Part → Part
two p q = Cons p (one q)

abbrev pub three : Part → Part → Part → Part
three p q r = Cons p (two q r)

abbrev pub four : Part → Part → Part → Part → Part
four p q r s = Cons p (three q r s)

abbrev pub entries : List Entry → Part
entries [] = Nil
entries (e ∷ es) = Cons (two (Word e.key) (at e.value)) (entries es)

abbrev pub declarators : List Declarator → Part
declarators [] = Nil
declarators (d ∷ ds) = Cons (two (Word d.name) (perhaps d.value)) (declarators ds)

abbrev pub cases : List Case → Part
cases [] = Nil
cases (c ∷ cs) = Cons (two (perhaps c.test) (nodes c.statements)) (cases cs)

abbrev pub caught : Option Catch → Part
caught None = Missing
caught (Some c) = two (Word c.name) (nodes c.statements)

abbrev pub at_last : Option (List NodeId) → Part
at_last None = Missing
at_last (Some ids) = nodes ids

-- what a node is
abbrev pub production_of : Node → Production
production_of node.This = production.This
production_of (node.Name _) = production.Name
production_of node.Null = production.Null
production_of (node.Bool b) = production.Bool b
production_of (node.Number z) = production.Number z
production_of (node.Text _) = production.Text
production_of (node.Array _) = production.Array
production_of (node.Object _) = production.Object
production_of (node.Function _ _) = production.Function
production_of (node.Member _ _) = production.Member
production_of (node.Index _ _) = production.Index
production_of (node.Call _ _) = production.Call
production_of (node.New _ _) = production.New
production_of (node.Postfix o _) = production.Postfix o
production_of (node.Prefix o _) = production.Prefix o
production_of (node.Unary o _) = production.Unary o
production_of (node.Binary o _ _) = production.Binary o
production_of (node.And _ _) = production.And
production_of (node.Or _ _) = production.Or
production_of (node.Conditional _ _ _) = production.Conditional
production_of (node.Assign o _ _) = production.Assign o
production_of (node.Comma _ _) = production.Comma
production_of (node.Block _) = production.Block
production_of (node.Var _) = production.Var
production_of node.Empty = production.Empty
production_of (node.Expression _) = production.Expression
production_of (node.If _ _ _) = production.If
production_of (node.DoWhile _ _) = production.DoWhile
production_of (node.While _ _) = production.While
production_of (node.For _ _ _ _) = production.For
production_of (node.ForIn _ _ _) = production.ForIn
production_of (node.Continue _) = production.Continue
production_of (node.Break _) = production.Break
production_of (node.Return _) = production.Return
production_of (node.Labelled _ _) = production.Labelled
production_of (node.Switch _ _) = production.Switch
production_of (node.Throw _) = production.Throw
production_of (node.Try _) = production.Try
production_of (node.Declaration _ _) = production.Declaration
production_of (node.Program _ _) = production.Program
production_of (node.Handler _ _) = production.Handler
production_of (node.Body _ _) = production.Body

-- its parts, from left to right as they stand in the text
abbrev pub parts : Node → Part
parts (node.Name t) = one (Word t)
parts (node.Text t) = one (Word t)
parts (node.Array es) = one (elements es)
parts (node.Object es) = one (entries es)
parts (node.Function h b) = three (named h.value.name) (words h.value.parameters) (Body b.number)
parts (node.Member e k) = two (at e) (Word k)
parts (node.Index e k) = two (at e) (at k)
parts (node.Call f xs) = two (at f) (nodes xs)
parts (node.New f xs) = two (at f) (nodes xs)
parts (node.Postfix _ e) = one (at e)
parts (node.Prefix _ e) = one (at e)
parts (node.Unary _ e) = one (at e)
parts (node.Binary _ a b) = two (at a) (at b)
parts (node.And a b) = two (at a) (at b)
parts (node.Or a b) = two (at a) (at b)
parts (node.Conditional a b c) = three (at a) (at b) (at c)
parts (node.Assign _ a b) = two (at a) (at b)
parts (node.Comma a b) = two (at a) (at b)
parts (node.Block ss) = one (nodes ss)
parts (node.Var ds) = one (declarators ds)
parts (node.Expression e) = one (at e)
parts (node.If e s t) = three (at e) (at s) (perhaps t)
parts (node.DoWhile s e) = two (at s) (at e)
parts (node.While e s) = two (at e) (at s)
parts (node.For a b c s) = four (perhaps a) (perhaps b) (perhaps c) (at s)
parts (node.ForIn x e s) = three (at x) (at e) (at s)
parts (node.Continue l) = one (named l)
parts (node.Break l) = one (named l)
parts (node.Return e) = one (perhaps e)
parts (node.Labelled l s) = two (Word l) (at s)
parts (node.Switch e cs) = two (at e) (cases cs)
parts (node.Throw e) = one (at e)
parts (node.Try t) = three (nodes t.value.block) (caught t.value.catch) (at_last t.value.finally)
parts (node.Declaration h b) = three (Word h.value.name) (words h.value.parameters) (Body b.number)
parts (node.Program ss _) = one (nodes ss)
parts (node.Handler ss _) = one (nodes ss)
parts (node.Body ss _) = one (nodes ss)
parts _ = Nil

-- the arena holds this tree as this part, where the bodies of functions are these trees
abbrev pub Holds : (ℕ → Tree) → List Kept → Part → Tree → Type 0
Holds bodies kept (At i) (Made p from to ts) = (k : Kept) × (slice_get kept i ≡ Some k) × (production_of k.node ≡ p) × (k.from ≡ from) × (k.to ≡ to) × Holds bodies kept (parts k.node) ts
Holds bodies kept (Body i) t = bodies i ≡ t
Holds bodies kept (Word u) (Word v) = u ≡ v
Holds bodies kept Missing Missing = Unit {0}
Holds bodies kept Nil Nil = Unit {0}
Holds bodies kept (Cons p q) (Cons t u) = Holds bodies kept p t × Holds bodies kept q u
Holds bodies kept _ _ = ⊥
