-- The row of a node of an expression, from its production and its parts. None of a literal, a
-- statement, and of what no text has.
use Rattle.std.specs.Prelude.{ℕ, List, [], ◌∷◌, Bool, true, false, Option, Some, None}
use Rattle.js_term.specs.Operands.{listed}
use Rattle.js_tree.specs.declared.production.BinaryOperator.{BinaryOperator}
use Rattle.js_tree.specs.declared.production.Production.{Production}
use Rattle.js_tree.specs.declared.production.Production.TheVariants as production
use Rattle.js_tree.specs.declared.production.UnaryOperator.{UnaryOperator}
use Rattle.js_tree.specs.declared.production.UnaryOperator.TheVariants as unary
use Rattle.js_tree.specs.declared.production.UpdateOperator.{UpdateOperator}
use Rattle.js_tree.specs.Trees.{Tree}
use Rattle.js_tree.specs.Trees.Tree.{Made, Word}
use Rattle.js_operands.specs.Rows.{ExprRow}
use Rattle.js_operands.specs.declared.row.Side.{Side}
use Rattle.js_operands.specs.declared.row.Side.TheVariants.{Before, Behind}

-- which elements of an array are there
abbrev pub elements_there : Tree → List Bool
elements_there (Tree.Cons Tree.Missing ts) = false ∷ elements_there ts
elements_there (Tree.Cons t ts) = true ∷ elements_there ts
elements_there t = []

-- the keys of an object's entries
abbrev pub entry_keys : Tree → List (List ℕ)
entry_keys (Tree.Cons (Tree.Cons (Word k) rest) ts) = k ∷ entry_keys ts
entry_keys t = []

-- a call, by its callee
abbrev pub row_of_call : Tree → (arguments : List Tree) → ExprRow
row_of_call (Made production.Member u v (Tree.Cons e (Tree.Cons (Word k) rest))) xs = ExprRow.CallMember k xs
row_of_call (Made production.Index u v ts) xs = ExprRow.CallIndex xs
row_of_call f xs = ExprRow.Call

-- an assignment, by its target
abbrev pub row_of_assignment : (target : Tree) → Option ExprRow
row_of_assignment (Made production.Name u v (Tree.Cons (Word x) rest)) = Some (ExprRow.AssignName x)
row_of_assignment (Made production.Member u v (Tree.Cons b (Tree.Cons (Word k) rest))) =
    Some (ExprRow.AssignMember k)
row_of_assignment (Made production.Index u v ts) = Some ExprRow.AssignIndex
row_of_assignment t = None

abbrev pub row_of_revision : BinaryOperator → (target right : Tree) → Option ExprRow
row_of_revision o (Made production.Name u v (Tree.Cons (Word x) rest)) e = Some (ExprRow.ReviseName o x e)
row_of_revision o (Made production.Member u v (Tree.Cons b (Tree.Cons (Word k) rest))) e =
    Some (ExprRow.ReviseMember o k e)
row_of_revision o (Made production.Index u v ts) e = Some (ExprRow.ReviseIndex o e)
row_of_revision o t e = None

abbrev pub row_of_update : UpdateOperator → Side → (target : Tree) → Option ExprRow
row_of_update o s (Made production.Name u v (Tree.Cons (Word x) rest)) = Some (ExprRow.UpdateName o s x)
row_of_update o s (Made production.Member u v (Tree.Cons b (Tree.Cons (Word k) rest))) =
    Some (ExprRow.UpdateMember o s k)
row_of_update o s (Made production.Index u v ts) = Some (ExprRow.UpdateIndex o s)
row_of_update o s t = None

-- an operator in front of its operand: `typeof` of a name, and `delete` of a member, have rows of
-- their own
abbrev pub row_of_type : (operand : Tree) → ExprRow
row_of_type (Made production.Name u v (Tree.Cons (Word x) rest)) = ExprRow.TypeOfName x
row_of_type e = ExprRow.Unary unary.TypeOf

abbrev pub row_of_delete : (operand : Tree) → ExprRow
row_of_delete (Made production.Member u v (Tree.Cons b (Tree.Cons (Word k) rest))) = ExprRow.DeleteMember k
row_of_delete (Made production.Index u v ts) = ExprRow.DeleteIndex
row_of_delete e = ExprRow.Unary unary.Delete

abbrev pub row_of_unary : UnaryOperator → (operand : Tree) → ExprRow
row_of_unary unary.TypeOf e = row_of_type e
row_of_unary unary.Delete e = row_of_delete e
row_of_unary o e = ExprRow.Unary o

-- a node of this production with these parts
abbrev pub expr_row : Production → Tree → Option ExprRow
expr_row production.This ts = Some ExprRow.This
expr_row production.Name (Tree.Cons (Word x) ts) = Some (ExprRow.Name x)
expr_row production.Array (Tree.Cons es ts) = Some (ExprRow.Array (elements_there es))
expr_row production.Object (Tree.Cons es ts) = Some (ExprRow.Object (entry_keys es))
expr_row production.Function ts = Some ExprRow.Function
expr_row production.Member (Tree.Cons e (Tree.Cons (Word k) ts)) = Some (ExprRow.Member k)
expr_row production.Index ts = Some ExprRow.Index
expr_row production.Call (Tree.Cons f (Tree.Cons xs ts)) = Some (row_of_call f (listed xs))
expr_row production.New ts = Some ExprRow.New
expr_row (production.Postfix o) (Tree.Cons e ts) = row_of_update o Behind e
expr_row (production.Prefix o) (Tree.Cons e ts) = row_of_update o Before e
expr_row (production.Unary o) (Tree.Cons e ts) = Some (row_of_unary o e)
expr_row (production.Binary o) ts = Some (ExprRow.Binary o)
expr_row production.And (Tree.Cons a (Tree.Cons b ts)) = Some (ExprRow.And b)
expr_row production.Or (Tree.Cons a (Tree.Cons b ts)) = Some (ExprRow.Or b)
expr_row production.Conditional (Tree.Cons a (Tree.Cons b (Tree.Cons c ts))) =
    Some (ExprRow.Conditional b c)
expr_row (production.Assign None) (Tree.Cons a (Tree.Cons b ts)) = row_of_assignment a
expr_row (production.Assign (Some o)) (Tree.Cons a (Tree.Cons b ts)) = row_of_revision o a b
expr_row production.Comma (Tree.Cons a (Tree.Cons b ts)) = Some (ExprRow.Comma b)
expr_row p ts = None

-- the row of a tree's node
abbrev pub tree_row : Tree → Option ExprRow
tree_row (Made p u v ts) = expr_row p ts
tree_row t = None
