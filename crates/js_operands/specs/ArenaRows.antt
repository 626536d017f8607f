-- The row of an arena's node by its number: the table of `Syntax` for nodes.
use Rattle.std.specs.Prelude.{ℕ, List, Option, Some, None, is_some, map}
use Rattle.std.specs.Option.{option_map}
use Rattle.js_tree.specs.Arena.{Arena, node_at}
use Rattle.js_tree.specs.TreeAt.{tree_at}
use Rattle.js_tree.specs.declared.node.Node.{Node}
use Rattle.js_tree.specs.declared.node.Node.TheVariants as node
use Rattle.js_tree.specs.declared.node.NodeId.{NodeId}
use Rattle.js_tree.specs.declared.production.BinaryOperator.{BinaryOperator}
use Rattle.js_tree.specs.declared.production.UnaryOperator.{UnaryOperator}
use Rattle.js_tree.specs.declared.production.UnaryOperator.TheVariants as unary
use Rattle.js_tree.specs.declared.production.UpdateOperator.{UpdateOperator}
use Rattle.js_operands.specs.ExprMoves.{later_row}
use Rattle.js_operands.specs.Rows.{ExprRow}
use Rattle.js_operands.specs.declared.row.Phase.{Phase}
use Rattle.js_operands.specs.declared.row.Side.{Side}
use Rattle.js_operands.specs.declared.row.Side.TheVariants.{Before, Behind}

module _ (a : Arena) where
  -- a call, by its callee
  abbrev pub call_row_of : Option Node → List NodeId → ExprRow
  call_row_of (Some (node.Member e k)) xs = ExprRow.CallMember k (map (tree_at a) xs)
  call_row_of (Some (node.Index e k)) xs = ExprRow.CallIndex (map (tree_at a) xs)
  call_row_of f xs = ExprRow.Call

  -- an assignment, by its target
  abbrev pub assign_row_of : Option Node → Option ExprRow
  assign_row_of (Some (node.Name x)) = Some (ExprRow.AssignName x)
  assign_row_of (Some (node.Member e k)) = Some (ExprRow.AssignMember k)
  assign_row_of (Some (node.Index e k)) = Some ExprRow.AssignIndex
  assign_row_of t = None

  abbrev pub revise_row_of : BinaryOperator → Option Node → NodeId → Option ExprRow
  revise_row_of o (Some (node.Name x)) e = Some (ExprRow.ReviseName o x (tree_at a e))
  revise_row_of o (Some (node.Member b k)) e = Some (ExprRow.ReviseMember o k (tree_at a e))
  revise_row_of o (Some (node.Index b k)) e = Some (ExprRow.ReviseIndex o (tree_at a e))
  revise_row_of o t e = None

  abbrev pub assignment_row_of : Option BinaryOperator → Option Node → NodeId → Option ExprRow
  assignment_row_of None t e = assign_row_of t
  assignment_row_of (Some o) t e = revise_row_of o t e

  abbrev pub update_row_of : UpdateOperator → Side → Option Node → Option ExprRow
  update_row_of o s (Some (node.Name x)) = Some (ExprRow.UpdateName o s x)
  update_row_of o s (Some (node.Member e k)) = Some (ExprRow.UpdateMember o s k)
  update_row_of o s (Some (node.Index e k)) = Some (ExprRow.UpdateIndex o s)
  update_row_of o s t = None

  -- an operator in front of its operand
  abbrev pub type_row_of : Option Node → ExprRow
  type_row_of (Some (node.Name x)) = ExprRow.TypeOfName x
  type_row_of e = ExprRow.Unary unary.TypeOf

  abbrev pub delete_row_of : Option Node → ExprRow
  delete_row_of (Some (node.Member e k)) = ExprRow.DeleteMember k
  delete_row_of (Some (node.Index e k)) = ExprRow.DeleteIndex
  delete_row_of e = ExprRow.Unary unary.Delete

  abbrev pub unary_row_of : UnaryOperator → Option Node → ExprRow
  unary_row_of unary.TypeOf e = type_row_of e
  unary_row_of unary.Delete e = delete_row_of e
  unary_row_of o e = ExprRow.Unary o

  -- a node
  abbrev pub node_row : Node → Option ExprRow
  node_row node.This = Some ExprRow.This
  node_row (node.Name x) = Some (ExprRow.Name x)
  node_row (node.Array es) = Some (ExprRow.Array (map is_some es))
  node_row (node.Object es) = Some (ExprRow.Object (map (λ e. e.key) es))
  node_row (node.Function h b) = Some ExprRow.Function
  node_row (node.Member e k) = Some (ExprRow.Member k)
  node_row (node.Index e k) = Some ExprRow.Index
  node_row (node.Call f xs) = Some (call_row_of (node_at a f) xs)
  node_row (node.New f xs) = Some ExprRow.New
  node_row (node.Postfix o e) = update_row_of o Behind (node_at a e)
  node_row (node.Prefix o e) = update_row_of o Before (node_at a e)
  node_row (node.Unary o e) = Some (unary_row_of o (node_at a e))
  node_row (node.Binary o l r) = Some (ExprRow.Binary o)
  node_row (node.And l r) = Some (ExprRow.And (tree_at a r))
  node_row (node.Or l r) = Some (ExprRow.Or (tree_at a r))
  node_row (node.Conditional e t u) = Some (ExprRow.Conditional (tree_at a t) (tree_at a u))
  node_row (node.Assign o t e) = assignment_row_of o (node_at a t) e
  node_row (node.Comma l r) = Some (ExprRow.Comma (tree_at a r))
  node_row n = None

  abbrev pub row_of : Option Node → Option ExprRow
  row_of None = None
  row_of (Some n) = node_row n

  -- the row of the node of this number, in a phase
  abbrev pub row_in : NodeId → Phase → Option ExprRow
  row_in id f = option_map (λ r. later_row r f) (row_of (node_at a id))
