-- The operands of a node that begins over a base and a key.
use Rattle.std.proofs.Common.{◌≡◌, ◌+◌, ◌<◌, ◌≤◌, List, [], ◌∷◌, ◌++◌, Option, Some, None, drop, length}
use Rattle.std.proofs.Common.{subst, sym, arith}
use Rattle.std.specs.Prelude.{unwrap_or}
use Rattle.std.specs.Option.{option_map}
use Rattle.std.proofs.lemmas.List.{length_push}
use Rattle.js_value.specs.declared.value.Value.{Value}
use Rattle.js_tree.specs.Arena.{Arena, node_at}
use Rattle.js_tree.specs.declared.node.Node.{Node}
use Rattle.js_tree.specs.declared.node.Node.TheVariants as node
use Rattle.js_tree.specs.declared.node.NodeId.{NodeId}
use Rattle.js_tree.specs.declared.production.BinaryOperator.{BinaryOperator}
use Rattle.js_tree.specs.declared.production.UnaryOperator.{UnaryOperator}
use Rattle.js_tree.specs.declared.production.UnaryOperator.TheVariants as unary
use Rattle.js_tree.specs.declared.production.UpdateOperator.{UpdateOperator}
use Rattle.js_term.specs.ArenaOperands.{as_operands, assigned_nodes, node_operands}
use Rattle.js_term.specs.Evaluation.{Evaluation, taken}
use Rattle.js_term.specs.declared.operands.Operand.{Operand}
use Rattle.js_operands.specs.ArenaRows.{assignment_row_of, call_row_of, node_row, row_of}
use Rattle.js_operands.specs.ArenaRows.{unary_row_of, update_row_of}
use Rattle.js_operands.specs.ExprMoves.{later_row}
use Rattle.js_operands.specs.Rows.{ExprRow}
use Rattle.js_operands.specs.declared.row.Phase.TheVariants as phase
use Rattle.js_operands.specs.declared.row.Side.{Side}
use Rattle.js_operands.specs.declared.row.Side.TheVariants.{Before, Behind}
use Rattle.js_frames.specs.Rows.{host_row}
use Rattle.js_frames.specs.Soundness.{HasOperands}
use Rattle.js_frames.proofs.Begun.{begun-row}

abbrev pub HasBegun : Option ExprRow → Evaluation → Type 0
HasBegun (Some r) e = HasOperands r e
HasBegun None e = Unit {0}

abbrev begun_over : List NodeId → Evaluation
begun_over ids = record { done = []; todo = as_operands ids }

option-has : (q : Option ExprRow) (e : Evaluation) → HasBegun q e
    → HasOperands (unwrap_or (option_map (λ r. later_row r phase.Begun) q)
    (host_row phase.Begun)) e
option-has None e h = tt
option-has (Some r) e h = subst (λ x. HasOperands x e) (sym (begun-row r)) h

module _ (a : Arena) where
  call-has : (m : Option Node) (xs : List NodeId) (e : Evaluation)
      → HasOperands (call_row_of a m xs) e
  call-has (Some (node.Member b k)) xs e = tt
  call-has (Some (node.Index b k)) xs e = tt
  call-has m xs e = tt

  update-has : (o : UpdateOperator) (s : Side) (m : Option Node) (e : Evaluation)
      → HasBegun (update_row_of a o s m) e
  update-has o s (Some (node.Name x)) e = tt
  update-has o s (Some (node.Member b k)) e = tt
  update-has o s (Some (node.Index b k)) e = tt
  update-has o s m e = tt

  unary-has : (o : UnaryOperator) (m : Option Node) (e : Evaluation)
      → HasOperands (unary_row_of a o m) e
  unary-has unary.TypeOf (Some (node.Name x)) e = tt
  unary-has unary.TypeOf m e = tt
  unary-has unary.Delete (Some (node.Member b k)) e = tt
  unary-has unary.Delete (Some (node.Index b k)) e = tt
  unary-has unary.Delete m e = tt
  unary-has o m e = tt

  assign-has : (o : Option BinaryOperator) (m : Option Node) (t : NodeId)
      → HasBegun (assignment_row_of a o m t) (begun_over (assigned_nodes o m t))
  assign-has None (Some (node.Name x)) t = tt
  assign-has None (Some (node.Member b k)) t = tt
  assign-has None (Some (node.Index b k)) t = tt
  assign-has None m t = tt
  assign-has (Some o) (Some (node.Name x)) t = tt
  assign-has (Some o) (Some (node.Member b k)) t = tt
  assign-has (Some o) (Some (node.Index b k)) t = omega arith
  assign-has (Some o) m t = tt

  node-has : (n : Node) → HasBegun (node_row a n) (begun_over (node_operands (node_at a) n))
  node-has (node.Call f xs) = call-has (node_at a f) xs (begun_over (node_operands (node_at a) (node.Call f xs)))
  node-has (node.Postfix o e) =
      update-has o Behind (node_at a e) (begun_over (node_operands (node_at a) (node.Postfix o e)))
  node-has (node.Prefix o e) =
      update-has o Before (node_at a e) (begun_over (node_operands (node_at a) (node.Prefix o e)))
  node-has (node.Unary o e) =
      unary-has o (node_at a e) (begun_over (node_operands (node_at a) (node.Unary o e)))
  node-has (node.Assign o t e) = assign-has o (node_at a t) e
  node-has n = tt

  -- a node that is there
  pub begun-has : (id : NodeId) (n : Node) (e : Evaluation) → node_at a id ≡ Some n
      → e ≡ begun_over (node_operands (node_at a) n)
      → HasOperands (unwrap_or (option_map (λ r. later_row r phase.Begun) (row_of a (node_at a id)))
      (host_row phase.Begun)) e
  begun-has id n e at is =
      option-has (row_of a (node_at a id)) e
      (subst (λ o. HasBegun (row_of a o) e) (sym at)
      (subst (HasBegun (node_row a n)) (sym is) (node-has n)))

drop-few : (xs : List Operand) → length xs ≤ length (drop 1 xs) + 1
drop-few [] = omega arith
drop-few (x ∷ xs) = omega arith

-- with the value of the next operand
pub taken-has : (r : ExprRow) (e : Evaluation) (v : Value) → HasOperands r e
    → HasOperands r (taken v e)
taken-has (ExprRow.ReviseIndex o t) e v h =
    let more = length_push e.done v in
    let left = drop-few e.todo in
    omega (arith, h, more, left)
taken-has r e v h = tt
