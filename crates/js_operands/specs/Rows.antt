-- The rows of expressions (ECMA-262 edition 5.1, clause 11): a node with what its text says, in one of
-- its phases. What a node evaluates later its row has as trees; what it has evaluated are its
-- operands, which are listed here behind each row. A row holds no value.
use Rattle.std.specs.Prelude.{ℕ, List, Bool}
use Rattle.js_ops.specs.declared.equality.Hint.{Hint}
use Rattle.js_tree.specs.Trees.{Tree}
use Rattle.js_tree.specs.declared.production.BinaryOperator.{BinaryOperator}
use Rattle.js_tree.specs.declared.production.UnaryOperator.{UnaryOperator}
use Rattle.js_tree.specs.declared.production.UpdateOperator.{UpdateOperator}
use Rattle.js_operands.specs.declared.row.Method.{Method}
use Rattle.js_operands.specs.declared.row.Side.{Side}

pub data ExprRow : Type 0 where
  -- 11.1: no operands; of an array, by which of its elements are there, those; of an object, by its
  -- entries' keys, their values; 13: none
  This : ExprRow
  Name : List ℕ → ExprRow
  Array : (there : List Bool) → ExprRow
  Object : (keys : List (List ℕ)) → ExprRow
  Function : ExprRow
  -- 11.2.1: the base; the base and the key
  Member : List ℕ → ExprRow
  Index : ExprRow
  -- 11.2.3: the callee and the arguments; the callee, `this` and the arguments; the base of the
  -- callee; its base and key
  Call : ExprRow
  CallOn : ExprRow
  CallMember : List ℕ → (arguments : List Tree) → ExprRow
  CallIndex : (arguments : List Tree) → ExprRow
  -- 11.2.2: the constructor and the arguments
  New : ExprRow
  -- 11.13.1: the value; the target's base and the value; its base, its key and the value
  AssignName : List ℕ → ExprRow
  AssignMember : List ℕ → ExprRow
  AssignIndex : ExprRow
  -- 11.13.2, before the target is read: the target's operands
  ReviseName : BinaryOperator → List ℕ → (right : Tree) → ExprRow
  ReviseMember : BinaryOperator → List ℕ → (right : Tree) → ExprRow
  ReviseIndex : BinaryOperator → (right : Tree) → ExprRow
  -- behind that: the target's operands, its value, and the right side
  ComputeName : BinaryOperator → List ℕ → ExprRow
  ComputeMember : BinaryOperator → List ℕ → ExprRow
  ComputeIndex : BinaryOperator → ExprRow
  -- 11.3, 11.4.4 and 11.4.5, before the target is read: the target's operands
  UpdateName : UpdateOperator → Side → List ℕ → ExprRow
  UpdateMember : UpdateOperator → Side → List ℕ → ExprRow
  UpdateIndex : UpdateOperator → Side → ExprRow
  -- behind that: the target's operands and its value
  StoreName : UpdateOperator → Side → List ℕ → ExprRow
  StoreMember : UpdateOperator → Side → List ℕ → ExprRow
  StoreIndex : UpdateOperator → Side → ExprRow
  -- 11.4: none; the base; the base and the key; the operand
  TypeOfName : List ℕ → ExprRow
  DeleteMember : List ℕ → ExprRow
  DeleteIndex : ExprRow
  Unary : UnaryOperator → ExprRow
  -- 11.5 to 11.10: both operands
  Binary : BinaryOperator → ExprRow
  -- 11.11, 11.12, 11.14: the first operand
  And : (right : Tree) → ExprRow
  Or : (right : Tree) → ExprRow
  Conditional : (chosen otherwise : Tree) → ExprRow
  Comma : (right : Tree) → ExprRow
  -- 9.1: the value; the object and what a method answered, with the methods that are still to be tried
  Convert : Hint → ExprRow
  Converting : List Method → ExprRow
