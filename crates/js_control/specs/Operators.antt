-- Operators in front of an operand and between two (ECMA-262 edition 5.1, 11.4 to 11.10).
use Rattle.std.specs.Prelude.{ℕ, List, Option, None}
use Rattle.js_value.specs.declared.value.Value.{Value}
use Rattle.js_ops.specs.declared.equality.Hint.{Hint}
use Rattle.js_heap.specs.World.{World}
use Rattle.js_reference.specs.Errors.Answer.{Returns}
use Rattle.js_reference.specs.Names.{name_value}
use Rattle.js_reference.specs.Own.{OwnProperties}
use Rattle.js_operations.specs.Operations.{operate, operation, operation_wants}
use Rattle.js_operations.specs.Unary.{type_of_option, unary_operate, unary_wants}
use Rattle.js_term.specs.declared.context.Context.{Context}
use Rattle.js_tree.specs.declared.production.BinaryOperator.{BinaryOperator}
use Rattle.js_tree.specs.declared.production.UnaryOperator.{UnaryOperator}
use Rattle.js_operands.specs.Made.{Made}
use Rattle.js_operands.specs.Rows.ExprRow.{Binary, Unary}
use Rattle.js_operands.specs.Steps.{gives, operand_at}
use Rattle.js_operands.specs.Conversions.{prepared, wants_at}

-- the left operand, at this place, is converted first
abbrev pub operator_wants : ℕ → BinaryOperator → (left right : Value) → ℕ → Option Hint
operator_wants n o a b =
    let wants : ℕ → Option Hint = operation_wants (operation o) a b in wants_at n (wants 0) (wants 1)

module _ {H : Type 0} (O : OwnProperties H) (c : Context) (w : World) (h : H) where
  abbrev pub type_of_name_row : List ℕ → Made H
  type_of_name_row x = gives (Returns (type_of_option w (name_value O w h c.scope x)) w h)

module _ {H : Type 0} (O : OwnProperties H) (w : World) (h : H) where
  abbrev pub unary_row : UnaryOperator → List Value → Made H
  unary_row o vs =
      prepared O w h (Unary o) (wants_at 0 (unary_wants o 0) None) vs
      (gives (unary_operate w h o (operand_at vs 0)))

  abbrev pub binary_row : BinaryOperator → List Value → Made H
  binary_row o vs =
      let a : Value = operand_at vs 0 in
      let b : Value = operand_at vs 1 in
      prepared O w h (Binary o) (operator_wants 0 o a b) vs
      (gives (operate O w h (operation o) a b))
