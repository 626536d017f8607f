-- Assignments (ECMA-262 edition 5.1, 11.13). What a member's base and key are is settled before the
-- right side is evaluated: a base that is undefined or null throws in place of all the rest, and a
-- key that is an object is converted.
use Rattle.std.specs.Prelude.{ℕ, suc, Bool, false, not, ◌||◌, List, [], ◌∷◌, drop, take}
use Rattle.std.specs.Prelude.{if◌then◌else◌}
use Rattle.js_value.specs.Image.{is_primitive}
use Rattle.js_ops.specs.declared.equality.Hint.TheVariants as hint
use Rattle.js_value.specs.declared.value.Value.{Value}
use Rattle.js_ops.specs.Convert.{is_missing, to_text}
use Rattle.js_heap.specs.World.{World}
use Rattle.js_reference.specs.declared.error.ErrorName.TheVariants.{TypeError}
use Rattle.js_reference.specs.Names.{read_name, write_name}
use Rattle.js_reference.specs.Own.{OwnProperties}
use Rattle.js_reference.specs.Properties.{read}
use Rattle.js_reference.specs.Puts.{write}
use Rattle.js_term.specs.declared.context.Context.{Context}
use Rattle.js_tree.specs.Trees.{Tree}
use Rattle.js_tree.specs.declared.production.BinaryOperator.{BinaryOperator}
use Rattle.js_operands.specs.Made.{Made}
use Rattle.js_operands.specs.Rows.{ExprRow}
use Rattle.js_operands.specs.Rows.ExprRow.{AssignIndex, AssignMember, AssignName}
use Rattle.js_operands.specs.Rows.ExprRow.{ComputeIndex, ComputeMember, ComputeName, ReviseIndex}
use Rattle.js_operands.specs.Steps.{gives, goes_on, operand_at, throws, with_value}
use Rattle.js_operands.specs.Conversions.{convert, converts, keyed, prepared}
use Rattle.js_control.specs.Operators.{operator_wants}
use Rattle.js_operations.specs.Operations.{operate, operation}

-- An assignment to a member makes an early step behind its base, where that is undefined or null,
-- and behind its key, where that is an object too.
abbrev pub member_is_early : List Value → Bool
member_is_early (e ∷ []) = is_missing e
member_is_early vs = false

abbrev pub index_is_early : List Value → Bool
index_is_early (e ∷ k ∷ []) = is_missing e || not (is_primitive k)
index_is_early vs = false

module _ {H : Type 0} (O : OwnProperties H) (w : World) (h : H) where
  -- behind so many operands of the target; the operator's result is written in a step of its own
  abbrev pub computed : (row next : ExprRow) → ℕ → BinaryOperator → List Value → Made H
  computed r next n o vs =
      let a : Value = operand_at vs n in
      let b : Value = operand_at vs (suc n) in
      prepared O w h r (operator_wants n o a b) vs
      (goes_on (with_value next (take n vs) []) (operate O w h (operation o) a b))

module _ {H : Type 0} (O : OwnProperties H) (c : Context) (w : World) (h : H) where
  abbrev pub assign_name_row : List ℕ → List Value → Made H
  assign_name_row x vs = gives (write_name O w h c.scope x (operand_at vs 0))

  -- the target is read before the right side is evaluated
  abbrev pub revise_name_row : BinaryOperator → List ℕ → Tree → List Value → Made H
  revise_name_row o x right vs =
      goes_on (with_value (ComputeName o x) vs (right ∷ [])) (read_name O w h c.scope x)

module _ {H : Type 0} (O : OwnProperties H) (w : World) (h : H) where
  abbrev pub assign_member_row : List ℕ → List Value → Made H
  assign_member_row k vs = gives (write O w h (operand_at vs 0) k (operand_at vs 1))

  abbrev pub assign_index_row : List Value → Made H
  assign_index_row vs =
      gives (write O w h (operand_at vs 0) (to_text (operand_at vs 1)) (operand_at vs 2))

  -- the early step of an assignment to a member, in place of all that is behind its base and key,
  -- or before it
  abbrev pub early_member : Made H
  early_member = throws TypeError w h

  abbrev pub early_index : List Value → Made H
  early_index vs =
      if is_missing (operand_at vs 0) then throws TypeError w h
      else converts w h AssignIndex (take 1 vs) (drop 2 vs)
      (convert O w h hint.Text (operand_at vs 1))

  abbrev pub revise_member_row : BinaryOperator → List ℕ → Tree → List Value → Made H
  revise_member_row o k right vs =
      goes_on (with_value (ComputeMember o k) vs (right ∷ [])) (read O w h (operand_at vs 0) k)

  abbrev pub revise_index_row : BinaryOperator → Tree → List Value → Made H
  revise_index_row o right vs =
      keyed O w h (ReviseIndex o right) vs
      (goes_on (with_value (ComputeIndex o) vs (right ∷ []))
      (read O w h (operand_at vs 0) (to_text (operand_at vs 1))))

  abbrev pub compute_name_row : BinaryOperator → List ℕ → List Value → Made H
  compute_name_row o x vs = computed O w h (ComputeName o x) (AssignName x) 0 o vs

  abbrev pub compute_member_row : BinaryOperator → List ℕ → List Value → Made H
  compute_member_row o k vs = computed O w h (ComputeMember o k) (AssignMember k) 1 o vs

  abbrev pub compute_index_row : BinaryOperator → List Value → Made H
  compute_index_row o vs = computed O w h (ComputeIndex o) AssignIndex 2 o vs
