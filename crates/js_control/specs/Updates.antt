-- `++` and `--` (ECMA-262 edition 5.1, 11.3, 11.4.4, 11.4.5): the target is read, its value converted
-- to a number, and the next number written.
use Rattle.std.specs.Prelude.{ℕ, List, [], Option, Some, None}
use Rattle.js_value.specs.declared.number.Num.{Num}
use Rattle.js_value.specs.declared.value.Value.{Value}
use Rattle.js_value.specs.declared.value.Value.TheVariants as value
use Rattle.js_ops.specs.Convert.{to_number, to_text}
use Rattle.js_ops.specs.declared.equality.Hint.TheVariants as hint
use Rattle.js_heap.specs.World.{World}
use Rattle.js_reference.specs.Errors.{Answer, thrown}
use Rattle.js_reference.specs.Errors.Answer.{Returns, Throws}
use Rattle.js_reference.specs.declared.error.ErrorName.TheVariants.{RangeError}
use Rattle.js_reference.specs.Names.{read_name, write_name}
use Rattle.js_reference.specs.Own.{OwnProperties}
use Rattle.js_reference.specs.Properties.{read}
use Rattle.js_reference.specs.Puts.{write}
use Rattle.js_operations.specs.NextNumbers.{next_number}
use Rattle.js_term.specs.declared.context.Context.{Context}
use Rattle.js_tree.specs.declared.production.UpdateOperator.{UpdateOperator}
use Rattle.js_operands.specs.Made.{Made}
use Rattle.js_operands.specs.Rows.{ExprRow}
use Rattle.js_operands.specs.Rows.ExprRow.{StoreIndex, StoreMember, StoreName, UpdateIndex}
use Rattle.js_operands.specs.Steps.{gives, goes_on, operand_at, with_value}
use Rattle.js_operands.specs.declared.row.Side.{Side}
use Rattle.js_operands.specs.declared.row.Side.TheVariants.{Before, Behind}
use Rattle.js_operands.specs.Conversions.{keyed, prepared, wants_at}

-- what the expression gives, of the old number and the new one
abbrev pub update_gives : {H : Type 0} → Side → Num → Answer H → Answer H
update_gives Before n a = a
update_gives Behind n (Returns v w h) = Returns (value.Num n) w h
update_gives Behind n (Throws v w h) = Throws v w h

module _ {H : Type 0} (w : World) (h : H) (put : Value → Answer H) where
  abbrev pub store_next : Side → Num → Option Value → Answer H
  store_next s n (Some v) = update_gives s n (put v)
  store_next s n None = thrown RangeError w h

  -- the number in front of the target is the new one, and behind it the old one
  abbrev pub store_number : UpdateOperator → Side → Option Num → Answer H
  store_number u s (Some n) = store_next s n (next_number u n)
  store_number u s None = thrown RangeError w h

module _ {H : Type 0} (O : OwnProperties H) (w : World) (h : H) where
  abbrev pub update_member_row : UpdateOperator → Side → List ℕ → List Value → Made H
  update_member_row u s k vs =
      goes_on (with_value (StoreMember u s k) vs []) (read O w h (operand_at vs 0) k)

  abbrev pub update_index_row : UpdateOperator → Side → List Value → Made H
  update_index_row u s vs =
      keyed O w h (UpdateIndex u s) vs
      (goes_on (with_value (StoreIndex u s) vs [])
      (read O w h (operand_at vs 0) (to_text (operand_at vs 1))))

  -- the step that writes, behind so many operands of the target
  abbrev pub stored : ExprRow → ℕ → UpdateOperator → Side → List Value → (Value → Answer H)
      → Made H
  stored r n u s vs put =
      prepared O w h r (wants_at n (Some hint.Number) None) vs
      (gives (store_number w h put u s (to_number (operand_at vs n))))

  abbrev pub store_member_row : UpdateOperator → Side → List ℕ → List Value → Made H
  store_member_row u s k vs =
      stored (StoreMember u s k) 1 u s vs (write O w h (operand_at vs 0) k)

  abbrev pub store_index_row : UpdateOperator → Side → List Value → Made H
  store_index_row u s vs =
      stored (StoreIndex u s) 2 u s vs
      (write O w h (operand_at vs 0) (to_text (operand_at vs 1)))

module _ {H : Type 0} (O : OwnProperties H) (c : Context) (w : World) (h : H) where
  abbrev pub update_name_row : UpdateOperator → Side → List ℕ → List Value → Made H
  update_name_row u s x vs =
      goes_on (with_value (StoreName u s x) vs []) (read_name O w h c.scope x)

  abbrev pub store_name_row : UpdateOperator → Side → List ℕ → List Value → Made H
  store_name_row u s x vs =
      stored O w h (StoreName u s x) 0 u s vs (write_name O w h c.scope x)
