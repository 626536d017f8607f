-- The step of `++` and `--` that writes.
use Rattle.std.proofs.Common.{◌≡◌, ℕ, Option, Some, None, refl, ap, ◌∙◌, subst}
use Rattle.js_value.specs.declared.number.Num.{Num}
use Rattle.js_value.specs.declared.value.Value.{Value}
use Rattle.js_value.specs.declared.value.Value.TheVariants as value
use Rattle.js_ops.specs.Convert.{to_number}
use Rattle.js_ops.specs.declared.equality.Hint.TheVariants as hint
use Rattle.js_heap.specs.World.{World}
use Rattle.js_reference.specs.Errors.{Answer, thrown}
use Rattle.js_reference.specs.Own.{OwnProperties}
use Rattle.js_reference.specs.declared.error.ErrorName.TheVariants.{RangeError}
use Rattle.js_operations.specs.NextNumbers.{next_number}
use Rattle.js_term.specs.Evaluation.{Evaluation}
use Rattle.js_tree.specs.declared.production.UpdateOperator.{UpdateOperator}
use Rattle.js_operands.specs.Conversions.{prepared, wants_at}
use Rattle.js_operands.specs.Made.{Made}
use Rattle.js_operands.specs.Rows.{ExprRow}
use Rattle.js_operands.specs.Shapes.{IsShaped}
use Rattle.js_operands.specs.Steps.{gives, operand_at}
use Rattle.js_control.specs.Stored.{AreNext, IsCountedSo, IsNext, IsReady}
use Rattle.js_control.specs.Updates.{store_next, store_number, stored, update_gives}
use Rattle.js_operands.specs.declared.expr_move.ExprMove.{ExprMove}
use Rattle.js_operands.specs.declared.row.Phase.{Phase}
use Rattle.js_operands.specs.declared.row.Side.{Side}
use Rattle.js_control.specs.declared.updates.Counted.{Counted}
use Rattle.js_control.specs.declared.updates.Counted.TheVariants as counted
use Rattle.js_control.specs.declared.updates.NextNumber.{NextNumber}

module _ {H : Type 0} (w : World) (h : H) (u : UpdateOperator) (s : Side) (put : Value → Answer H)
  where
    next_stored : (m : NextNumber) (v : Value) → IsNext u v m
        → store_number w h put u s (to_number v) ≡ update_gives s m.old (put (value.Num m.next))
    next_stored m v k =
        ap (store_number w h put u s) k.old ∙ ap (store_next w h put s m.old) k.next

    none_stored : (o : Option Num) → ((n : Num) → o ≡ Some n → next_number u n ≡ None)
        → store_number w h put u s o ≡ thrown RangeError w h
    none_stored None none = refl
    none_stored (Some n) none = ap (store_next w h put s n) (none n refl)

module _ {H : Type 0} (O : OwnProperties H) (w : World) (h : H) (n : ℕ) (u : UpdateOperator)
    (e : Evaluation) where
  -- one of both numbers is outside the profile
  pub stored_nothing : ((r : ExprRow) (made : Made H)
      → prepared O w h r (wants_at n (Some hint.Number) None) e.done made ≡ made)
      → AreNext u (operand_at e.done n) None → (r : ExprRow) (s : Side) (put : Value → Answer H)
      (x : Made H) → gives (thrown RangeError w h) ≡ x → stored O w h r n u s e.done put ≡ x
  stored_nothing ready none r s put x is =
      let v = operand_at e.done n in
      ready r (gives (store_number w h put u s (to_number v)))
      ∙ ap gives (none_stored w h u s put (to_number v) none) ∙ is

  -- the next number is written
  pub stored_next : (m : NextNumber) (e' : Evaluation) (w' : World) → IsReady O w h n u e m e' w'
      → (r : ExprRow) (s : Side) (put : Value → Answer H) (y : Answer H) (x : Made H)
      → put (value.Num m.next) ≡ y → gives (update_gives s m.old y) ≡ x
      → stored O w h r n u s e.done put ≡ x
  stored_next m e' w' ready r s put y x written is =
      let v = operand_at e.done n in
      ready.made r (gives (store_number w h put u s (to_number v)))
      ∙ ap gives (next_stored w h u s put m v ready.numbers)
      ∙ ap (λ z. gives (update_gives s m.old z)) written ∙ is

-- how the node is left where the number is in conversion
pub counted_so : (n : Option Phase) (e e' : Evaluation) (m : ExprMove) (x : Counted) → x ≡ counted.Moves m → IsCountedSo n e e' x → IsShaped n e e' m
counted_so n e e' m x is s = subst (IsCountedSo n e e') is s
