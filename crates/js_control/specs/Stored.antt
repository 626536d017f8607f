-- What code says of the numbers that `++` and `--` read and write.
use Rattle.std.specs.Prelude.{◌≡◌, ℕ, List, Option, Some, None}
use Rattle.js_value.specs.declared.number.Num.{Num}
use Rattle.js_value.specs.declared.value.Value.{Value}
use Rattle.js_value.specs.declared.value.Value.TheVariants as value
use Rattle.js_ops.specs.Convert.{to_number}
use Rattle.js_ops.specs.declared.equality.Hint.TheVariants as hint
use Rattle.js_heap.specs.World.{World}
use Rattle.js_reference.specs.Errors.{Answer}
use Rattle.js_reference.specs.Own.{OwnProperties}
use Rattle.js_operations.specs.NextNumbers.{next_number}
use Rattle.js_term.specs.Evaluation.{Evaluation}
use Rattle.js_tree.specs.Arena.{Arena}
use Rattle.js_tree.specs.declared.production.UpdateOperator.{UpdateOperator}
use Rattle.js_operands.specs.Conversions.{prepared, wants_at}
use Rattle.js_operands.specs.ExprMoves.{made_of, move_names}
use Rattle.js_operands.specs.Made.{Made}
use Rattle.js_operands.specs.Rows.{ExprRow}
use Rattle.js_operands.specs.Shapes.{IsShaped}
use Rattle.js_operands.specs.Steps.{operand_at}
use Rattle.js_control.specs.Updates.{stored}
use Rattle.js_operands.specs.declared.row.Phase.{Phase}
use Rattle.js_operands.specs.declared.row.Side.{Side}
use Rattle.js_control.specs.declared.updates.Counted.{Counted}
use Rattle.js_control.specs.declared.updates.Counted.TheVariants as counted
use Rattle.js_control.specs.declared.updates.NextNumber.{NextNumber}

-- both numbers are in the profile
pub record IsNext (u : UpdateOperator) (v : Value) (n : NextNumber) : Type 0 where
  pub old : to_number v ≡ Some n.old
  pub next : next_number u n.old ≡ Some (value.Num n.next)

-- the number of a value and the next one, or none, where one of both is outside the profile
abbrev pub AreNext : UpdateOperator → Value → Option NextNumber → Type 0
AreNext u v None = (n : Num) → to_number v ≡ Some n → next_number u n ≡ None
AreNext u v (Some n) = IsNext u v n

module _ {H : Type 0} (O : OwnProperties H) (w : World) (h : H) (n : ℕ) (u : UpdateOperator)
    (e : Evaluation) where
  -- the value of the target is primitive, and both numbers are in the profile
  pub record IsReady (m : NextNumber) (e' : Evaluation) (w' : World) : Type 0 where
    pub made : (r : ExprRow) (made : Made H)
        → prepared O w h r (wants_at n (Some hint.Number) None) e.done made ≡ made
    pub numbers : IsNext u (operand_at e.done n) m
    pub same : e' ≡ e
    pub world : w' ≡ w

  abbrev pub IsCounted : Counted → Evaluation → World → Type 0
  IsCounted (counted.Ready m) e' w' = IsReady m e' w'
  IsCounted (counted.Moves m) e' w' =
      (a : Arena) (r : ExprRow) (s : Side) (put : Value → Answer H)
      → stored O w h r n u s e.done put ≡ made_of a r e' m w' h

-- what it names, in front of others
abbrev pub counted_names : Counted → List Value → List Value
counted_names (counted.Ready m) vs = vs
counted_names (counted.Moves m) vs = move_names m vs

-- how the node is left where it waits for the target's value
abbrev pub IsCountedSo : Option Phase → (e e' : Evaluation) → Counted → Type 0
IsCountedSo n e e' (counted.Ready m) = Unit {0}
IsCountedSo n e e' (counted.Moves m) = IsShaped n e e' m
