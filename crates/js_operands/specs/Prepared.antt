-- What code says of a step whose operands may have to be converted first.
use Rattle.std.specs.Prelude.{◌≡◌, ℕ, List, Option, Some, None}
use Rattle.js_value.specs.Image.{IsPrimitive}
use Rattle.js_value.specs.declared.value.Value.{Value}
use Rattle.js_ops.specs.declared.equality.Hint.{Hint}
use Rattle.js_heap.specs.World.{World}
use Rattle.js_reference.specs.Answers.{answer, answered_names}
use Rattle.js_reference.specs.Errors.{Answer}
use Rattle.js_reference.specs.Own.{OwnProperties}
use Rattle.js_reference.specs.declared.answered.Answered.{Answered}
use Rattle.js_term.specs.Evaluation.{Evaluation}
use Rattle.js_tree.specs.Arena.{Arena}
use Rattle.js_operands.specs.Conversions.{prepared}
use Rattle.js_operands.specs.ExprMoves.{made_of, move_names, row_behind}
use Rattle.js_operands.specs.Made.{Made}
use Rattle.js_operands.specs.Rows.{ExprRow}
use Rattle.js_operands.specs.Steps.{operand_at}
use Rattle.js_operands.specs.declared.expr_move.ExprMove.{ExprMove}
use Rattle.js_operands.specs.declared.reached.Reached.{Reached}
use Rattle.js_operands.specs.declared.reached.Reached.TheVariants as reached
use Rattle.js_operands.specs.declared.row.Phase.{Phase}

module _ {H : Type 0} (O : OwnProperties H) (wants : ℕ → Option Hint) (w : World) (h : H)
    (vs : List Value) where
  -- no operand is to be converted
  pub record IsReady : Type 0 where
    pub made : (r : ExprRow) (made : Made H) → prepared O w h r wants vs made ≡ made
    pub primitive : (n : ℕ) (k : Hint) → wants n ≡ Some k → IsPrimitive (operand_at vs n)

  -- one is, and this is what the conversion's first step makes of the node
  abbrev pub Converts : Option Phase → ExprMove → Evaluation → World → Type 0
  Converts f m e w' =
      (a : Arena) (r : ExprRow) (made : Made H)
      → prepared O w h (row_behind r f) wants vs made ≡ made_of a r e m w' h

abbrev pub IsPrepared : {H : Type 0} → OwnProperties H → (ℕ → Option Hint) → Option Phase → World
    → H → List Value → Option ExprMove → Evaluation → World → Type 0
IsPrepared O wants f w h vs None e w' = IsReady O wants w h vs
IsPrepared O wants f w h vs (Some m) e w' = Converts O wants w h vs f m e w'

-- What code reaches behind the conversions of a node's operands. guard: the node, with what it makes
-- where none is to be converted. op: the operation, which is behind them. e, e': the operands before
-- and after.
module _ {H : Type 0} (guard : ExprRow → Made H → Made H) (op : Answer H)
    (e e' : Evaluation) (w : World) (h : H) where
  -- the operation has given this
  pub record HasGiven (v : Answered) : Type 0 where
    pub made : (r : ExprRow) (next : Answer H → Made H) → guard r (next op) ≡ next (answer v w h)
    pub same : e' ≡ e

  -- a conversion has begun, or the node has thrown
  abbrev pub HasMoved : ExprMove → Type 0
  HasMoved m = (a : Arena) (r : ExprRow) (made : Made H) → guard r made ≡ made_of a r e' m w h

  abbrev pub HasReached : Reached → Type 0
  HasReached (reached.Gives v) = HasGiven v
  HasReached (reached.Moves m) = HasMoved m

-- what it names, in front of others
abbrev pub reached_names : Reached → List Value → List Value
reached_names (reached.Gives v) vs = answered_names v vs
reached_names (reached.Moves m) vs = move_names m vs
