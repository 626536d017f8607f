-- How a step leaves a node that goes on or waits: the phase and the operands of its frame.
use Rattle.std.specs.Prelude.{◌≡◌, List, [], ◌∷◌, ◌++◌, Option, Some, None, map}
use Rattle.js_value.specs.declared.value.Value.{Value}
use Rattle.js_term.specs.Evaluation.{Evaluation}
use Rattle.js_term.specs.declared.operands.Operand.TheVariants as operand
use Rattle.js_operands.specs.ExprMoves.{values_coming}
use Rattle.js_operands.specs.Rows.{ExprRow}
use Rattle.js_operands.specs.declared.expr_move.ExprMove.{ExprMove}
use Rattle.js_operands.specs.declared.expr_move.ExprMove.TheVariants as move
use Rattle.js_operands.specs.declared.reached.Reached.{Reached}
use Rattle.js_operands.specs.declared.reached.Reached.TheVariants as reached
use Rattle.js_operands.specs.declared.row.Phase.{Phase}
use Rattle.js_operands.specs.declared.row.Phase.TheVariants as phase

-- the phase in which the node of a row goes on; no other is named
abbrev pub next_phase : ExprRow → Option Phase
next_phase ExprRow.Call = Some phase.CallOn
next_phase (ExprRow.CallMember k xs) = Some phase.CallOn
next_phase (ExprRow.CallIndex xs) = Some phase.CallOn
next_phase (ExprRow.ReviseName o x e) = Some phase.Compute
next_phase (ExprRow.ReviseMember o k e) = Some phase.Compute
next_phase (ExprRow.ReviseIndex o e) = Some phase.Compute
next_phase (ExprRow.ComputeName o x) = Some phase.Assign
next_phase (ExprRow.ComputeMember o k) = Some phase.Assign
next_phase (ExprRow.ComputeIndex o) = Some phase.Assign
next_phase (ExprRow.UpdateName u s x) = Some phase.Store
next_phase (ExprRow.UpdateMember u s k) = Some phase.Store
next_phase (ExprRow.UpdateIndex u s) = Some phase.Store
next_phase r = None

abbrev pub IsNext : (next phase : Option Phase) → Type 0
IsNext next None = Unit {0}
IsNext next (Some f) = next ≡ Some f

-- a value that is in conversion is the next to come, and before what was to come there are values
-- alone
pub record IsWaiting (e e' : Evaluation) : Type 0 where
  pub first : Value
  pub others : List Value
  pub coming : e'.todo ≡ map operand.Value (first ∷ others) ++ e.todo

-- a value that is in conversion is the next to come, and nothing else is put before what was to come
pub record IsNextAlone (e e' : Evaluation) : Type 0 where
  pub first : Value
  pub coming : e'.todo ≡ operand.Value first ∷ e.todo

-- next: the phase in which the node goes on. e, e': its operands before and after. Where it goes on
-- only parts of the text are to come, and behind a call the operands are as they were.
module _ (next : Option Phase) (e e' : Evaluation) where
  abbrev pub IsShaped : ExprMove → Type 0
  IsShaped (move.GoesOn f) = (next ≡ Some f) × (values_coming e'.todo ≡ [])
  IsShaped (move.Converts f k) = IsNext next f × IsWaiting e e'
  IsShaped (move.Calls f c) = e' ≡ e
  IsShaped m = Unit {0}

  abbrev pub IsReachedSo : Reached → Type 0
  IsReachedSo (reached.Moves m) = IsShaped m
  IsReachedSo (reached.Gives v) = Unit {0}

-- how an early step leaves its node: it is thrown away, or waits for its last value in its own phase
abbrev pub IsEarlySo : (e e' : Evaluation) → ExprMove → Type 0
IsEarlySo e e' (move.Throws v) = Unit {0}
IsEarlySo e e' (move.Converts f k) = (f ≡ None) × IsNextAlone e e'
IsEarlySo e e' m = ⊥
