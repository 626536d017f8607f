-- What the row of a frame tells of its next move.
use Rattle.std.proofs.Common.{◌≡◌, true, false, List, [], ◌∷◌, Some, None, slice_get}
use Rattle.std.proofs.Common.{refl, subst, sym}
use Rattle.js_value.specs.declared.value.Value.{Value}
use Rattle.js_rows.specs.Forms.{Form}
use Rattle.js_rows.specs.Row.{Row, placed}
use Rattle.js_rows.specs.Row.Row.{Expression, Form as AForm, Statement}
use Rattle.js_rows.specs.Syntax.{has_no_step}
use Rattle.js_term.specs.Place.{Place}
use Rattle.js_term.specs.declared.operands.Operand.{Operand}
use Rattle.js_term.specs.declared.operands.Operand.TheVariants as operand
use Rattle.js_frames.specs.Arenas.{Arenas}
use Rattle.js_frames.specs.Rows.{frame_row}
use Rattle.js_frames.specs.Soundness.{early_of, moved_rows}
use Rattle.js_frames.specs.declared.frame.Frame.{Frame}
use Rattle.js_frames.specs.declared.moves.NextMove.{NextMove}
use Rattle.js_frames.specs.inner.Advances.{MovesBy, move_of}

pub none-left : {X : Type 0} (xs : List X) → slice_get xs 0 ≡ None → xs ≡ []
none-left [] e = refl
none-left (x ∷ xs) e = cc

-- what makes an early step has a step
pub early-steps : (D : Type 0) (p : Place) (r : Row (Form D)) (vs : List Value)
    → early_of r vs ≡ true → has_no_step (placed p r) ≡ false
early-steps D p (Expression r) vs e = refl
early-steps D p (Statement r) vs e = cc
early-steps D p (AForm f) vs e = refl

pub moves-by : {D : Type 0} (ts : Arenas) (f : Frame D) (x : Operand) (m : NextMove)
    → moved_rows.is_early (frame_row ts f) f.operands.done ≡ false
    → slice_get f.operands.todo 0 ≡ Some x → m ≡ move_of x → MovesBy ts f m
moves-by ts f (operand.Value v) m a b e = subst (MovesBy ts f) (sym e) (a, b)
moves-by ts f (operand.Node id) m a b e = subst (MovesBy ts f) (sym e) (a, b)
