-- What a frame's step in code stands for.
use Rattle.std.specs.Prelude.{Bool}
use Rattle.js_value.specs.declared.value.Value.TheVariants.{Undefined}
use Rattle.js_heap.specs.World.{World}
use Rattle.js_host.specs.declared.call.Callback.{Callback}
use Rattle.js_term.specs.Calls.{Calling, call_step}
use Rattle.js_term.specs.Evaluation.{Evaluation}
use Rattle.js_term.specs.Frames.{around, resting}
use Rattle.js_term.specs.Frames.Frame.{Waiting}
use Rattle.js_term.specs.Place.{Place}
use Rattle.js_term.specs.Table.{Step}
use Rattle.js_term.specs.Table.Step.{Gives}
use Rattle.js_term.specs.Term.{Term}
use Rattle.js_term.specs.Term.Term.{Val, Stop}
use Rattle.js_term.specs.declared.frame_move.Move.{Move}
use Rattle.js_term.specs.declared.frame_move.Move.TheVariants as move
use Rattle.js_term.specs.declared.operands.Operand.{Operand}
use Rattle.js_term.specs.declared.operands.Operand.TheVariants as operand

-- C: what a table gives for calls. answers: the term of a callback whose answer a node waits for.
-- term: the term of an operand to come of a row.
module _ {R H : Type 0} (C : Calling R H) (answers : Place → Callback → Term R)
    (no_step : R → Bool) (term : R → Operand → Term R) where
  -- what a move makes of a node, whose place, row and operands after the step these are
  abbrev pub moved : Place → R → Evaluation → Move → World → H → Step R H
  moved p r e (move.Value v) w h = Gives (Val v) w h
  moved p r e (move.Abrupt k) w h = Gives (Stop k) w h
  moved p r e move.Finished w h = Gives (Val Undefined) w h
  moved p r e move.Stay w h = Gives (resting no_step term r e.done e.todo) w h
  moved p r e (move.Push id) w h =
      Gives (around no_step term (Waiting r e.done e.todo) (term r (operand.Node id))) w h
  moved p r e (move.Enter c) w h =
      Gives (around no_step term (Waiting r e.done e.todo) (answers p c)) w h
  moved p r e (move.Call f c) w h = call_step C p w h f c
