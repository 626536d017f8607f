-- What the step of an expression leaves in its frame's place.
use Rattle.std.specs.Prelude.{◌≡◌, List, [], Option, Some, None}
use Rattle.js_value.specs.declared.value.Value.{Value}
use Rattle.js_value.specs.declared.value.Value.TheVariants.{Undefined}
use Rattle.js_heap.specs.Closed.{IsThere}
use Rattle.js_heap.specs.World.{World}
use Rattle.js_host.specs.There.{AreThere}
use Rattle.js_term.specs.Frames as frames
use Rattle.js_term.specs.Term.{Term}
use Rattle.js_term.specs.Term.Term.{Stop, Val}
use Rattle.js_term.specs.declared.completion.Completion.TheVariants.{Throw}
use Rattle.js_term.specs.declared.context.Context.{Context}
use Rattle.js_tree.specs.TreeAt.{tree_at}
use Rattle.js_tree.specs.declared.node.NodeId.{NodeId}
use Rattle.js_operands.specs.ExprMoves.{conversion_as, conversion_names}
use Rattle.js_operands.specs.declared.expr_move.Conversion.{Conversion}
use Rattle.js_operands.specs.declared.expr_move.ExprMove.{ExprMove}
use Rattle.js_operands.specs.declared.expr_move.ExprMove.TheVariants as move
use Rattle.js_operands.specs.declared.row.Phase.{Phase}
use Rattle.js_rows.specs.Hosted.{PageRow}
use Rattle.js_rows.specs.Syntax.{has_no_step, term_at}
use Rattle.js_frames.specs.Arenas.{Arenas}
use Rattle.js_frames.specs.Reading.{syntax, waits}
use Rattle.js_frames.specs.Rows.{site_arena}
use Rattle.js_frames.specs.Soundness.{HasNode}
use Rattle.js_frames.specs.declared.frame.Frame.{Frame}
use Rattle.js_frames.specs.declared.frame.Site.{Site}
use Rattle.js_frames.specs.declared.frame.Work.TheVariants as work
use Rattle.js_frames.specs.inner.Advances.{inner_in}
use Rattle.js_moves.specs.inner.Places.{MayRest, MayWait, frame_term}
use Rattle.js_moves.specs.inner.Terms.{conversion_term, expression_place}

module _ {D : Type 0} where
  -- the same expression in another phase
  abbrev pub in_phase : Frame D → Phase → Frame D
  in_phase f g = record f { work = work.Expression g }

  abbrev pub behind : Frame D → Option Phase → Frame D
  behind f None = f
  behind f (Some g) = in_phase f g

  module _ (ts : Arenas) where
    -- a part of the text in which a node stands
    abbrev pub part_term : Option Site → NodeId → Term (PageRow D)
    part_term s id = term_at (expression_place ts s) (tree_at (site_arena ts s) id)

    abbrev pub converted : Option Site → Conversion → Term (PageRow D)
    converted s k = conversion_term (expression_place ts s) (conversion_as k)

    -- a frame around the conversion for which it waits
    abbrev pub awaiting_term : Frame D → Conversion → Term (PageRow D)
    awaiting_term f k =
        frames.around has_no_step (syntax ts).term (waits ts f) (converted f.site k)

    -- f: the frame with the operands that the step leaves. No term stands for a call.
    abbrev pub move_term : Frame D → ExprMove → Term (PageRow D)
    move_term f (move.Value v) = Val v
    move_term f (move.Throws v) = Stop (Throw v)
    move_term f (move.Becomes id) = part_term f.site id
    move_term f (move.Converting k) = converted f.site k
    move_term f (move.GoesOn g) = frame_term ts (in_phase f g)
    move_term f (move.Converts o k) = awaiting_term (behind f o) k
    move_term f (move.Calls g q) = Val Undefined

  module _ (dispatched : D → List Value) (ts : Arenas) (w : World) (c : Context) where
    -- the frame may wait for its next operand, which is in conversion, and its operands are
    -- evaluated where it stands
    pub record MayConvert (f : Frame D) (k : Conversion) : Type 0 where
      pub waits : MayWait dispatched ts w c f
      pub inner : inner_in f c ≡ c
      pub named : AreThere w (conversion_names k [])

    abbrev pub MayMove : Frame D → ExprMove → Type 0
    MayMove f (move.Value v) = IsThere w v
    MayMove f (move.Throws v) = IsThere w v
    MayMove f (move.Becomes id) = Unit {0}
    MayMove f (move.Converting k) = HasNode ts f.site × AreThere w (conversion_names k [])
    MayMove f (move.GoesOn g) = MayRest dispatched ts w c (in_phase f g)
    MayMove f (move.Converts o k) = MayConvert (behind f o) k
    MayMove f (move.Calls g q) = Unit {0}
