use Rattle.std.proofs.Common.{◌∷◌, [], None, ap, refl, ◌∙◌}
use Rattle.js_ops.specs.declared.equality.Hint.{Hint}
use Rattle.js_operands.specs.Rows.ExprRow.{Convert}
use Rattle.js_operands.specs.declared.row.Phase.TheVariants as phase
use Rattle.js_rows.specs.Hosted.{hint_of}
use Rattle.js_frames.specs.declared.frame.Work.TheVariants as work
use Rattle.js_moves.proofs.FormsPut.{frame_at, row-put}
use Rattle.js_moves.proofs.calls.enter_conversion.Goals as goal

pub returns : goal.returns
returns g c = λ dispatched ts w stands there.
    row-put g.row.D.Denot dispatched ts w c.put_frame.result c.args.stack.now
    c.put_frame.new.stack c.expression_frame.result None (phase.Convert (hint_of c.args.text))
    (Convert (hint_of c.args.text)) (c.args.value ∷ []) c.in_ok-operands.operands
    (c.expression_frame.ensures
    ∙ ap (λ (h : Hint). frame_at g.row.D.Denot dispatched ts w None (work.Expression (phase.Convert h))
    c.in_ok-operands.operands) c.hint.ensures)
    c.in_ok-operands.ensures tt refl (λ us. refl) tt there
    (c.put_frame.ensures dispatched ts w stands)
