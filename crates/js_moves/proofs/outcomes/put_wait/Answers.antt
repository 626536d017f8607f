use Rattle.std.proofs.Common.{[], Some, ap, sym, subst}
use Rattle.js_host.specs.Names.{resume_names}
use Rattle.js_host.specs.There.{AreThere}
use Rattle.js_host.specs.declared.call.Resume.{Resume}
use Rattle.js_rows.specs.Forms.Form.{Native}
use Rattle.js_rows.specs.Hosted.{entered}
use Rattle.js_frames.specs.declared.frame.Work.TheVariants as work
use Rattle.js_moves.proofs.FormsPut.{callback-there, waiting-put}
use Rattle.js_moves.proofs.outcomes.put_wait.Goals as goal

pub returns : goal.returns
returns g c = λ dispatched ts w stands there.
    let apart = callback-there w c.args.callback (resume_names c.args.point []) there in
    let held = subst (λ (p : Resume). AreThere w (resume_names p [])) (sym c.in_ok-point.ensures)
    apart.1 in
    waiting-put g.row.D.Denot dispatched ts w c.args.stack.now c.put_waiting.new.stack
    c.enter_callback.new.stack (work.Native c.in_ok-point.point) (Native c.args.point)
    c.in_ok-operands.operands c.form_frame.result c.form_frame.ensures c.in_ok-operands.ensures
    (ap (λ (p : Resume). Some (Native p)) c.in_ok-point.ensures) held c.enter_callback.result
    (entered c.args.callback) c.in_ok-put_waiting.ensures.frames c.put_waiting.ensures.base
    (c.in_ok-put_waiting.ensures.stands dispatched ts w stands)
    (λ now. c.enter_callback.ensures dispatched ts w now apart.0)
