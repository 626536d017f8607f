use Rattle.std.proofs.Common.{sym, subst, refl}
use Rattle.std.proofs.lemmas.List.{append-nil}
use Rattle.js_host.specs.There.{AreThere}
use Rattle.js_rows.specs.Forms.Form.{Dispatch}
use Rattle.js_frames.specs.declared.frame.Work.TheVariants as work
use Rattle.js_moves.proofs.FormsPut.{waiting-put}
use Rattle.js_moves.proofs.forms.put_listener.Goals as goal

pub returns : goal.returns
returns g c = λ dispatched ts w stands there.
    let d = c.args.dispatch in
    let kept = subst (AreThere w) (sym (append-nil (dispatched d))) there.1.1.1 in
    waiting-put g.row.D.Denot dispatched ts w c.args.stack.now c.put_waiting.new.stack
    c.put_call.new.stack (work.Dispatch d) (Dispatch d) c.in_ok-operands.operands
    c.form_frame.result c.form_frame.ensures c.in_ok-operands.ensures refl kept
    c.put_call.result _ c.in_ok-put_waiting.ensures.frames c.put_waiting.ensures.base
    (c.in_ok-put_waiting.ensures.stands dispatched ts w stands)
    (λ now. c.put_call.ensures dispatched ts w now tt
    (there.0, (there.1.0, (there.1.1.0, tt))))
