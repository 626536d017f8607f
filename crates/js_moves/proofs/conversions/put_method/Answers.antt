use Rattle.std.proofs.Common.{◌≡◌, List, [], ◌∷◌, None, ap, ◌∙◌}
use Rattle.js_value.specs.declared.value.Value.{Value}
use Rattle.js_term.specs.Evaluation.{Evaluation}
use Rattle.js_operands.specs.declared.row.Phase.TheVariants as phase
use Rattle.js_frames.specs.declared.frame.Frame.{Frame}
use Rattle.js_frames.specs.declared.frame.Work.TheVariants as work
use Rattle.js_moves.proofs.ConversionTerms.{call-may, method-put-ok, method_call, taker, taker-may}
use Rattle.js_moves.proofs.ConversionTerms.{taker-none}
use Rattle.js_moves.proofs.conversions.put_method.Goals as goal

pub returns : goal.returns
returns g c = λ dispatched ts w stands node named.
    let D = g.row.D.Denot in
    let s = c.args.stack.now in
    let site = c.args.site in
    let v = c.args.object in
    let f = c.args.method in
    let m = c.args.left in
    let waits : Evaluation → Frame D = λ e. record {
      site = site;
      work = work.Expression (phase.Converting m);
      operands = e;
      contexts = None;
    } in
    let called : List Value → Frame D = λ vs. record {
      site = site;
      work = work.Expression phase.CallOn;
      operands = record { done = vs; todo = [] };
      contexts = None;
    } in
    let calls : Evaluation → Frame D = λ e. record {
      site = site;
      work = work.Expression phase.CallOn;
      operands = e;
      contexts = None;
    } in
    let is : c.expression_frame.result ≡ taker ts D site v f m =
    c.expression_frame.ensures ∙ ap waits c.in_ok-operands.ensures in
    let then : c.expression_frame-2.result ≡ method_call ts D site v f m =
    c.expression_frame-2.ensures
    ∙ (ap calls c.in_ok-call.ensures ∙ ap (λ x. called (f ∷ x ∷ [])) c.in_ok-copy.ensures) in
    let put = c.in_ok-put_waiting.ensures in
    let now = put.stands dispatched ts w stands
    (taker-none ts D site v f m c.expression_frame.result is)
    (taker-may ts D site v f m dispatched w node named s.context c.expression_frame.result is) in
    let may = call-may ts D site v f m dispatched w node named c.put_waiting.new.stack.context
    c.expression_frame-2.result then in
    method-put-ok ts D site v f m c.put_frame.result dispatched w s.base
    c.put_waiting.new.stack.base s.frames.items c.put_waiting.new.stack.frames.items
    c.expression_frame.result c.expression_frame-2.result c.put_frame.new.stack is then put.frames
    put.base (c.put_frame.ensures dispatched ts w now may)
