use Rattle.js_stmt.proofs.Shaped.{ProgressShaped, meets_shaped, move_shaped, next_there}
use Rattle.std.proofs.Common.{subst}
use Rattle.js_stmt.proofs.Brought.{ProgressThere, meets_there, moved_there, scope_there}
use Rattle.js_stmt.proofs.HeldParts.{outermost}
use Rattle.std.proofs.Common.{ap, sym, ◌∙◌}
use Rattle.std.proofs.lemmas.Result.{IfOk-weaker}
use Rattle.js_reference.specs.Hosted.{hosted}
use Rattle.js_stmt.specs.Made.{made}
use Rattle.js_stmt.proofs.MoveRows.{control_met}
use Rattle.js_stmt.proofs.contract.meet_stmt.Goals as goal

pub returns-else-meets_world-clause-value : goal.returns-else-meets_world-clause-value
returns-else-meets_world-clause-value g c =
    IfOk-weaker c.meet_control.result _ _
    (λ m is. λ k h.
    ap (λ x. made x c.args.heap.now c.args.host.now) (is k h)
    ∙ control_met (hosted g.H.Host.rows) c.args.scope c.args.heap.now c.args.host.now
    c.args.script.now k c.args.row c.args.completion
    (sym c.meets_world.ensures ∙ c.if-meets_world.false))
    c.meet_control.ensures

pub returns-else-meets_world-clause-there : goal.returns-else-meets_world-clause-there
returns-else-meets_world-clause-there g c =
    let a = c.args.script.now in
    let w = c.args.heap.now in
    let vs = g.H.Host.names.host c.args.host.now in
    IfOk-weaker c.meet_control.result _ _
    (λ m is. moved_there w a outermost vs c.args.row c.meet_control.new.operands m
    (subst (ProgressThere w vs) (sym (is outermost c.requires.held))
    (meets_there w vs a outermost c.args.row c.args.completion c.requires.there)))
    c.meet_control.ensures

pub returns-else-meets_world-clause-scope : goal.returns-else-meets_world-clause-scope
returns-else-meets_world-clause-scope g c =
    let a = c.args.script.now in
    let w = c.args.heap.now in
    let vs = g.H.Host.names.host c.args.host.now in
    IfOk-weaker c.meet_control.result _ _
    (λ m is. scope_there w a outermost vs c.args.row c.meet_control.new.operands m
    (subst (ProgressThere w vs) (sym (is outermost c.requires.held))
    (meets_there w vs a outermost c.args.row c.args.completion c.requires.there)))
    c.meet_control.ensures

pub returns-else-meets_world-clause-phase : goal.returns-else-meets_world-clause-phase
returns-else-meets_world-clause-phase g c =
    let a = c.args.script.now in
    let w = c.args.heap.now in
    let vs = g.H.Host.names.host c.args.host.now in
    IfOk-weaker c.meet_control.result _ _
    (λ m is. next_there a outermost w vs c.args.row c.meet_control.new.operands m
    (subst (ProgressThere w vs) (sym (is outermost c.requires.held))
    (meets_there w vs a outermost c.args.row c.args.completion c.requires.there)))
    c.meet_control.ensures

pub returns-else-meets_world-clause-shape : goal.returns-else-meets_world-clause-shape
returns-else-meets_world-clause-shape g c =
    let a = c.args.script.now in
    IfOk-weaker c.meet_control.result _ _
    (λ m is. move_shaped a outermost c.args.row c.meet_control.new.operands m
    (subst ProgressShaped (sym (is outermost c.requires.held))
    (meets_shaped a outermost c.args.row c.args.completion c.requires.held)))
    c.meet_control.ensures
