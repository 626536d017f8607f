use Rattle.js_stmt.proofs.Shaped.{ProgressShaped, control_shaped, move_shaped, next_there}
use Rattle.std.proofs.Common.{subst}
use Rattle.js_stmt.proofs.Brought.{ProgressThere, control_there, moved_there, scope_there}
use Rattle.js_stmt.proofs.HeldParts.{arena_of, held_in, outermost}
use Rattle.js_stmt.specs.Parts.{row_parts}
use Rattle.std.proofs.Common.{ap, sym, ◌∙◌}
use Rattle.std.proofs.lemmas.Result.{IfOk-weaker}
use Rattle.js_reference.specs.Hosted.{hosted}
use Rattle.js_stmt.specs.Made.{made}
use Rattle.js_stmt.proofs.MoveRows.{control_made}
use Rattle.js_stmt.proofs.contract.contract_stmt.Goals as goal

pub returns-else-touches_world-clause-value : goal.returns-else-touches_world-clause-value
returns-else-touches_world-clause-value g c = λ a.
    IfOk-weaker c.contract_control.result _ _
    (λ m is. λ k h.
    ap (λ x. made x c.args.heap.now c.args.host.now) (is k h)
    ∙ control_made (hosted g.H.Host.rows) c.args.scope c.args.heap.now c.args.host.now a k
    c.args.row c.args.operands.now.done (sym c.touches_world.ensures ∙ c.if-touches_world.false))
    (c.contract_control.ensures a)

pub returns-else-touches_world-clause-there : goal.returns-else-touches_world-clause-there
returns-else-touches_world-clause-there g c =
    let p = row_parts c.args.row in
    let a = arena_of p in
    let w = c.args.heap.now in
    let vs = g.H.Host.names.host c.args.host.now in
    IfOk-weaker c.contract_control.result _ _
    (λ m is. moved_there w a outermost vs c.args.row c.contract_control.new.operands m
    (subst (ProgressThere w vs) (sym (is outermost (held_in p)))
    (control_there w vs a outermost c.args.row c.args.operands.now.done c.requires.there)))
    (c.contract_control.ensures a)

pub returns-else-touches_world-clause-scope : goal.returns-else-touches_world-clause-scope
returns-else-touches_world-clause-scope g c =
    let p = row_parts c.args.row in
    let a = arena_of p in
    let w = c.args.heap.now in
    let vs = g.H.Host.names.host c.args.host.now in
    IfOk-weaker c.contract_control.result _ _
    (λ m is. scope_there w a outermost vs c.args.row c.contract_control.new.operands m
    (subst (ProgressThere w vs) (sym (is outermost (held_in p)))
    (control_there w vs a outermost c.args.row c.args.operands.now.done c.requires.there)))
    (c.contract_control.ensures a)

pub returns-else-touches_world-clause-phase : goal.returns-else-touches_world-clause-phase
returns-else-touches_world-clause-phase g c =
    let p = row_parts c.args.row in
    let a = arena_of p in
    let w = c.args.heap.now in
    let vs = g.H.Host.names.host c.args.host.now in
    IfOk-weaker c.contract_control.result _ _
    (λ m is. next_there a outermost w vs c.args.row c.contract_control.new.operands m
    (subst (ProgressThere w vs) (sym (is outermost (held_in p)))
    (control_there w vs a outermost c.args.row c.args.operands.now.done c.requires.there)))
    (c.contract_control.ensures a)

pub returns-else-touches_world-clause-shape : goal.returns-else-touches_world-clause-shape
returns-else-touches_world-clause-shape g c =
    let p = row_parts c.args.row in
    let a = arena_of p in
    IfOk-weaker c.contract_control.result _ _
    (λ m is. move_shaped a outermost c.args.row c.contract_control.new.operands m
    (subst ProgressShaped (sym (is outermost (held_in p)))
    (control_shaped a outermost c.args.row c.args.operands.now.done (held_in p))))
    (c.contract_control.ensures a)
