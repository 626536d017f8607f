use Rattle.std.proofs.Common.{◌≡◌, true, ap, ◌∙◌}
use Rattle.js_reference.specs.Room.{scopes_fit}
use Rattle.js_stmt.specs.CodeRows.{finally_as, fresh}
use Rattle.js_stmt.proofs.CatchSteps.{caught}
use Rattle.js_stmt.proofs.tries.into_catch.Goals as goal

pub returns : goal.returns
returns g c = λ a k h.
    let fits : scopes_fit c.args.heap.now 1 ≡ true = cc in
    caught c.args.scope c.args.heap.now c.args.host.now c.args.catch.now.name
    (finally_as a c.args.guarded.now) c.args.thrown a k c.args.catch.now.statements
    c.in_ok-inner.inner c.restart.new.operands c.new_scope.new.heap c.declare.new.self fits
    c.in_ok-inner.ensures.number c.in_ok-inner.ensures.made c.in_ok-declare.ensures.ok
    (c.in_ok-restart.ensures ∙ ap fresh c.as_slice.ensures) h
