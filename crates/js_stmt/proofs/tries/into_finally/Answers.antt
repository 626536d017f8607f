use Rattle.std.proofs.Common.{ap, ◌∙◌}
use Rattle.js_stmt.specs.CodeRows.{fresh}
use Rattle.js_stmt.proofs.Lists.{finally_entered}
use Rattle.js_stmt.proofs.tries.into_finally.Goals as goal

pub returns-in_ok-restart-in-Some : goal.returns-in_ok-restart-in-Some
returns-in_ok-restart-in-Some c = λ a r k h.
    finally_entered a k c.args.guarded.now.finally c.in-Some.statements c.args.kept
    c.restart.new.operands c.in-Some.is
    (c.in_ok-restart-in-Some.ensures ∙ ap fresh c.as_slice.ensures) h
