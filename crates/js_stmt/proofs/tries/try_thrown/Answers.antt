use Rattle.std.proofs.Common.{ap, ◌∙◌}
use Rattle.std.proofs.lemmas.Result.{IfOk-weaker}
use Rattle.js_stmt.specs.CodeRows.{finally_as}
use Rattle.js_stmt.specs.Made.{made}
use Rattle.js_stmt.specs.declared.row.StmtRow.TheVariants as code
use Rattle.js_stmt.proofs.CatchSteps.{no_catch}
use Rattle.js_stmt.proofs.tries.try_thrown.Goals as goal

pub returns-in-None : goal.returns-in-None
returns-in-None g c = λ a k h.
    IfOk-weaker c.into_finally.result _ _
    (λ m makes.
    ap (λ x. made x c.args.heap.now c.args.host.now) (makes k h.1.0)
    ∙ no_catch c.args.scope c.args.heap.now c.args.host.now (finally_as a c.args.guarded.now)
    c.args.thrown a c.args.guarded.now.catch c.in-None.is)
    (c.into_finally.ensures a (code.Try c.args.guarded))
