use Rattle.std.proofs.Common.{ap, sym, ◌∙◌}
use Rattle.std.proofs.lemmas.Result.{IfOk-weaker}
use Rattle.js_stmt.specs.CodeRows.{catch_as, finally_as}
use Rattle.js_stmt.specs.Made.{made}
use Rattle.js_stmt.specs.Tries.{try_meets}
use Rattle.js_stmt.specs.declared.row.StmtRow.TheVariants as code
use Rattle.js_stmt.proofs.tries.try_met.Goals as goal

pub returns-in-Throw : goal.returns-in-Throw
returns-in-Throw g c = λ a k h.
    IfOk-weaker c.try_thrown.result _ _
    (λ m is. is
    ∙ ap
    (try_meets c.args.scope c.args.heap.now c.args.host.now (catch_as a c.args.guarded.now)
    (finally_as a c.args.guarded.now)) (sym c.in-Throw.is))
    (c.try_thrown.ensures a k h)

pub returns-in-Return : goal.returns-in-Return
returns-in-Return g c = λ a k h.
    IfOk-weaker c.into_finally.result _ _
    (λ m makes.
    ap (λ x. made x c.args.heap.now c.args.host.now) (makes k h.1.0)
    ∙ ap
    (try_meets c.args.scope c.args.heap.now c.args.host.now (catch_as a c.args.guarded.now)
    (finally_as a c.args.guarded.now)) (sym c.in-Return.is))
    (c.into_finally.ensures a (code.Try c.args.guarded))

pub returns-in-Break : goal.returns-in-Break
returns-in-Break g c = λ a k h.
    IfOk-weaker c.into_finally-in-Break.result _ _
    (λ m makes.
    ap (λ x. made x c.args.heap.now c.args.host.now) (makes k h.1.0)
    ∙ ap
    (try_meets c.args.scope c.args.heap.now c.args.host.now (catch_as a c.args.guarded.now)
    (finally_as a c.args.guarded.now)) (sym c.in-Break.is))
    (c.into_finally-in-Break.ensures a (code.Try c.args.guarded))

pub returns-in-Continue : goal.returns-in-Continue
returns-in-Continue g c = λ a k h.
    IfOk-weaker c.into_finally-in-Continue.result _ _
    (λ m makes.
    ap (λ x. made x c.args.heap.now c.args.host.now) (makes k h.1.0)
    ∙ ap
    (try_meets c.args.scope c.args.heap.now c.args.host.now (catch_as a c.args.guarded.now)
    (finally_as a c.args.guarded.now)) (sym c.in-Continue.is))
    (c.into_finally-in-Continue.ensures a (code.Try c.args.guarded))
