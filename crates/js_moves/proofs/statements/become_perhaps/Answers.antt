use Rattle.std.proofs.Common.{subst, sym}
use Rattle.std.specs.Prelude.{OnOk}
use Rattle.js_stmt.specs.declared.stmt_move.StmtMove.TheVariants as move
use Rattle.js_moves.specs.inner.StmtPlaces.{Moves}
use Rattle.js_moves.proofs.StatementsMoved.{vanishes}
use Rattle.js_moves.proofs.statements.become_perhaps.Goals as goal

pub returns-in-Some : goal.returns-in-Some
returns-in-Some g c = λ dispatched w.
    subst (λ o. OnOk c.become_part.result (Moves dispatched c.args.texts.now w c.args.stack.now
    (move.Becomes o) c.become_part.new.stack)) (sym c.in-Some.is) (c.become_part.ensures dispatched w)

pub returns-in-None : goal.returns-in-None
returns-in-None g c = λ dispatched w.
    subst (λ o. Moves dispatched c.args.texts.now w c.args.stack.now (move.Becomes o) c.give.new.self)
    (sym c.in-None.is)
    (vanishes g.row.D.Denot dispatched c.args.texts.now w c.args.stack.now c.give.new.self
    c.give.ensures.context c.give.ensures.base c.give.ensures.frames c.give.ensures.focus)
