use Rattle.std.proofs.Common.{ap, refl}
use Rattle.js_stmt.specs.declared.phase.StmtPhase.TheVariants as phase
use Rattle.js_stmt.specs.declared.stmt_move.StmtMove.TheVariants as move
use Rattle.js_moves.specs.inner.StmtPlaces.{keeping}
use Rattle.js_moves.proofs.StatementsMoved.{finally}
use Rattle.js_moves.proofs.statements.go_on_finally.Goals as goal

pub returns : goal.returns
returns g c = λ dispatched ts w.
    finally g.row.D.Denot dispatched ts w c.args.stack.now _ refl refl c.args.kept refl
    (λ f is. c.keep_last.ensures c.args.stack.now.context (move.Finally c.args.kept) f is
    (ap (λ k. keeping phase.Finally k f.work) c.kept_over.ensures) refl)
