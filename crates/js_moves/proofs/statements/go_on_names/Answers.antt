use Rattle.std.proofs.Common.{refl}
use Rattle.js_stmt.specs.declared.stmt_move.StmtMove.TheVariants as move
use Rattle.js_moves.proofs.StatementsMoved.{names}
use Rattle.js_moves.proofs.statements.go_on_names.Goals as goal

pub returns : goal.returns
returns g c = λ dispatched ts w.
    names g.row.D.Denot dispatched ts w c.args.stack.now _ refl refl c.args.object c.args.names refl
    (λ f is. c.keep_last.ensures c.args.stack.now.context (move.Names c.args.object c.args.names) f
    is refl refl)
