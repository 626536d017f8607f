use Rattle.std.proofs.Common.{refl}
use Rattle.js_moves.proofs.StatementsMoved.{goes-on}
use Rattle.js_moves.proofs.statements.go_on.Goals as goal

pub returns : goal.returns
returns g c = λ dispatched ts w.
    goes-on g.row.D.Denot dispatched ts w c.args.stack.now _ refl refl c.args.phase refl
    (λ f is. c.move_last.ensures c.args.stack.now.context f is c.in_ok-contexts.ensures)
