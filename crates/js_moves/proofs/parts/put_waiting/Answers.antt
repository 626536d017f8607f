use Rattle.std.proofs.Common.{sym, subst}
use Rattle.js_moves.specs.inner.Places.{Stands}
use Rattle.js_moves.proofs.Standing.{ok-two, waiting-put}
use Rattle.js_moves.proofs.parts.put_waiting.Goals as goal

pub returns-clause-stands : goal.returns-clause-stands
returns-clause-stands g c = λ dispatched ts w stands none may.
    let s = c.args.stack.now in
    ok-two c.rest.result
    (λ e at. subst (λ fs. Stands dispatched ts w fs c.rest.new.self) (sym e)
    (waiting-put g.row.D.Denot dispatched ts w s c.rest.new.self s.frames.items
    c.rest.ensures.context c.rest.ensures.base stands c.args.frame none may))
    c.rest.ensures.frames c.rest.ensures.focus
