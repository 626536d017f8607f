use Rattle.std.proofs.Common.{subst, sym}
use Rattle.js_moves.specs.inner.StmtPlaces.{IsBody}
use Rattle.js_moves.proofs.Standing.{ok-two}
use Rattle.js_moves.proofs.StatementsEntered.{body-put}
use Rattle.js_moves.proofs.statements.enter_body.Goals as goal

pub returns : goal.returns
returns g c = λ dispatched ts w stands there names operands in_there.
    let f = c.body_frame.result in
    ok-two c.rest.result
    (λ items rest. body-put g.row.D.Denot dispatched ts w c.args.site c.args.inner
    c.in_ok-outer.outer c.args.made c.args.operands f
    (subst (λ b. IsBody c.args.site b c.args.made c.args.operands f) c.in_ok-contexts.ensures
    c.body_frame.ensures)
    there c.args.stack.now c.rest.new.self c.rest.ensures.context c.rest.ensures.base stands
    (sym c.in_ok-outer.ensures) names operands in_there items rest)
    c.rest.ensures.frames c.rest.ensures.focus
