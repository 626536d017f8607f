use Rattle.js_moves.proofs.Standing.{frame-put, ok-two}
use Rattle.js_moves.proofs.parts.put_frame.Goals as goal

pub returns : goal.returns
returns g c = λ dispatched ts w stands may.
    let s = c.args.stack.now in
    ok-two c.rest.result
    (λ e at. frame-put g.row.D.Denot dispatched ts w s c.rest.new.self s.frames.items
    c.rest.ensures.context c.rest.ensures.base stands c.args.frame e at may)
    c.rest.ensures.frames c.rest.ensures.focus
