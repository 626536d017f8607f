use Rattle.js_moves.proofs.Standing.{ok-two, part-put}
use Rattle.js_moves.proofs.parts.put_part.Goals as goal

pub returns : goal.returns
returns g c = λ dispatched w stands.
    let s = c.args.stack.now in
    let ts = c.args.texts.now in
    ok-two c.begin.result
    (λ e at. part-put g.row.D.Denot dispatched ts w s c.begin.new.self s.frames.items
    c.begin.ensures.context c.begin.ensures.base stands c.count-texts.ensures.ordered
    c.args.text c.args.node e at)
    c.begin.ensures.frames c.begin.ensures.focus
