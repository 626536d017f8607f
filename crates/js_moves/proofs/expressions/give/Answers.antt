use Rattle.js_term.specs.Term.Term.{Val}
use Rattle.js_frames.specs.inner.Advances.{front}
use Rattle.js_moves.proofs.ExpressionPlaces.{in-place}
use Rattle.js_moves.proofs.expressions.give.Goals as goal

pub returns : goal.returns
returns g c = λ dispatched ts w stands there.
    let s = c.args.stack.now in
    let left = c.leave.new.self in
    in-place dispatched ts w s left c.put_value.new.stack (front s.frames.items)
    c.leave.ensures.context c.leave.ensures.base stands (Val c.args.value) c.leave.ensures.frames
    (λ now. c.put_value.ensures dispatched ts w now there)
