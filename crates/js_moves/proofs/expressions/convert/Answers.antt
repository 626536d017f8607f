use Rattle.js_frames.specs.inner.Advances.{front}
use Rattle.js_moves.specs.inner.ExprPlaces.{converted}
use Rattle.js_moves.proofs.ExpressionPlaces.{in-place-ok}
use Rattle.js_moves.proofs.expressions.convert.Goals as goal

pub returns : goal.returns
returns g c = λ dispatched ts w stands node named.
    let s = c.args.stack.now in
    in-place-ok dispatched ts w s c.leave.new.self c.put_conversion.new.stack
    (front s.frames.items) c.leave.ensures.context c.leave.ensures.base stands
    c.put_conversion.result (converted ts c.args.site c.args.conversion) c.leave.ensures.frames
    (λ now. c.put_conversion.ensures dispatched ts w now node named)
