use Rattle.js_frames.specs.inner.Advances.{front}
use Rattle.js_moves.specs.inner.ExprPlaces.{behind}
use Rattle.js_moves.proofs.ExpressionPlaces.{awaiting-put-ok, behind-at}
use Rattle.js_moves.proofs.expressions.await_conversion.Goals as goal

pub returns : goal.returns
returns g c = λ dispatched ts w f is at stands may.
    let s = c.args.stack.now in
    awaiting-put-ok dispatched ts w s c.go_on_in.new.stack c.put_conversion.new.stack
    (front s.frames.items) c.go_on_in.ensures.context c.go_on_in.ensures.base stands
    (behind f c.args.phase) c.args.conversion c.args.site
    (behind-at f c.args.phase c.args.site at) may c.put_conversion.result
    (c.go_on_in.ensures.frames f is)
    (λ now node named. c.put_conversion.ensures dispatched ts w now node named)
