use Rattle.js_term.specs.Term.Term.{Stop}
use Rattle.js_term.specs.declared.completion.Completion.TheVariants.{Throw}
use Rattle.js_frames.specs.inner.Advances.{front}
use Rattle.js_moves.proofs.ExpressionPlaces.{in-place}
use Rattle.js_moves.proofs.expressions.throw.Goals as goal

pub returns : goal.returns
returns g c = λ dispatched ts w stands there.
    let s = c.args.stack.now in
    let left = c.leave.new.self in
    in-place dispatched ts w s left c.put_completion.new.stack (front s.frames.items)
    c.leave.ensures.context c.leave.ensures.base stands (Stop (Throw c.args.value))
    c.leave.ensures.frames (λ now. c.put_completion.ensures dispatched ts w now (there, tt))
