use Rattle.std.proofs.Common.{ap}
use Rattle.std.specs.Vec.{vec_len}
use Rattle.js_frames.specs.inner.Advances.{with_value}
use Rattle.js_frames.proofs.Tops.{last-written}
use Rattle.js_frames.proofs.stack.take_last.Goals as goal

pub returns-in-Some : goal.returns-in-Some
returns-in-Some g c = λ f is.
    last-written (with_value c.args.value) c.args.frames.now.items
    (vec_len c.args.frames.now) c.in-Some.frame.now f
    (record c.in-Some.frame.now { operands = c.take.new.self }) c.args.frames.now.ok.0 is
    c.in-Some.ensures.value
    (ap (λ o. record c.in-Some.frame.now { operands = o }) c.take.ensures)
