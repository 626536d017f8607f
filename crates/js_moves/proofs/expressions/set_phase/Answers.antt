use Rattle.std.proofs.Common.{refl}
use Rattle.std.specs.Vec.{vec_len}
use Rattle.js_frames.specs.declared.frame.Work.TheVariants as work
use Rattle.js_frames.proofs.Tops.{last-written}
use Rattle.js_moves.specs.inner.ExprPlaces.{in_phase}
use Rattle.js_moves.proofs.expressions.set_phase.Goals as goal

pub returns-in-Some : goal.returns-in-Some
returns-in-Some g c = λ f is.
    last-written (λ x. in_phase x c.args.phase) c.args.frames.now.items
    (vec_len c.args.frames.now) c.in-Some.frame.now f
    (record c.in-Some.frame.now { work = work.Expression c.args.phase })
    c.args.frames.now.ok.0 is c.in-Some.ensures.value refl
