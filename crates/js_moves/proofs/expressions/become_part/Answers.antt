use Rattle.std.proofs.Common.{◌≡◌, ap, sym, subst, ◌∙◌}
use Rattle.js_value.specs.declared.value.Value.TheVariants.{Undefined}
use Rattle.js_term.specs.Term.{Term}
use Rattle.js_term.specs.Term.Term.{Val}
use Rattle.js_rows.specs.Hosted.{PageRow}
use Rattle.js_frames.specs.inner.Advances.{front}
use Rattle.js_moves.specs.inner.ExprPlaces.{part_term}
use Rattle.js_moves.specs.inner.Places.{Puts}
use Rattle.js_moves.proofs.ExpressionPlaces.{in-place, nothing-there}
use Rattle.js_moves.proofs.expressions.become_part.Goals as goal

pub returns-in-None : goal.returns-in-None
returns-in-None g c = λ dispatched w stands.
    let D = g.row.D.Denot in
    let ts = c.args.texts.now in
    let s = c.args.stack.now in
    let left = c.leave.new.self in
    let s2 = c.put_value.new.stack in
    let term : Term (PageRow D) = part_term ts c.args.site c.args.node in
    let none : term ≡ Val Undefined =
    ap (λ x. part_term ts x c.args.node) c.in-None.is ∙ nothing-there {D = D} c.args.node in
    in-place dispatched ts w s left s2 (front s.frames.items) c.leave.ensures.context
    c.leave.ensures.base stands term c.leave.ensures.frames
    (λ now. subst (λ t. Puts dispatched ts w left.base left.frames.items t s2) (sym none)
    (c.put_value.ensures dispatched ts w now tt))
