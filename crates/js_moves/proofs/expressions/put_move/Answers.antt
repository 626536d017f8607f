use Rattle.std.proofs.Common.{OnOk, sym, subst}
use Rattle.js_frames.specs.inner.Advances.{front}
use Rattle.js_moves.specs.inner.ExprPlaces.{MayMove, in_phase, move_term}
use Rattle.js_moves.specs.inner.Places.{Puts}
use Rattle.js_moves.proofs.Standing.{frame-put}
use Rattle.js_moves.proofs.expressions.put_move.Goals as goal

pub returns-in-Value : goal.returns-in-Value
returns-in-Value g c = λ dispatched w f is at stands may.
    let s = c.args.stack.now in
    let ts = c.args.texts.now in
    let there = subst (MayMove dispatched ts w s.context f) c.in-Value.is may in
    subst (λ m. Puts dispatched ts w s.base (front s.frames.items) (move_term ts f m)
    c.give.new.stack) (sym c.in-Value.is)
    (c.give.ensures dispatched ts w stands there)

pub returns-in-Throws : goal.returns-in-Throws
returns-in-Throws g c = λ dispatched w f is at stands may.
    let s = c.args.stack.now in
    let ts = c.args.texts.now in
    let there = subst (MayMove dispatched ts w s.context f) c.in-Throws.is may in
    subst (λ m. Puts dispatched ts w s.base (front s.frames.items) (move_term ts f m)
    c.throw.new.stack) (sym c.in-Throws.is)
    (c.throw.ensures dispatched ts w stands there)

pub returns-in-GoesOn : goal.returns-in-GoesOn
returns-in-GoesOn g c = λ dispatched w f is at stands may.
    let s = c.args.stack.now in
    let ts = c.args.texts.now in
    let there = subst (MayMove dispatched ts w s.context f) c.in-GoesOn.is may in
    subst (λ m. Puts dispatched ts w s.base (front s.frames.items) (move_term ts f m)
    c.go_on.new.stack) (sym c.in-GoesOn.is)
    (frame-put g.row.D.Denot dispatched ts w s c.go_on.new.stack (front s.frames.items)
    c.go_on.ensures.context c.go_on.ensures.base stands (in_phase f c.in-GoesOn.phase)
    (c.go_on.ensures.frames f is) c.go_on.ensures.focus there)

pub returns-in-Converts : goal.returns-in-Converts
returns-in-Converts g c = λ dispatched w f is at stands may.
    let s = c.args.stack.now in
    let ts = c.args.texts.now in
    let there = subst (MayMove dispatched ts w s.context f) c.in-Converts.is may in
    subst (λ m. OnOk c.await_conversion.result (Puts dispatched ts w s.base
    (front s.frames.items) (move_term ts f m) c.await_conversion.new.stack))
    (sym c.in-Converts.is)
    (c.await_conversion.ensures dispatched ts w f is at stands there)
