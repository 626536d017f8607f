use Rattle.std.proofs.Common.{◌≡◌, ◌∙◌, arith, subst, sym}
use Rattle.session_store.proofs.Frames.{frames_further, frames_keep}
use Rattle.session_store.specs.Session.{KeepsRules}
use Rattle.session_store.proofs.Told.{tell_further}
use Rattle.session_store.proofs.recovery.read_frames.Goals as goal

pub frames-preserved : goal.frames-preserved
frames-preserved g c =
    let told = rw c.in-Frame.is at c.in_ok-from.ensures.told in
    let place = rw c.in-Frame.is at c.in_ok-from.ensures.place in
    let payload : c.deref.result.now ≡ c.next.new.payload.items = c.deref.ensures.value in
    let follows = rw (c.if-not-branch.false, payload) at c.in_ok-read_frame.ensures in (
      c.next.ensures.held ∙ c.frames.invariant.0,
      c.next.ensures.moment ∙ c.frames.invariant.1,
      omega (arith, c.frames.invariant.2, c.next.ensures.later),
      place.2,
      tell_further _ _ c.next.new.payload.items c.frames.items.items c.read_frame.new.items.items c.frames.reader c.next.new.self c.frames.invariant.0 c.frames.invariant.4 told place.1 follows,
      frames_further c.next.new.payload.items c.frames.items.items c.read_frame.new.items.items c.frames.invariant.5 follows,
    )

pub invariant_of-result : goal.invariant_of-result
invariant_of-result g c = subst KeepsRules (sym c.of.ensures) (frames_keep c.frames.items.items c.frames.invariant.5)
