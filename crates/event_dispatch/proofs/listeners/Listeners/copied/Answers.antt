use Rattle.std.proofs.Common.{◌++◌, Bool, true, false, ap, ◌∙◌}
use Rattle.event_dispatch.specs.Dispatch.{copied, half, halves}
use Rattle.event_dispatch.specs.Listeners.{ListenerList}
use Rattle.event_dispatch.specs.inner.Places.{at_places, pended, present}
use Rattle.event_dispatch.proofs.Views.{copied_one, copied_two, half_own}
use Rattle.event_dispatch.proofs.listeners.Listeners.copied.Goals.{in-Capturing+in_ok-push_half-in-Capturing, in-AtTarget+in_ok-push_half-in-AtTarget+in_ok-push_half-in-AtTarget-2, in-Bubbling+in_ok-push_half-in-Bubbling}
use Rattle.event_dispatch.proofs.listeners.Listeners.copied.Goals as goal

pub returns : goal.returns
returns c =
    let es = c.self.inside.entries.items in
    let places = c.places_at-places.result.now in
    let kind = c.args.kind.now in
    let own = λ (b : Bool). half_own es c.self.inside.index kind c.args.turn places b c.self.invariant c.places_at-places.ensures in
    let seen = ap (λ (q : ListenerList). copied kind c.args.turn q.listeners) c.self.view_is in
    elim c.match-phase.branch [
      | in-Capturing+in_ok-push_half-in-Capturing w ↦
          ap (λ v. v.items) w.copy-is ∙ w.in_ok-push_half-in-Capturing.ensures
          ∙ ap (λ xs. xs ++ pended c.args.turn.phase kind true (at_places w.deref.result.now places)) c.new-copy.ensures.items
          ∙ ap (λ xs. pended c.args.turn.phase kind true (at_places xs places)) w.deref.ensures.value
          ∙ own true ∙ copied_one kind c.args.turn (present es) true (ap halves w.in-Capturing.is) ∙ seen
      | in-AtTarget+in_ok-push_half-in-AtTarget+in_ok-push_half-in-AtTarget-2 w ↦
          let down = pended c.args.turn.phase kind true (at_places w.deref-in-AtTarget.result.now places) in
          let up = pended c.args.turn.phase kind false (at_places w.deref-in-AtTarget-2.result.now places) in
          ap (λ v. v.items) w.copy-is ∙ w.in_ok-push_half-in-AtTarget-2.ensures
          ∙ ap (λ xs. xs ++ up) (w.in_ok-push_half-in-AtTarget.ensures ∙ ap (λ xs. xs ++ down) c.new-copy.ensures.items)
          ∙ ap (λ xs. pended c.args.turn.phase kind true (at_places xs places) ++ up) w.deref-in-AtTarget.ensures.value
          ∙ ap (λ xs. pended c.args.turn.phase kind true (at_places es places) ++ pended c.args.turn.phase kind false (at_places xs places)) w.deref-in-AtTarget-2.ensures.value
          ∙ ap (λ xs. xs ++ pended c.args.turn.phase kind false (at_places es places)) (own true) ∙ ap (λ xs. half kind c.args.turn (present es) true ++ xs) (own false)
          ∙ copied_two kind c.args.turn (present es) true false (ap halves w.in-AtTarget.is) ∙ seen
      | in-Bubbling+in_ok-push_half-in-Bubbling w ↦
          ap (λ v. v.items) w.copy-is ∙ w.in_ok-push_half-in-Bubbling.ensures
          ∙ ap (λ xs. xs ++ pended c.args.turn.phase kind false (at_places w.deref-in-Bubbling.result.now places)) c.new-copy.ensures.items
          ∙ ap (λ xs. pended c.args.turn.phase kind false (at_places xs places)) w.deref-in-Bubbling.ensures.value
          ∙ own false ∙ copied_one kind c.args.turn (present es) false (ap halves w.in-Bubbling.is) ∙ seen
    ]
