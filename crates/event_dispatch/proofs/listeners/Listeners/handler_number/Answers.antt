use Rattle.std.proofs.Common.{Bool, find, ap, ◌∙◌}
use Rattle.std.specs.Option.{option_map}
use Rattle.event_dispatch.specs.Listeners.{Listener, is_handler, own_number}
use Rattle.event_dispatch.specs.inner.Places.{at_places}
use Rattle.event_dispatch.proofs.Index.{own_find}
use Rattle.event_dispatch.proofs.listeners.Listeners.handler_number.Goals as goal

pub returns : goal.returns
returns c =
    let test : Listener → Bool = is_handler c.args.kind.now in
    let places = c.places_at-places.result.now in
    c.number_of.ensures
    ∙ ap (option_map (λ (l : Listener). l.number)) (c.handler_among.ensures ∙ ap (λ es. find test (at_places es places)) c.deref.ensures.value ∙ own_find c.self.inside.entries.items c.self.inside.index c.args.owner test places c.self.invariant c.places_at-places.ensures)
    ∙ ap (own_number c.args.owner test) c.self.view_is
