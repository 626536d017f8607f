use Rattle.std.proofs.Common.{Bool, find, sym, ap, ◌∙◌}
use Rattle.std.specs.Option.{option_copied, option_map}
use Rattle.event_dispatch.specs.Listeners.{Listener, handler_of, is_handler}
use Rattle.event_dispatch.specs.inner.Places.{at_places}
use Rattle.event_dispatch.proofs.Index.{own_find}
use Rattle.event_dispatch.proofs.listeners.Listeners.handler.Goals as goal

pub returns-in-Some : goal.returns-in-Some
returns-in-Some c =
    let test : Listener → Bool = is_handler c.args.kind.now in
    let places = c.places_at-places.result.now in
    ap (option_map (λ (l : Listener). l.f)) (sym (ap option_copied c.in-Some.is) ∙ c.handler_among.ensures ∙ ap (λ es. find test (at_places es places)) c.deref.ensures.value ∙ own_find c.self.inside.entries.items c.self.inside.index c.args.owner test places c.self.invariant c.places_at-places.ensures)
    ∙ ap (handler_of c.args.owner c.args.kind.now) c.self.view_is

pub returns-in-None : goal.returns-in-None
returns-in-None c =
    let test : Listener → Bool = is_handler c.args.kind.now in
    let places = c.places_at-places.result.now in
    ap (option_map (λ (l : Listener). l.f)) (sym (ap option_copied c.in-None.is) ∙ c.handler_among.ensures ∙ ap (λ es. find test (at_places es places)) c.deref.ensures.value ∙ own_find c.self.inside.entries.items c.self.inside.index c.args.owner test places c.self.invariant c.places_at-places.ensures)
    ∙ ap (handler_of c.args.owner c.args.kind.now) c.self.view_is
