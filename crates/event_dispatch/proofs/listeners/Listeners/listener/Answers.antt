use Rattle.std.proofs.Common.{slice_get, sym, ap, ◌∙◌}
use Rattle.std.specs.Option.{option_flatten}
use Rattle.event_dispatch.specs.Listeners.{ListenerList, listener_of}
use Rattle.event_dispatch.proofs.Numbers.{at_number}
use Rattle.event_dispatch.proofs.listeners.Listeners.listener.Goals as goal

pub returns : goal.returns
returns c =
    c.at_place.ensures ∙ ap (λ es. option_flatten (slice_get es c.args.number)) c.deref.ensures.value
    ∙ sym (at_number c.self.inside.entries.items c.args.number c.self.invariant.numbered)
    ∙ ap (λ (q : ListenerList). listener_of c.args.number q.listeners) c.self.view_is
