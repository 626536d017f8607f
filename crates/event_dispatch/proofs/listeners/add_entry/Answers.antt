use Rattle.std.proofs.Common.{sym, ◌∙◌, subst}
use Rattle.event_dispatch.specs.inner.Places.{Holds, IsNoted}
use Rattle.event_dispatch.proofs.Index.{append_holds}
use Rattle.event_dispatch.proofs.listeners.add_entry.Goals as goal

pub returns-in-Ok-clause-holds : goal.returns-in-Ok-clause-holds
returns-in-Ok-clause-holds c =
    let place = c.len-place.ensures ∙ c.args.entries.now.ok.0 in
    let noted = subst (λ p. IsNoted c.args.listener.owner.number p c.args.index.now c.note.new.index) place c.in-Ok.ensures.ok in
    subst (λ es. Holds es c.note.new.index) (sym c.in_ok-push.ensures.items)
    (append_holds c.args.entries.now.items c.args.index.now c.note.new.index c.args.listener c.requires.holds c.requires.number noted)
