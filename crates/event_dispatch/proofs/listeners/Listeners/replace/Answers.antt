use Rattle.std.proofs.Common.{sym, ap, ◌∙◌, subst}
use Rattle.event_dispatch.specs.Listeners.{replaced}
use Rattle.event_dispatch.specs.inner.Places.{Holds, listed}
use Rattle.event_dispatch.proofs.Views.{function_kept, function_listed}
use Rattle.event_dispatch.proofs.listeners.Listeners.replace.Goals as goal

pub invariant_of-self : goal.invariant_of-self
invariant_of-self c =
    subst (λ es. Holds es c.self.inside.index) (sym c.replace_entry.ensures) (function_kept c.self.inside.entries.items c.self.inside.index c.args.number c.args.f c.self.invariant)

pub returns : goal.returns
returns c =
    ap listed c.replace_entry.ensures ∙ function_listed c.self.inside.entries.items c.self.inside.index c.args.number c.args.f c.self.invariant
    ∙ ap (replaced c.args.number c.args.f) c.self.view_is
