use Rattle.std.proofs.Common.{ℕ, List, ap, ◌∙◌}
use Rattle.event_dispatch.specs.Listeners.{Listener, appended}
use Rattle.event_dispatch.specs.inner.Places.{listed}
use Rattle.event_dispatch.proofs.Views.{append_listed}
use Rattle.event_dispatch.proofs.listeners.Listeners.append.Goals as goal

pub returns-clause-ok : goal.returns-clause-ok
returns-clause-ok c =
    let made : ℕ → List ℕ → Listener = λ n kind. record { number = n; owner = c.args.owner; kind = kind; f = c.args.f; role = c.args.role } in
    let l : Listener = made c.len.result c.in_ok-copy.field-0 in
    let n = c.len.ensures ∙ c.self.inside.entries.ok.0 in
    ap listed c.in_ok-add_entry.ensures.ok
    ∙ append_listed c.self.inside.entries.items l c.args.owner c.args.kind.now c.args.f c.args.role (ap (λ k. made k c.in_ok-copy.field-0) n ∙ ap (made _) c.in_ok-copy.ensures)
    ∙ ap (appended c.args.owner c.args.kind.now c.args.f c.args.role) c.self.view_is
