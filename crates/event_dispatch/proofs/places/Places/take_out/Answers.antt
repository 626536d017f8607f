use Rattle.std.proofs.Common.{not, eqb, filter, ap, ◌∙◌, rules}
use Rattle.std.proofs.lemmas.Fn.{filter_same}
use Rattle.event_dispatch.proofs.places.Places.take_out.Goals as goal

pub returns : goal.returns
returns c = filter_same _ (λ p. not (eqb p c.args.place)) _ (λ x b q says. search rules) _ _ c.retain.ensures.filtered ∙ ap (filter (λ p. not (eqb p c.args.place))) c.self.view_is
