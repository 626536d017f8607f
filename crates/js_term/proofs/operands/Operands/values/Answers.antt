use Rattle.std.proofs.Common.{◌≡◌, List, IfOk, ap, subst, take, ◌∙◌}
use Rattle.js_value.specs.declared.value.Value.{Value}
use Rattle.js_term.specs.Evaluation.{Evaluation}
use Rattle.js_term.specs.inner.Values.{values_in}
use Rattle.js_term.proofs.operands.Operands.values.Goals as goal

pub returns : goal.returns
returns c =
    let F : Evaluation → List Value = λ e. e.done in
    subst (λ us. IfOk c.copies.result (λ vs. vs ≡ us))
    (ap values_in (c.split_at.ensures.front ∙ ap (take c.self.inside.count) c.as_slice.ensures) ∙ ap F c.self.view_is)
    c.copies.ensures
