use Rattle.std.proofs.Common.{ℕ, length, ap, sym, ◌∙◌}
use Rattle.js_term.specs.Evaluation.{Evaluation}
use Rattle.js_term.proofs.Values.{values_length}
use Rattle.js_term.proofs.operands.Operands.value_count.Goals as goal

pub returns : goal.returns
returns c =
    let F : Evaluation → ℕ = λ e. length e.done in
    sym (values_length c.self.inside.count c.self.inside.all.items c.self.invariant.0 c.self.invariant.1) ∙ ap F c.self.view_is
