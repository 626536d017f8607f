use Rattle.std.proofs.Common.{◌≡◌, Option, slice_get, ap, sym, ◌∙◌, arith}
use Rattle.js_value.specs.declared.value.Value.{Value}
use Rattle.js_term.specs.Evaluation.{Evaluation}
use Rattle.js_term.specs.inner.Values.{value_in}
use Rattle.js_term.proofs.Values.{none_beyond, values_get}
use Rattle.js_term.proofs.operands.Operands.value.Goals as goal

pub returns-then-index-self : goal.returns-then-index-self
returns-then-index-self c =
    let F : Evaluation → Option Value = λ e. slice_get e.done c.args.index in
    sym (none_beyond c.self.inside.count c.args.index c.self.inside.all.items (omega (arith, c.if-index-self.true))) ∙ ap F c.self.view_is

pub returns : goal.returns
returns c =
    let F : Evaluation → Option Value = λ e. slice_get e.done c.args.index in
    c.value_at.ensures ∙ ap (λ xs. value_in (slice_get xs c.args.index)) c.as_slice.ensures
    ∙ sym (values_get c.self.inside.count c.args.index c.self.inside.all.items (omega (arith, c.if-index-self.false)) c.self.invariant.1) ∙ ap F c.self.view_is
