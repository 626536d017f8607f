use Rattle.std.proofs.Common.{◌++◌, ◌∷◌, [], ap, ◌∙◌}
use Rattle.js_term.specs.inner.Values.{values_in}
use Rattle.js_term.proofs.Values.{values_stepped}
use Rattle.js_term.proofs.operands.copies.Goals as goal

pub loop-operand-preserved : goal.loop-operand-preserved
loop-operand-preserved c =
    c.in_ok-push_value.ensures ∙ ap (λ vs. vs ++ values_in (c.operand-item.result ∷ [])) c.loop-operand.invariant
    ∙ values_stepped c.args.operands.now c.loop-operand.operand-index c.operand-item.result c.loop-operand-test.true c.operand-item.is
