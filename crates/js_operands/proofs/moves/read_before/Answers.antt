use Rattle.std.proofs.Common.{◌∷◌, [], refl, ap, ◌∙◌}
use Rattle.js_term.specs.Evaluation.{and_then}
use Rattle.js_term.specs.declared.operands.Operand.TheVariants as operand
use Rattle.js_operands.specs.ExprMoves.{values_coming}
use Rattle.js_operands.proofs.Operands.{added_before}
use Rattle.js_operands.proofs.moves.read_before.Goals as goal

pub returns-in_ok-push-in-Returns-clause-there : goal.returns-in_ok-push-in-Returns-clause-there
returns-in_ok-push-in-Returns-clause-there g c = λ w vs a.
    added_before w c.args.answered c.in-Returns.value c.args.right c.args.operands.now c.add_value.new.operands c.push.new.self vs
    c.in-Returns.is c.requires c.in_ok-add_value-in-Returns.ensures c.in_ok-push-in-Returns.ensures.ok a

pub returns-in_ok-push-in-Returns-clause-shape : goal.returns-in_ok-push-in-Returns-clause-shape
returns-in_ok-push-in-Returns-clause-shape g c =
    let is = c.in_ok-push-in-Returns.ensures.ok
    ∙ ap (and_then (operand.Node c.args.right ∷ [])) c.in_ok-add_value-in-Returns.ensures in
    (refl, ap (λ e. values_coming e.todo) is)
