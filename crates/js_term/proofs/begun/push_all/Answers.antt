use Rattle.std.proofs.Common.{◌≡◌, ◌∷◌, [], OnOk, ap, subst, ◌∙◌}
use Rattle.js_term.specs.ArenaOperands.{as_operands}
use Rattle.js_term.specs.Evaluation.{and_then}
use Rattle.js_term.proofs.Pushes.{twice}
use Rattle.js_term.proofs.begun.push_all.Goals as goal

pub returns : goal.returns
returns c =
    subst (λ e. OnOk c.push_nodes.result (c.push_nodes.new.operands ≡ e))
    (ap (and_then (as_operands c.args.others.now)) c.in_ok-push_node.ensures
    ∙ twice (as_operands (c.args.id ∷ [])) (as_operands c.args.others.now) c.args.operands.now)
    c.push_nodes.ensures
