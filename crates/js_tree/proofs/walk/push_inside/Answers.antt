use Rattle.std.proofs.Common.{◌≡◌, ◌++◌, reverse, OnOk, ap, subst, ◌∙◌}
use Rattle.js_tree.specs.Walk.{inside_expression}
use Rattle.js_tree.proofs.Items.{inside_parts}
use Rattle.js_tree.proofs.walk.push_inside.Goals as goal

pub returns : goal.returns
returns c =
    subst (λ l. OnOk c.push_in_expression.result (reverse c.push_in_expression.new.stack.items ≡ l))
    (ap (λ l. inside_expression c.args.wanted c.args.node.now ++ l) c.in_ok-push_in_statement.ensures ∙ inside_parts c.args.wanted c.args.node.now (reverse c.args.stack.now.items))
    c.push_in_expression.ensures
