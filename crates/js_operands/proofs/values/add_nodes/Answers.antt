use Rattle.std.proofs.Common.{sym, ◌∙◌}
use Rattle.js_term.proofs.Pushes.{nodes_stepped, none_more}
use Rattle.js_operands.proofs.values.add_nodes.Goals as goal

pub loop-node-init : goal.loop-node-init
loop-node-init c = sym (none_more c.args.operands.now)

pub loop-node-preserved : goal.loop-node-preserved
loop-node-preserved c =
    c.in_ok-push.ensures.ok ∙ nodes_stepped c.args.nodes.now c.loop-node.node-index _ c.args.operands.now c.loop-node.operands c.loop-node-test.true c.loop-node.invariant
