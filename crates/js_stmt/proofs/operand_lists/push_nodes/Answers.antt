use Rattle.std.proofs.Common.{sym, ◌∙◌}
use Rattle.js_term.proofs.Pushes.{nodes_stepped, none_more}
use Rattle.js_stmt.proofs.operand_lists.push_nodes.Goals as goal

pub loop-id-init : goal.loop-id-init
loop-id-init c = sym (none_more c.args.operands.now)

pub loop-id-preserved : goal.loop-id-preserved
loop-id-preserved c =
    c.in_ok-push.ensures.ok
    ∙ nodes_stepped c.args.ids.now c.loop-id.id-index _ c.args.operands.now c.loop-id.operands
    c.loop-id-test.true c.loop-id.invariant
