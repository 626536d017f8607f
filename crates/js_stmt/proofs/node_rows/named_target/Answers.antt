use Rattle.std.proofs.Common.{◌∙◌}
use Rattle.js_stmt.proofs.NodeParts.{target_named}
use Rattle.js_stmt.proofs.node_rows.named_target.Goals as goal

pub returns : goal.returns
returns c =
    c.name_of_target.ensures
    ∙ target_named c.args.script.now c.count-nodes.ensures.ordered c.args.target
    c.node.result.now c.node.ensures.is
