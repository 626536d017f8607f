use Rattle.std.proofs.Common.{sym, ◌∙◌}
use Rattle.js_expr.proofs.Looking.{node_there, other_target, target_at, whole_target}
use Rattle.js_expr.proofs.trees.Trees.target_in.Goals as goal

pub node-requires : goal.node-requires
node-requires c =
    let (bodies, t, held) = c.requires in
    node_there bodies c.args.self.now.script.kept c.args.piece.now c.in-Node.id t held c.in-Node.is

pub returns-in-Node : goal.returns-in-Node
returns-in-Node c bodies t held =
    target_at bodies c.args.self.now.script c.args.piece.now c.in-Node.id c.node.result.now t held c.in-Node.is
    c.node.ensures.is ∙ sym c.node_target.ensures

pub returns-in-Whole : goal.returns-in-Whole
returns-in-Whole c bodies t held =
    whole_target bodies c.args.self.now.script.kept c.args.piece.now c.in-Whole.text t held c.in-Whole.is ∙ sym c.target.ensures

pub returns-in_default : goal.returns-in_default
returns-in_default c bodies t held =
    other_target bodies c.args.self.now.script.kept c.args.piece.now t held c.in_default.not-Node c.in_default.not-Whole
