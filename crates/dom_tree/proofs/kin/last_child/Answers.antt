use Rattle.dom_tree.proofs.Kept.{last_at}
use Rattle.dom_tree.proofs.kin.last_child.Goals as goal

pub returns : goal.returns
returns c = last_at c.args.nodes.now c.args.node c.index-nodes-node.result c.requires.node c.requires.linked
