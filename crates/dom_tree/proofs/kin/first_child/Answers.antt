use Rattle.dom_tree.proofs.Kept.{first_at}
use Rattle.dom_tree.proofs.Found.{first_found}
use Rattle.dom_tree.proofs.kin.first_child.Goals as goal

pub returns-clause-is : goal.returns-clause-is
returns-clause-is c = first_at c.args.nodes.now c.args.node c.index-nodes-node.result c.requires.node c.requires.linked

pub returns-clause-there : goal.returns-clause-there
returns-clause-there c =
    first_found c.args.nodes.now c.requires.linked c.args.node _ (first_at c.args.nodes.now c.args.node c.index-nodes-node.result c.requires.node c.requires.linked)
