use Rattle.dom_tree.proofs.Kept.{next_to}
use Rattle.dom_tree.proofs.Found.{next_found, next_parent}
use Rattle.dom_tree.proofs.kin.next_sibling.Goals as goal

pub returns-clause-is : goal.returns-clause-is
returns-clause-is c = next_to c.args.nodes.now c.args.node c.index-nodes-node.result c.requires.node c.requires.linked

pub returns-clause-there : goal.returns-clause-there
returns-clause-there c =
    next_found c.args.nodes.now c.requires.linked c.args.node _ (next_to c.args.nodes.now c.args.node c.index-nodes-node.result c.requires.node c.requires.linked)

pub returns-clause-beside : goal.returns-clause-beside
returns-clause-beside c =
    next_parent c.args.nodes.now c.requires.linked c.args.node _ (next_to c.args.nodes.now c.args.node c.index-nodes-node.result c.requires.node c.requires.linked)
