use Rattle.dom_tree.proofs.Kept.{previous_to}
use Rattle.dom_tree.proofs.Found.{previous_found, previous_parent}
use Rattle.dom_tree.proofs.kin.previous_sibling.Goals as goal

pub returns-clause-is : goal.returns-clause-is
returns-clause-is c = previous_to c.args.nodes.now c.args.node c.index-nodes-node.result c.requires.node c.requires.linked

pub returns-clause-there : goal.returns-clause-there
returns-clause-there c =
    previous_found c.args.nodes.now c.requires.linked c.args.node _ (previous_to c.args.nodes.now c.args.node c.index-nodes-node.result c.requires.node c.requires.linked)

pub returns-clause-beside : goal.returns-clause-beside
returns-clause-beside c =
    previous_parent c.args.nodes.now c.requires.linked c.args.node _ (previous_to c.args.nodes.now c.args.node c.index-nodes-node.result c.requires.node c.requires.linked)
