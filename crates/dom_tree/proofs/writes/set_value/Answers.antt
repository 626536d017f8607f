use Rattle.dom_tree.proofs.Written.{value_written}
use Rattle.dom_tree.proofs.writes.set_value.Goals as goal

pub returns-clause-is : goal.returns-clause-is
returns-clause-is c = (value_written c.args.nodes.now c.requires.linked c.args.node c.index-nodes-node.result c.requires.node c.args.value c.requires.keeps).0

pub returns-clause-linked : goal.returns-clause-linked
returns-clause-linked c = (value_written c.args.nodes.now c.requires.linked c.args.node c.index-nodes-node.result c.requires.node c.args.value c.requires.keeps).1
