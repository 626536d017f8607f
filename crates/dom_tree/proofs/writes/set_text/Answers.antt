use Rattle.dom_tree.proofs.Written.{text_written}
use Rattle.dom_tree.proofs.writes.set_text.Goals as goal

pub returns-clause-is : goal.returns-clause-is
returns-clause-is c = (text_written c.args.nodes.now c.requires.linked c.args.node c.index-nodes-node.result c.requires.node c.args.text c.requires.text).0

pub returns-clause-linked : goal.returns-clause-linked
returns-clause-linked c = (text_written c.args.nodes.now c.requires.linked c.args.node c.index-nodes-node.result c.requires.node c.args.text c.requires.text).1
