use Rattle.dom_tree.specs.Names.{without_name}
use Rattle.dom_tree.proofs.Written.{attributes_written}
use Rattle.dom_tree.proofs.writes.remove_attribute.Goals as goal

pub returns-clause-is : goal.returns-clause-is
returns-clause-is c =
    (attributes_written c.args.nodes.now c.requires.linked c.args.node c.index-nodes-node.result c.requires.node (without_name c.args.name.now) c.remove.new.self c.remove.ensures).0

pub returns-clause-linked : goal.returns-clause-linked
returns-clause-linked c =
    (attributes_written c.args.nodes.now c.requires.linked c.args.node c.index-nodes-node.result c.requires.node (without_name c.args.name.now) c.remove.new.self c.remove.ensures).1
