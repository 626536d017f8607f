use Rattle.dom_tree.specs.Names.{with_value}
use Rattle.dom_tree.proofs.Written.{attributes_ok, attributes_linked}
use Rattle.dom_tree.proofs.writes.set_attribute.Goals as goal

pub returns-clause-ok : goal.returns-clause-ok
returns-clause-ok c =
    attributes_ok c.args.nodes.now c.requires.linked c.args.node c.index-nodes-node.result c.requires.node c.set.result (with_value c.args.name c.args.value) c.set.new.self c.set.ensures.ok

pub returns-clause-linked : goal.returns-clause-linked
returns-clause-linked c = attributes_linked c.args.nodes.now c.requires.linked c.args.node c.index-nodes-node.result c.requires.node c.set.new.self
