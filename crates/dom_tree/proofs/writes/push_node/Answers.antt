use Rattle.std.proofs.Common.{ap, subst, sym, ◌∙◌}
use Rattle.dom_tree.specs.inner.Kept.{nodes_of, IsLinked}
use Rattle.dom_tree.proofs.Written.{grown}
use Rattle.dom_tree.proofs.writes.push_node.Goals as goal

pub returns-clause-ok : goal.returns-clause-ok
returns-clause-ok c =
    ap nodes_of c.in_ok-push.ensures.items ∙ (grown c.args.nodes.now.items c.requires.linked c.args.node c.requires.alone c.requires.links c.requires.kind c.requires.value).0

pub returns-clause-linked : goal.returns-clause-linked
returns-clause-linked c =
    subst IsLinked (sym c.in_ok-push.ensures.items) (grown c.args.nodes.now.items c.requires.linked c.args.node c.requires.alone c.requires.links c.requires.kind c.requires.value).1
