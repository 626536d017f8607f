use Rattle.std.proofs.Common.{◌<◌, sym, ◌∙◌, arith}
use Rattle.dom_tree.specs.Nodes.{children_of}
use Rattle.dom_tree.specs.inner.Kept.{nodes_of}
use Rattle.dom_tree.proofs.Neighbours.{next_child, none_behind}
use Rattle.dom_tree.proofs.kin.child_at.Goals as goal

pub along-preserved : goal.along-preserved
along-preserved c = record {
  there = c.next_sibling-child.ensures.there;
  same = next_child (nodes_of c.args.nodes.now) c.requires.linked.fits c.args.node c.along.counter c.in-Some.passed c.next_sibling-child.result (sym c.along.invariant.same ∙ c.in-Some.is) c.next_sibling-child.ensures.is;
}

pub returns-in-None-clause-is : goal.returns-in-None-clause-is
returns-in-None-clause-is c =
    sym (none_behind (children_of (nodes_of c.args.nodes.now) c.args.node) c.along.counter c.args.number (sym c.along.invariant.same ∙ c.in-None.is) (omega arith))
