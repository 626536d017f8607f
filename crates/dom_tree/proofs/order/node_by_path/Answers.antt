use Rattle.std.proofs.Common.{sym}
use Rattle.dom_tree.specs.inner.Kept.{nodes_of}
use Rattle.dom_tree.proofs.Walks.{path_ends}
use Rattle.dom_tree.proofs.order.node_by_path.Goals as goal

pub returns-in-None : goal.returns-in-None
returns-in-None c =
    sym (path_ends (nodes_of c.args.nodes.now) c.args.path.now c.loop-number.node c.loop-number.number-index c.loop-number-test.true c.loop-number.invariant.same (sym c.in-None.ensures.is))
