use Rattle.std.proofs.Common.{◌≡◌, ◌<◌, length}
use Rattle.dom_tree.specs.Order.{first_that, has_id, node_by_id}
use Rattle.dom_tree.specs.inner.Kept.{nodes_of}
use Rattle.dom_tree.proofs.Walks.{remaining}
use Rattle.dom_tree.proofs.order.node_by_id.Given as goal

-- it is the first of what is left behind this node
abbrev pub invariant-walk : goal.invariant-walk
invariant-walk l = record {
  there : l.here < length l.nodes;
  same : node_by_id (nodes_of l.nodes) l.id ≡ first_that (has_id (nodes_of l.nodes) l.id) (remaining (nodes_of l.nodes) l.here 0);
}

abbrev pub decreases-walk : goal.decreases-walk
decreases-walk l = length (remaining (nodes_of l.nodes) l.here 0)
