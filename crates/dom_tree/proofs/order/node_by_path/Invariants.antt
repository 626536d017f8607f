use Rattle.std.proofs.Common.{◌≡◌, ◌<◌, length, fold, drop, Some}
use Rattle.dom_tree.specs.Order.{child_at}
use Rattle.dom_tree.specs.inner.Kept.{nodes_of}
use Rattle.dom_tree.proofs.order.node_by_path.Given as goal

abbrev pub invariant-loop-number : goal.invariant-loop-number
invariant-loop-number l = record {
  there : l.node < length l.nodes;
  same : fold (child_at (nodes_of l.nodes)) (Some 0) l.path ≡ fold (child_at (nodes_of l.nodes)) (Some l.node) (drop l.number-index l.path);
}
