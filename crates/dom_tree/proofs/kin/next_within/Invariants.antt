use Rattle.std.proofs.Common.{◌≡◌, ◌<◌, ◌∷◌, length}
use Rattle.dom_tree.specs.Nodes.{ancestors}
use Rattle.dom_tree.specs.Order.{next_above}
use Rattle.dom_tree.specs.inner.Kept.{nodes_of}
use Rattle.dom_tree.proofs.Walks.{depth}
use Rattle.dom_tree.proofs.kin.next_within.Given as goal

-- what follows behind all below the node is what follows behind all below this one
abbrev pub invariant-loop-here : goal.invariant-loop-here
invariant-loop-here l = record {
  there : l.here < length l.nodes;
  same : next_above (nodes_of l.nodes) l.root (l.node ∷ ancestors (nodes_of l.nodes) l.node) ≡ next_above (nodes_of l.nodes) l.root (l.here ∷ ancestors (nodes_of l.nodes) l.here);
}

abbrev pub decreases-loop-here : goal.decreases-loop-here
decreases-loop-here l = depth (nodes_of l.nodes) l.here
