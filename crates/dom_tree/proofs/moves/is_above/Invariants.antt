use Rattle.std.proofs.Common.{◌≡◌, ◌<◌, ◌==◌, ℕ, Some, length}
use Rattle.std.specs.List.{list_any}
use Rattle.dom_tree.specs.Nodes.{parent_of, way_up, Ends, ancestors}
use Rattle.dom_tree.specs.inner.Kept.{nodes_of}
use Rattle.dom_tree.proofs.moves.is_above.Given as goal

abbrev pub invariant-loop-above : goal.invariant-loop-above
invariant-loop-above l = record {
  ends : Ends (parent_of (nodes_of l.nodes)) (length (nodes_of l.nodes)) l.above;
  there : (x : ℕ) → l.above ≡ Some x → x < length l.nodes;
  same : list_any (λ x. x == l.wanted) (ancestors (nodes_of l.nodes) l.fn.node) ≡ list_any (λ x. x == l.wanted) (way_up (parent_of (nodes_of l.nodes)) (length (nodes_of l.nodes)) l.above);
}

abbrev pub decreases-loop-above : goal.decreases-loop-above
decreases-loop-above l = length (way_up (parent_of (nodes_of l.nodes)) (length (nodes_of l.nodes)) l.above)
