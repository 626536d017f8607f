use Rattle.std.proofs.Common.{◌≡◌, ◌<◌, length, IfSome}
use Rattle.std.specs.List.{slice_get}
use Rattle.dom_tree.specs.Nodes.{children_of}
use Rattle.dom_tree.specs.inner.Kept.{nodes_of}
use Rattle.dom_tree.proofs.kin.child_at.Given as goal

-- the child of the number that has been reached
abbrev pub invariant-along : goal.invariant-along
invariant-along l = record {
  there : IfSome l.child (λ x. x < length l.nodes);
  same : l.child ≡ slice_get (children_of (nodes_of l.nodes) l.node) l.counter;
}
