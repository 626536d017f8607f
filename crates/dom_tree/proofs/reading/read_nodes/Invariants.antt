use Rattle.std.proofs.Common.{take}
use Rattle.dom_tree.specs.Reading.{IsFront}
use Rattle.dom_tree.specs.inner.Kept.{nodes_of, IsLinked}
use Rattle.dom_tree.proofs.reading.read_nodes.Given as goal

abbrev pub invariant-loop-id : goal.invariant-loop-id
invariant-loop-id l = record {
  linked : IsLinked l.nodes.items;
  front : IsFront l.doc.nodes (take l.id l.doc.nodes) (nodes_of l.nodes.items);
}
