use Rattle.js_tree.specs.Trees.{at}
use Rattle.js_grammar.specs.inner.Sorts as sort
use Rattle.js_pieces.specs.declared.pieces.Piece.TheVariants as piece
use Rattle.js_pieces.proofs.Sorting.{node_is, last_is, takes}
use Rattle.js_pieces.proofs.pieces.Pieces.pop_node.Goals as goal

pub pop-requires : goal.pop-requires
pop-requires c = (sort.Node, c.requires)

pub returns : goal.returns
returns c = takes (piece.Node c.in-Node.id) c.pop.result (at c.in-Node.id) c.args.self.now c.pop.new.self c.pop.ensures c.in-Node.is (λ b k t h. h)

pub unreachable-requires : goal.unreachable-requires
unreachable-requires c = node_is c.pop.result (last_is sort.Node c.args.self.now c.pop.new.self c.pop.result c.requires c.pop.ensures) c.in_default.not-Node
