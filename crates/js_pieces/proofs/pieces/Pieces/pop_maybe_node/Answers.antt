use Rattle.std.proofs.Common.{Some, None}
use Rattle.js_tree.specs.Trees.{perhaps}
use Rattle.js_grammar.specs.inner.Sorts as sort
use Rattle.js_pieces.specs.declared.pieces.Piece.TheVariants as piece
use Rattle.js_pieces.proofs.Sorting.{maybe_node_is, last_is, takes}
use Rattle.js_pieces.proofs.pieces.Pieces.pop_maybe_node.Goals as goal

pub pop-requires : goal.pop-requires
pop-requires c = (sort.Maybe_node, c.requires)

pub returns-in-Node : goal.returns-in-Node
returns-in-Node c = takes (piece.Node c.in-Node.id) c.pop.result (perhaps (Some c.in-Node.id)) c.args.self.now c.pop.new.self c.pop.ensures c.in-Node.is (λ b k t h. h)

pub returns-in-Missing : goal.returns-in-Missing
returns-in-Missing c = takes piece.Missing c.pop.result (perhaps None) c.args.self.now c.pop.new.self c.pop.ensures c.in-Missing.is (λ b k t h. h)

pub unreachable-requires : goal.unreachable-requires
unreachable-requires c = maybe_node_is c.pop.result (last_is sort.Maybe_node c.args.self.now c.pop.new.self c.pop.result c.requires c.pop.ensures) c.in_default.not-Node c.in_default.not-Missing
