use Rattle.std.proofs.Common.{sym, subst}
use Rattle.js_tree.specs.Trees.{Holds, nodes}
use Rattle.js_grammar.specs.inner.Sorts as sort
use Rattle.js_pieces.specs.declared.pieces.Piece.TheVariants as piece
use Rattle.js_pieces.proofs.Sorting.{nodes_is, last_is, takes_as}
use Rattle.js_pieces.proofs.pieces.Pieces.pop_nodes.Goals as goal
use Rattle.js_pieces.proofs.pieces.Pieces.pop_nodes.Goals.{in-Empty, in-Nodes}

pub pop-requires : goal.pop-requires
pop-requires c = (sort.Nodes, c.requires)

pub returns : goal.returns
returns c = elim c.match-pop.branch [
  | in-Empty w ↦ takes_as nodes c.match-pop.result w.new.result piece.Empty c.pop.result c.args.self.now
      c.pop.new.self w.result-is c.pop.ensures w.in-Empty.is (λ b k t h. subst (λ z. Holds b k (nodes z) t) (sym w.new.ensures) h)
  | in-Nodes w ↦ takes_as nodes c.match-pop.result w.in-Nodes.ids (piece.Nodes w.in-Nodes.ids) c.pop.result c.args.self.now
      c.pop.new.self w.result-is c.pop.ensures w.in-Nodes.is (λ b k t h. h)
]

pub unreachable-requires : goal.unreachable-requires
unreachable-requires c =
    nodes_is c.pop.result (last_is sort.Nodes c.args.self.now c.pop.new.self c.pop.result c.requires c.pop.ensures)
    c.in_default.not-Empty c.in_default.not-Nodes
