use Rattle.js_tree.specs.Trees.{Part}
use Rattle.js_grammar.specs.inner.Sorts as sort
use Rattle.js_pieces.specs.declared.pieces.Piece.TheVariants as piece
use Rattle.js_pieces.proofs.Sorting.{text_is, last_is, takes}
use Rattle.js_pieces.proofs.pieces.Pieces.pop_text.Goals as goal

pub pop-requires : goal.pop-requires
pop-requires c = (sort.Text, c.requires)

pub returns : goal.returns
returns c = takes (piece.Text c.in-Text.text) c.pop.result (Part.Word c.in-Text.text) c.args.self.now c.pop.new.self c.pop.ensures c.in-Text.is (λ b k t h. h)

pub unreachable-requires : goal.unreachable-requires
unreachable-requires c = text_is c.pop.result (last_is sort.Text c.args.self.now c.pop.new.self c.pop.result c.requires c.pop.ensures) c.in_default.not-Text
