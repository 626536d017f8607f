use Rattle.std.proofs.Common.{Some, None}
use Rattle.js_tree.specs.Trees.{named}
use Rattle.js_grammar.specs.inner.Sorts as sort
use Rattle.js_pieces.specs.declared.pieces.Piece.TheVariants as piece
use Rattle.js_pieces.proofs.Sorting.{maybe_text_is, last_is, takes}
use Rattle.js_pieces.proofs.pieces.Pieces.pop_maybe_text.Goals as goal

pub pop-requires : goal.pop-requires
pop-requires c = (sort.Maybe_text, c.requires)

pub returns-in-Text : goal.returns-in-Text
returns-in-Text c = takes (piece.Text c.in-Text.text) c.pop.result (named (Some c.in-Text.text)) c.args.self.now c.pop.new.self c.pop.ensures c.in-Text.is (λ b k t h. h)

pub returns-in-Missing : goal.returns-in-Missing
returns-in-Missing c = takes piece.Missing c.pop.result (named None) c.args.self.now c.pop.new.self c.pop.ensures c.in-Missing.is (λ b k t h. h)

pub unreachable-requires : goal.unreachable-requires
unreachable-requires c = maybe_text_is c.pop.result (last_is sort.Maybe_text c.args.self.now c.pop.new.self c.pop.result c.requires c.pop.ensures) c.in_default.not-Text c.in_default.not-Missing
