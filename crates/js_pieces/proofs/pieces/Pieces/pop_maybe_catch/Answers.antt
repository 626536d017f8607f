use Rattle.std.proofs.Common.{Some, None}
use Rattle.js_tree.specs.Trees.{caught}
use Rattle.js_grammar.specs.inner.Sorts as sort
use Rattle.js_pieces.specs.declared.pieces.Piece.TheVariants as piece
use Rattle.js_pieces.proofs.Sorting.{maybe_catch_is, last_is, takes}
use Rattle.js_pieces.proofs.pieces.Pieces.pop_maybe_catch.Goals as goal

pub pop-requires : goal.pop-requires
pop-requires c = (sort.Maybe_catch, c.requires)

pub returns-in-Catch : goal.returns-in-Catch
returns-in-Catch c = takes (piece.Catch c.in-Catch.catch) c.pop.result (caught (Some c.in-Catch.catch)) c.args.self.now c.pop.new.self c.pop.ensures c.in-Catch.is (λ b k t h. h)

pub returns-in-Missing : goal.returns-in-Missing
returns-in-Missing c = takes piece.Missing c.pop.result (caught None) c.args.self.now c.pop.new.self c.pop.ensures c.in-Missing.is (λ b k t h. h)

pub unreachable-requires : goal.unreachable-requires
unreachable-requires c = maybe_catch_is c.pop.result (last_is sort.Maybe_catch c.args.self.now c.pop.new.self c.pop.result c.requires c.pop.ensures) c.in_default.not-Catch c.in_default.not-Missing
