use Rattle.js_grammar.specs.inner.Sorts as sort
use Rattle.js_pieces.proofs.Sorting.{last_is, text_is}
use Rattle.js_pieces.proofs.pieces.Pieces.pair_value.Goals as goal

pub pop-requires : goal.pop-requires
pop-requires c = (sort.Text, c.requires)

pub unreachable-requires : goal.unreachable-requires
unreachable-requires c = text_is c.pop.result (last_is sort.Text c.args.self.now c.pop.new.self c.pop.result c.requires c.pop.ensures) c.in_default.not-Text
