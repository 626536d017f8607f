use Rattle.js_grammar.specs.inner.Sorts as sort
use Rattle.js_pieces.proofs.Sorting.{whole_is, last_is}
use Rattle.js_pieces.proofs.pieces.Pieces.pop_whole.Goals as goal

pub pop-requires : goal.pop-requires
pop-requires c = (sort.Root, c.requires)

pub unreachable-requires : goal.unreachable-requires
unreachable-requires c = whole_is c.pop.result (last_is sort.Root c.args.self.now c.pop.new.self c.pop.result c.requires c.pop.ensures) c.in_default.not-Whole
