use Rattle.js_grammar.specs.inner.Sorts as sort
use Rattle.js_pieces.proofs.Sorting.{body_is, last_is}
use Rattle.js_pieces.proofs.pieces.Pieces.pop_body.Goals as goal

pub pop-requires : goal.pop-requires
pop-requires c = (sort.Body, c.requires)

pub unreachable-requires : goal.unreachable-requires
unreachable-requires c = body_is c.pop.result (last_is sort.Body c.args.self.now c.pop.new.self c.pop.result c.requires c.pop.ensures) c.in_default.not-Body
