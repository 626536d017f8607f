use Rattle.std.proofs.Common.{[], refl}
use Rattle.js_grammar.specs.inner.Sorts as sort
use Rattle.js_pieces.proofs.Gathering.{last_fits}
use Rattle.js_pieces.proofs.pieces.Pieces.thrown.Goals as goal

pub pop_node-requires : goal.pop_node-requires
pop_node-requires c = last_fits sort.Node [] c.args.self.now c.requires

pub returns : goal.returns
returns c = record { is = refl; taken = (c.pop_node.new.self, c.pop_node.ensures, refl) }
