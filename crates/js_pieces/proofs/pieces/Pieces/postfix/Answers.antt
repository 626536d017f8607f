use Rattle.std.proofs.Common.{[], refl}
use Rattle.js_grammar.specs.inner.Sorts as sort
use Rattle.js_pieces.proofs.Gathering.{last_fits}
use Rattle.js_pieces.proofs.pieces.Pieces.postfix.Goals as goal

pub pop_node-target-requires : goal.pop_node-target-requires
pop_node-target-requires c = last_fits sort.Node [] c.args.self.now c.requires

pub returns : goal.returns
returns c = record { is = refl; taken = (c.pop_node-target.new.self, c.pop_node-target.ensures, refl) }
