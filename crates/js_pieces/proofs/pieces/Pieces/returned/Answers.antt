use Rattle.std.proofs.Common.{[], refl}
use Rattle.js_grammar.specs.inner.Sorts as sort
use Rattle.js_pieces.proofs.Gathering.{last_fits}
use Rattle.js_pieces.proofs.pieces.Pieces.returned.Goals as goal

pub pop_maybe_node-requires : goal.pop_maybe_node-requires
pop_maybe_node-requires c = last_fits sort.Maybe_node [] c.args.self.now c.requires

pub returns : goal.returns
returns c = record { is = refl; taken = (c.pop_maybe_node.new.self, c.pop_maybe_node.ensures, refl) }
