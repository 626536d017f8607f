use Rattle.std.proofs.Common.{[], refl}
use Rattle.js_grammar.specs.inner.Sorts as sort
use Rattle.js_pieces.proofs.Gathering.{last_fits}
use Rattle.js_pieces.proofs.pieces.Pieces.block.Goals as goal

pub pop_nodes-requires : goal.pop_nodes-requires
pop_nodes-requires c = last_fits sort.Nodes [] c.args.self.now c.requires

pub returns : goal.returns
returns c = record { is = refl; taken = (c.pop_nodes.new.self, c.pop_nodes.ensures, refl) }
