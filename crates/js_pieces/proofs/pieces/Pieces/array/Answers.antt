use Rattle.std.proofs.Common.{[], refl}
use Rattle.js_grammar.specs.inner.Sorts as sort
use Rattle.js_pieces.proofs.Gathering.{last_fits}
use Rattle.js_pieces.proofs.pieces.Pieces.array.Goals as goal

pub pop_elements-requires : goal.pop_elements-requires
pop_elements-requires c = last_fits sort.Elements [] c.args.self.now c.requires

pub returns : goal.returns
returns c = record { is = refl; taken = (c.pop_elements.new.self, c.in_ok-elements.ensures, refl) }
