use Rattle.std.proofs.Common.{[], refl}
use Rattle.js_grammar.specs.inner.Sorts as sort
use Rattle.js_pieces.proofs.Gathering.{last_fits}
use Rattle.js_pieces.proofs.pieces.Pieces.name.Goals as goal

pub pop_text-requires : goal.pop_text-requires
pop_text-requires c = last_fits sort.Text [] c.args.self.now c.requires

pub returns : goal.returns
returns c = record { is = refl; taken = (c.pop_text.new.self, c.pop_text.ensures, refl) }
