use Rattle.std.proofs.Common.{[], refl}
use Rattle.js_grammar.specs.inner.Sorts as sort
use Rattle.js_pieces.proofs.Gathering.{last_fits}
use Rattle.js_pieces.proofs.pieces.Pieces.broken.Goals as goal

pub pop_maybe_text-requires : goal.pop_maybe_text-requires
pop_maybe_text-requires c = last_fits sort.Maybe_text [] c.args.self.now c.requires

pub returns : goal.returns
returns c = record { is = refl; taken = (c.pop_maybe_text.new.self, c.pop_maybe_text.ensures, refl) }
