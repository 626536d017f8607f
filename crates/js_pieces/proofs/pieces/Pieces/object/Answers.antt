use Rattle.std.proofs.Common.{[], refl}
use Rattle.js_grammar.specs.inner.Sorts as sort
use Rattle.js_pieces.proofs.Gathering.{last_fits}
use Rattle.js_pieces.proofs.pieces.Pieces.object.Goals as goal

pub pop_entries-requires : goal.pop_entries-requires
pop_entries-requires c = last_fits sort.Entries [] c.args.self.now c.requires

pub returns : goal.returns
returns c = record { is = refl; taken = (c.pop_entries.new.self, c.in_ok-entries.ensures, refl) }
