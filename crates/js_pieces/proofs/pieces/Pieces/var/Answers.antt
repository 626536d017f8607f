use Rattle.std.proofs.Common.{[], refl}
use Rattle.js_grammar.specs.inner.Sorts as sort
use Rattle.js_pieces.proofs.Gathering.{last_fits}
use Rattle.js_pieces.proofs.pieces.Pieces.var.Goals as goal

pub pop_declarators-requires : goal.pop_declarators-requires
pop_declarators-requires c = last_fits sort.Declarators [] c.args.self.now c.requires

pub returns : goal.returns
returns c = record { is = refl; taken = (c.pop_declarators.new.self, c.pop_declarators.ensures, refl) }
