use Rattle.std.proofs.Common.{[], ◌∷◌, refl}
use Rattle.js_tree.specs.Trees.{at}
use Rattle.js_grammar.specs.inner.Sorts as sort
use Rattle.js_pieces.proofs.Gathering.{last_fits, others_fit}
use Rattle.js_pieces.proofs.pieces.Pieces.labelled.Goals as goal

pub pop_node-body-requires : goal.pop_node-body-requires
pop_node-body-requires c = last_fits sort.Node (sort.Text ∷ []) c.args.self.now c.requires

pub pop_text-label-requires : goal.pop_text-label-requires
pop_text-label-requires c = last_fits sort.Text [] c.pop_node-body.new.self (others_fit sort.Node (sort.Text ∷ []) c.args.self.now c.pop_node-body.new.self (at c.pop_node-body.result) c.requires c.pop_node-body.ensures)

pub returns : goal.returns
returns c = record { is = refl; taken = (c.pop_node-body.new.self, c.pop_node-body.ensures, (c.pop_text-label.new.self, c.pop_text-label.ensures, refl)) }
