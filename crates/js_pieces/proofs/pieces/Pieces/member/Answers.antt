use Rattle.std.proofs.Common.{[], ◌∷◌, refl}
use Rattle.js_tree.specs.Trees.{Part}
use Rattle.js_grammar.specs.inner.Sorts as sort
use Rattle.js_pieces.proofs.Gathering.{last_fits, others_fit}
use Rattle.js_pieces.proofs.pieces.Pieces.member.Goals as goal

pub pop_text-key-requires : goal.pop_text-key-requires
pop_text-key-requires c = last_fits sort.Text (sort.Node ∷ []) c.args.self.now c.requires

pub pop_node-object-requires : goal.pop_node-object-requires
pop_node-object-requires c = last_fits sort.Node [] c.pop_text-key.new.self (others_fit sort.Text (sort.Node ∷ []) c.args.self.now c.pop_text-key.new.self (Part.Word c.pop_text-key.result) c.requires c.pop_text-key.ensures)

pub returns : goal.returns
returns c = record { is = refl; taken = (c.pop_text-key.new.self, c.pop_text-key.ensures, (c.pop_node-object.new.self, c.pop_node-object.ensures, refl)) }
