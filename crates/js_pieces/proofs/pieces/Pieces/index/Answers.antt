use Rattle.std.proofs.Common.{[], ◌∷◌, refl}
use Rattle.js_tree.specs.Trees.{at}
use Rattle.js_grammar.specs.inner.Sorts as sort
use Rattle.js_pieces.proofs.Gathering.{last_fits, others_fit}
use Rattle.js_pieces.proofs.pieces.Pieces.index.Goals as goal

pub pop_node-key-requires : goal.pop_node-key-requires
pop_node-key-requires c = last_fits sort.Node (sort.Node ∷ []) c.args.self.now c.requires

pub pop_node-object-requires : goal.pop_node-object-requires
pop_node-object-requires c = last_fits sort.Node [] c.pop_node-key.new.self (others_fit sort.Node (sort.Node ∷ []) c.args.self.now c.pop_node-key.new.self (at c.pop_node-key.result) c.requires c.pop_node-key.ensures)

pub returns : goal.returns
returns c = record { is = refl; taken = (c.pop_node-key.new.self, c.pop_node-key.ensures, (c.pop_node-object.new.self, c.pop_node-object.ensures, refl)) }
