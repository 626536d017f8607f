use Rattle.std.proofs.Common.{[], ◌∷◌, refl}
use Rattle.js_tree.specs.Trees.{at}
use Rattle.js_grammar.specs.inner.Sorts as sort
use Rattle.js_pieces.proofs.Gathering.{last_fits, others_fit}
use Rattle.js_pieces.proofs.pieces.Pieces.assign.Goals as goal

pub pop_node-value-requires : goal.pop_node-value-requires
pop_node-value-requires c = last_fits sort.Node (sort.Node ∷ []) c.args.self.now c.requires

pub pop_node-target-requires : goal.pop_node-target-requires
pop_node-target-requires c = last_fits sort.Node [] c.pop_node-value.new.self (others_fit sort.Node (sort.Node ∷ []) c.args.self.now c.pop_node-value.new.self (at c.pop_node-value.result) c.requires c.pop_node-value.ensures)

pub returns : goal.returns
returns c = record { is = refl; taken = (c.pop_node-value.new.self, c.pop_node-value.ensures, (c.pop_node-target.new.self, c.pop_node-target.ensures, refl)) }
