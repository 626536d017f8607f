use Rattle.std.proofs.Common.{[], ◌∷◌, refl}
use Rattle.js_tree.specs.Trees.{at}
use Rattle.js_grammar.specs.inner.Sorts as sort
use Rattle.js_pieces.proofs.Gathering.{last_fits, others_fit}
use Rattle.js_pieces.proofs.pieces.Pieces.for_in.Goals as goal

pub pop_node-body-requires : goal.pop_node-body-requires
pop_node-body-requires c = last_fits sort.Node (sort.Node ∷ sort.Node ∷ []) c.args.self.now c.requires

pub pop_node-object-requires : goal.pop_node-object-requires
pop_node-object-requires c = last_fits sort.Node (sort.Node ∷ []) c.pop_node-body.new.self (others_fit sort.Node (sort.Node ∷ sort.Node ∷ []) c.args.self.now c.pop_node-body.new.self (at c.pop_node-body.result) c.requires c.pop_node-body.ensures)

pub pop_node-target-requires : goal.pop_node-target-requires
pop_node-target-requires c = last_fits sort.Node [] c.pop_node-object.new.self (others_fit sort.Node (sort.Node ∷ []) c.pop_node-body.new.self c.pop_node-object.new.self (at c.pop_node-object.result) (others_fit sort.Node (sort.Node ∷ sort.Node ∷ []) c.args.self.now c.pop_node-body.new.self (at c.pop_node-body.result) c.requires c.pop_node-body.ensures) c.pop_node-object.ensures)

pub returns : goal.returns
returns c = record { is = refl; taken = (c.pop_node-body.new.self, c.pop_node-body.ensures, (c.pop_node-object.new.self, c.pop_node-object.ensures, (c.pop_node-target.new.self, c.pop_node-target.ensures, refl))) }
