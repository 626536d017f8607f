use Rattle.std.proofs.Common.{[], ◌∷◌, refl}
use Rattle.js_tree.specs.Trees.{at}
use Rattle.js_grammar.specs.inner.Sorts as sort
use Rattle.js_pieces.proofs.Gathering.{last_fits, others_fit}
use Rattle.js_pieces.proofs.pieces.Pieces.conditional.Goals as goal

pub pop_node-otherwise-requires : goal.pop_node-otherwise-requires
pop_node-otherwise-requires c = last_fits sort.Node (sort.Node ∷ sort.Node ∷ []) c.args.self.now c.requires

pub pop_node-then-requires : goal.pop_node-then-requires
pop_node-then-requires c = last_fits sort.Node (sort.Node ∷ []) c.pop_node-otherwise.new.self (others_fit sort.Node (sort.Node ∷ sort.Node ∷ []) c.args.self.now c.pop_node-otherwise.new.self (at c.pop_node-otherwise.result) c.requires c.pop_node-otherwise.ensures)

pub pop_node-test-requires : goal.pop_node-test-requires
pop_node-test-requires c = last_fits sort.Node [] c.pop_node-then.new.self (others_fit sort.Node (sort.Node ∷ []) c.pop_node-otherwise.new.self c.pop_node-then.new.self (at c.pop_node-then.result) (others_fit sort.Node (sort.Node ∷ sort.Node ∷ []) c.args.self.now c.pop_node-otherwise.new.self (at c.pop_node-otherwise.result) c.requires c.pop_node-otherwise.ensures) c.pop_node-then.ensures)

pub returns : goal.returns
returns c = record { is = refl; taken = (c.pop_node-otherwise.new.self, c.pop_node-otherwise.ensures, (c.pop_node-then.new.self, c.pop_node-then.ensures, (c.pop_node-test.new.self, c.pop_node-test.ensures, refl))) }
