use Rattle.std.proofs.Common.{[], ◌∷◌, refl}
use Rattle.js_tree.specs.Trees.{at}
use Rattle.js_grammar.specs.inner.Sorts as sort
use Rattle.js_pieces.proofs.Gathering.{last_fits, others_fit}
use Rattle.js_pieces.proofs.pieces.Pieces.comma.Goals as goal

pub pop_node-right-requires : goal.pop_node-right-requires
pop_node-right-requires c = last_fits sort.Node (sort.Node ∷ []) c.args.self.now c.requires

pub pop_node-left-requires : goal.pop_node-left-requires
pop_node-left-requires c = last_fits sort.Node [] c.pop_node-right.new.self (others_fit sort.Node (sort.Node ∷ []) c.args.self.now c.pop_node-right.new.self (at c.pop_node-right.result) c.requires c.pop_node-right.ensures)

pub returns : goal.returns
returns c = record { is = refl; taken = (c.pop_node-right.new.self, c.pop_node-right.ensures, (c.pop_node-left.new.self, c.pop_node-left.ensures, refl)) }
