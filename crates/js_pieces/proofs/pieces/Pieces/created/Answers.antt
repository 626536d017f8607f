use Rattle.std.proofs.Common.{[], ◌∷◌, refl}
use Rattle.js_tree.specs.Trees.{nodes}
use Rattle.js_grammar.specs.inner.Sorts as sort
use Rattle.js_pieces.proofs.Gathering.{last_fits, others_fit}
use Rattle.js_pieces.proofs.pieces.Pieces.created.Goals as goal

pub pop_nodes-arguments-requires : goal.pop_nodes-arguments-requires
pop_nodes-arguments-requires c = last_fits sort.Nodes (sort.Node ∷ []) c.args.self.now c.requires

pub pop_node-callee-requires : goal.pop_node-callee-requires
pop_node-callee-requires c = last_fits sort.Node [] c.pop_nodes-arguments.new.self (others_fit sort.Nodes (sort.Node ∷ []) c.args.self.now c.pop_nodes-arguments.new.self (nodes c.pop_nodes-arguments.result) c.requires c.pop_nodes-arguments.ensures)

pub returns : goal.returns
returns c = record { is = refl; taken = (c.pop_nodes-arguments.new.self, c.pop_nodes-arguments.ensures, (c.pop_node-callee.new.self, c.pop_node-callee.ensures, refl)) }
