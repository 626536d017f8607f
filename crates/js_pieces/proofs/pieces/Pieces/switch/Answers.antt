use Rattle.std.proofs.Common.{[], ◌∷◌, refl}
use Rattle.js_tree.specs.Trees.{cases}
use Rattle.js_grammar.specs.inner.Sorts as sort
use Rattle.js_pieces.proofs.Gathering.{last_fits, others_fit}
use Rattle.js_pieces.proofs.pieces.Pieces.switch.Goals as goal

pub pop_cases-cases-requires : goal.pop_cases-cases-requires
pop_cases-cases-requires c = last_fits sort.Cases (sort.Node ∷ []) c.args.self.now c.requires

pub pop_node-value-requires : goal.pop_node-value-requires
pop_node-value-requires c = last_fits sort.Node [] c.pop_cases-cases.new.self (others_fit sort.Cases (sort.Node ∷ []) c.args.self.now c.pop_cases-cases.new.self (cases c.pop_cases-cases.result) c.requires c.pop_cases-cases.ensures)

pub returns : goal.returns
returns c = record { is = refl; taken = (c.pop_cases-cases.new.self, c.pop_cases-cases.ensures, (c.pop_node-value.new.self, c.pop_node-value.ensures, refl)) }
