use Rattle.js_term.proofs.ArenaOperands.{nodes-literal, nodes-operands}
use Rattle.js_term.proofs.laws.a_nodes_operands_are_those_of_its_tree.Goals as goal

pub returns : goal.returns
returns c = record {
  literals = λ arena id n is e. nodes-literal arena is id n e;
  operands = λ arena id n is e. nodes-operands arena is id n e;
}
