use Rattle.js_operands.proofs.ArenaRows.{row-tree}
use Rattle.js_operands.proofs.laws.a_nodes_row_is_that_of_its_tree.Goals as goal

pub returns : goal.returns
returns c = λ a is id. row-tree a is id
