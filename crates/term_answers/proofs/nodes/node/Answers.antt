use Rattle.term_answers.proofs.nodes.node.Goals as goal

pub returns-in_ok-nodes_of-in-block : goal.returns-in_ok-nodes_of-in-block
returns-in_ok-nodes_of-in-block c = λ b. (c.in_ok-nodes_of-in-block.ensures b, tt)
