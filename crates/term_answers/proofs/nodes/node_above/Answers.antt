use Rattle.term_answers.proofs.nodes.node_above.Goals as goal

pub returns-in_ok-arguments-in-call : goal.returns-in_ok-arguments-in-call
returns-in_ok-arguments-in-call c = λ b. (c.in-Some.ensures, (c.in_ok-arguments-in-call.ensures b, tt))

pub returns-in_default-word : goal.returns-in_default-word
returns-in_default-word c = λ b. c.node_of.ensures c.args.count b c.in-Some.ensures (c.part_or.ensures c.in-Some.ensures)
