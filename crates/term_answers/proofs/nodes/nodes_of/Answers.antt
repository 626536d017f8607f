use Rattle.std.proofs.Common.{subst}
use Rattle.js_tree.specs.Arena.{IsWithin}
use Rattle.js_tree.specs.Trees.{nodes}
use Rattle.term_answers.proofs.nodes.nodes_of.Goals as goal

pub returns-then-are_within : goal.returns-then-are_within
returns-then-are_within c = λ b. subst (λ xs. IsWithin c.args.count b (nodes xs)) c.as_slice.ensures (c.are_within.ensures c.if-are_within.true b)
