use Rattle.std.proofs.Common.{subst}
use Rattle.js_tree.specs.Arena.{IsWithin}
use Rattle.js_tree.specs.Trees.{elements}
use Rattle.term_answers.proofs.nodes.array.Goals as goal

pub returns-then-are_elements : goal.returns-then-are_elements
returns-then-are_elements c = λ b. (subst (λ xs. IsWithin c.args.count b (elements xs)) c.as_slice.ensures (c.are_elements.ensures c.if-are_elements.true b), tt)
