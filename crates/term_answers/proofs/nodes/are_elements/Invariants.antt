-- Those that were passed are there.
use Rattle.std.proofs.Common.{ℕ, take}
use Rattle.js_tree.specs.Arena.{IsWithin}
use Rattle.js_tree.specs.Trees.{elements}
use Rattle.term_answers.proofs.nodes.are_elements.Given as goal

abbrev pub invariant-loop-id : goal.invariant-loop-id
invariant-loop-id l = (b : ℕ) → IsWithin l.count b (elements (take l.id-index l.ids))
