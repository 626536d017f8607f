use Rattle.std.proofs.Common.{subst}
use Rattle.std.proofs.lemmas.List.{take_all}
use Rattle.js_tree.specs.Arena.{IsWithin}
use Rattle.js_tree.specs.Trees.{elements}
use Rattle.term_answers.proofs.Within.{elements_more}
use Rattle.term_answers.proofs.nodes.are_elements.Goals as goal

pub loop-id-init : goal.loop-id-init
loop-id-init c = λ b. tt

pub loop-id-preserved : goal.loop-id-preserved
loop-id-preserved c = λ b.
    elements_more c.args.count b c.args.ids.now c.loop-id.id-index _ c.loop-id-test.true (c.loop-id.invariant b) (c.is_missing.ensures c.if-is_missing.false b)

pub returns : goal.returns
returns c = λ t b. subst (λ ids. IsWithin c.args.count b (elements ids)) (take_all c.loop-id.id-index c.args.ids.now c.loop-id-test.false) (c.loop-id.invariant b)
