use Rattle.std.proofs.Common.{subst}
use Rattle.std.proofs.lemmas.List.{take_all}
use Rattle.js_host.specs.There.{AreThere}
use Rattle.term_answers.proofs.There.{there_more}
use Rattle.term_answers.proofs.run.are_there.Goals as goal

pub loop-value-preserved : goal.loop-value-preserved
loop-value-preserved c =
    there_more c.args.heap.now c.args.values.now c.loop-value.value-index c.value-item.result c.loop-value-test.true c.value-item.is c.loop-value.invariant
    (c.is_missing.ensures c.if-is_missing.false)

pub returns : goal.returns
returns c = λ t. subst (AreThere c.args.heap.now) (take_all c.loop-value.value-index c.args.values.now c.loop-value-test.false) c.loop-value.invariant
