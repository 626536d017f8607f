use Rattle.std.proofs.Common.{◌<◌, get_or, subst, arith}
use Rattle.std.proofs.lemmas.List.{take_all}
use Rattle.js_tree.specs.Arena.{IsWithin}
use Rattle.js_tree.specs.Trees.{nodes}
use Rattle.js_tree.proofs.Functions.{within_more}
use Rattle.term_answers.proofs.nodes.are_within.Goals as goal

pub loop-id-init : goal.loop-id-init
loop-id-init c = λ b. tt

pub loop-id-preserved : goal.loop-id-preserved
loop-id-preserved c =
    let there : (get_or c.args.ids.now c.loop-id.id-index (record { number = 0 })).number < c.args.count = omega arith in
    λ b. within_more c.args.count b c.args.ids.now c.loop-id.id-index (record { number = 0 }) c.loop-id-test.true (c.loop-id.invariant b) there

pub returns : goal.returns
returns c = λ t b. subst (λ ids. IsWithin c.args.count b (nodes ids)) (take_all c.loop-id.id-index c.args.ids.now c.loop-id-test.false) (c.loop-id.invariant b)
