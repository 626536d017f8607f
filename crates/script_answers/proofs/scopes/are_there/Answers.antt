use Rattle.std.proofs.Common.{◌<◌, length, get_or, subst, arith}
use Rattle.std.proofs.lemmas.List.{take_all}
use Rattle.js_tree.specs.Trees.{nodes}
use Rattle.js_tree.specs.Arena.{IsWithin}
use Rattle.js_tree.proofs.Functions.{within_more}
use Rattle.script_answers.proofs.scopes.are_there.Goals as goal

pub loop-id-preserved : goal.loop-id-preserved
loop-id-preserved c =
    let there : (get_or c.args.ids.now c.loop-id.id-index (record { number = 0 })).number < length c.args.script.now.kept = omega arith in
    within_more (length c.args.script.now.kept) (length c.args.script.now.pending) c.args.ids.now c.loop-id.id-index (record { number = 0 }) c.loop-id-test.true c.loop-id.invariant there

pub returns : goal.returns
returns c = λ _. subst (λ ids. IsWithin (length c.args.script.now.kept) (length c.args.script.now.pending) (nodes ids)) (take_all c.loop-id.id-index c.args.ids.now c.loop-id-test.false) c.loop-id.invariant
