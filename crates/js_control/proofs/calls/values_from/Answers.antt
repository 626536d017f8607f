use Rattle.std.proofs.Common.{◌+◌, ◌++◌, drop, ap, ◌∙◌}
use Rattle.js_operands.proofs.Waiting.{more_from}
use Rattle.js_control.proofs.calls.values_from.Goals as goal

pub loop-place-preserved : goal.loop-place-preserved
loop-place-preserved c =
    let vs = c.args.operands.now.done in
    let n = c.loop-place.place in
    ap (λ us. us ++ drop (n + 1) vs) c.in_ok-push_copy.ensures
    ∙ more_from c.loop-place.values vs n (drop c.args.from vs) c.loop-place.invariant
