use Rattle.std.proofs.Common.{◌≡◌, ◌+◌, ◌++◌, [], List, drop, slice_get, ap, subst, sym, ◌∙◌}
use Rattle.js_value.specs.declared.value.Value.{Value}
use Rattle.js_host.specs.Names.{option_names}
use Rattle.js_operands.proofs.Waiting.{more_from}
use Rattle.js_operands.proofs.values.add_values.Goals as goal

pub loop-place-preserved : goal.loop-place-preserved
loop-place-preserved c =
    let vs : List Value = c.args.others.now.done in
    let n = c.loop-place.place in
    let all = c.args.operands.now.done ++ drop c.args.from vs in
    let added = c.in_ok-add_option.ensures ∙ ap (λ o. record { done = c.loop-place.operands.done ++ option_names o []; todo = [] }) c.value.ensures in
    let done = ap (λ e. e.done) added in
    record {
      all = ap (λ us. us ++ drop (n + 1) vs) done ∙ more_from c.loop-place.operands.done vs n all c.loop-place.invariant.all;
      none = ap (λ e. e.todo) added;
    }
