use Rattle.std.proofs.Common.{◌++◌, [], slice_get, take, ap, ◌∙◌}
use Rattle.js_host.specs.Names.{option_names}
use Rattle.js_operands.proofs.Waiting.{up_to}
use Rattle.js_operands.proofs.values.first_values.Goals as goal

pub loop-place-preserved : goal.loop-place-preserved
loop-place-preserved c =
    let vs = c.args.operands.now.done in
    c.in_ok-add_option.ensures
    ∙ ap (λ o. record { done = c.loop-place.first.done ++ option_names o []; todo = [] }) c.value.ensures
    ∙ ap (λ e. record { done = e.done ++ option_names (slice_get vs c.loop-place.place) []; todo = [] }) c.loop-place.invariant
    ∙ ap (λ us. record { done = us; todo = [] }) (up_to vs c.loop-place.place)
