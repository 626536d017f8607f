use Rattle.std.proofs.Common.{◌+◌, ap, drop, refl, ◌∙◌}
use Rattle.js_calls.specs.Calls.{with_names}
use Rattle.js_calls.proofs.CallSteps.{later_same, later_twice, scope_later}
use Rattle.js_calls.proofs.Declared.{names_step}
use Rattle.js_calls.proofs.call_scope.declare_names.Goals as goal

pub loop-name-init : goal.loop-name-init
loop-name-init c = record {
  scope = c.requires;
  is = refl;
  later = later_same c.args.heap.now;
}

pub loop-name-preserved : goal.loop-name-preserved
loop-name-preserved c =
    let step = c.in_ok-declare.ensures in
    record {
      scope = scope_later _ _ _ step.later c.loop-name.invariant.scope;
      is = ap (with_names c.args.scope (drop (c.loop-name.name-index + 1) c.args.names.now)) step.is
          ∙ names_step c.args.scope c.args.names.now c.loop-name.name-index c.name-item.result
          c.loop-name.heap c.loop-name-test.true c.name-item.is
          ∙ c.loop-name.invariant.is;
      later = later_twice _ _ _ c.loop-name.invariant.later step.later;
    }
