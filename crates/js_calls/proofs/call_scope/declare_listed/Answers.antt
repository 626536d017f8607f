use Rattle.std.proofs.Common.{◌+◌, ap, drop, refl, ◌∙◌}
use Rattle.js_calls.specs.Calls.{with_parameters}
use Rattle.js_calls.proofs.CallSteps.{later_same, later_twice, scope_later, there_later}
use Rattle.js_calls.proofs.Declared.{parameters_step}
use Rattle.js_calls.proofs.call_scope.declare_listed.Goals as goal

pub loop-at-init : goal.loop-at-init
loop-at-init c = record {
  scope = c.requires.scope;
  values = c.requires.there;
  is = refl;
  later = later_same c.args.heap.now;
}

pub loop-at-preserved : goal.loop-at-preserved
loop-at-preserved c =
    let step = c.in_ok-declare.ensures in
    record {
      scope = scope_later _ _ _ step.later c.loop-at.invariant.scope;
      values = there_later _ _ _ step.later c.loop-at.invariant.values;
      is = ap (with_parameters c.args.scope (drop (c.loop-at.at + 1) c.args.parameters.now)
          (drop (c.loop-at.at + 1) c.args.arguments.now)) step.is
          ∙ parameters_step c.args.scope c.args.parameters.now c.args.arguments.now c.loop-at.at
          c.index-parameters-at.result c.in_ok-value.value c.loop-at.heap
          c.loop-at-test.true c.index-parameters-at.is c.in_ok-value.ensures.is
          ∙ c.loop-at.invariant.is;
      later = later_twice _ _ _ c.loop-at.invariant.later step.later;
    }
