use Rattle.std.proofs.Common.{◌+◌, ap, drop, refl, ◌∙◌}
use Rattle.js_calls.specs.Calls.{with_functions}
use Rattle.js_calls.proofs.CallSteps.{later_same, later_twice, scope_later}
use Rattle.js_calls.proofs.Declared.{functions_step}
use Rattle.js_calls.proofs.call_scope.declare_functions.Goals as goal

pub loop-declared-init : goal.loop-declared-init
loop-declared-init c = record {
  scope = c.requires;
  is = refl;
  later = later_same c.args.heap.now;
}

pub loop-declared-preserved : goal.loop-declared-preserved
loop-declared-preserved c =
    let step = c.in_ok-declare_function.ensures in
    record {
      scope = scope_later _ _ _ step.later c.loop-declared.invariant.scope;
      is = ap (with_functions c.args.text c.args.scope
          (drop (c.loop-declared.declared-index + 1) c.args.functions.now)) step.is
          ∙ functions_step c.args.text c.args.scope c.args.functions.now
          c.loop-declared.declared-index c.declared-item.result c.loop-declared.heap
          c.loop-declared-test.true c.declared-item.is
          ∙ c.loop-declared.invariant.is;
      later = later_twice _ _ _ c.loop-declared.invariant.later step.later;
    }
