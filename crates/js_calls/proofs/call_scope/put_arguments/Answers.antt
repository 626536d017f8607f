use Rattle.std.proofs.Common.{◌+◌, ap, arith, drop, refl, ◌∙◌}
use Rattle.js_calls.specs.Calls.{with_indices}
use Rattle.js_calls.proofs.CallSteps.{later_same, later_twice, object_there_later, there_later}
use Rattle.js_calls.proofs.Declared.{indices_step}
use Rattle.js_calls.proofs.call_scope.put_arguments.Goals as goal

pub loop-index-init : goal.loop-index-init
loop-index-init c = record {
  object = c.requires.object;
  values = c.requires.there;
  is = refl;
  later = later_same c.args.heap.now;
}

pub loop-index-preserved : goal.loop-index-preserved
loop-index-preserved c =
    let step = c.in_ok-put_element.ensures in
    record {
      object = object_there_later _ _ _ step.later c.loop-index.invariant.object;
      values = there_later _ _ _ step.later c.loop-index.invariant.values;
      is = ap (with_indices c.args.object (c.loop-index.index + 1)
          (drop (c.loop-index.index + 1) c.args.arguments.now)) step.is
          ∙ indices_step c.args.object c.args.arguments.now c.loop-index.index
          c.in_ok-value.value c.loop-index.heap (omega arith) c.in_ok-value.ensures.is
          ∙ c.loop-index.invariant.is;
      later = later_twice _ _ _ c.loop-index.invariant.later step.later;
    }
