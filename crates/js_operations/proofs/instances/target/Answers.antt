use Rattle.std.proofs.Common.{◌≡◌, ◌+◌, ◌-◌, suc, ap, arith, sym, ◌∙◌}
use Rattle.js_value.specs.Image.{image}
use Rattle.js_operations.specs.Operations.{target_to}
use Rattle.js_operations.proofs.instances.target.Goals as goal

pub loop-preserved : goal.loop-preserved
loop-preserved c =
    let w = c.args.heap.now in
    let at = c.loop.at.now in
    let left = c.loop.invariant.end in
    let fits = c.loop-test.true in
    let n = c.object_count-end.result - (c.loop.counter + 1) in
    let more : suc n ≡ c.object_count-end.result - c.loop.counter = omega (arith, fits) in
    record {
      end = left;
      within = omega (arith, fits);
      there = c.in-Some.ensures.there;
      same =
          ap image (sym (c.in-Some.ensures.bound n))
          ∙ ap (λ k. image (target_to k w at)) more ∙ c.loop.invariant.same;
    }
