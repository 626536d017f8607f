use Rattle.std.proofs.Common.{◌≡◌, ◌==◌, ℕ, Bool, false, Some, None, arith, sym, ◌∙◌}
use Rattle.std.proofs.lemmas.Bool.Decides.{nat_tests}
use Rattle.js_operations.proofs.Along.{past}
use Rattle.js_operations.proofs.instances.is_along.Goals as goal

pub loop-at-preserved : goal.loop-at-preserved
loop-at-preserved c =
    let w = c.args.heap.now in
    let leads = c.chains_lead_on.ensures.prototypes w c.object_count-objects.ensures.closed in
    let p : ℕ → Bool = λ n. n == c.args.to.number in
    let other : p c.loop-at.at.number ≡ false = grind (arith, nat_tests, c.if-at-to.false) in
    let below = c.in-Some.ensures.before in
    let within = c.loop-at.invariant.there in
    let next = Some c.in-Some.prototype in
    record {
      there = omega (arith, below, within);
      same = c.loop-at.invariant.same
          ∙ past w leads p c.loop-at.at.number next other c.in-Some.ensures.prototype;
    }

pub returns-in-None : goal.returns-in-None
returns-in-None c =
    let w = c.args.heap.now in
    let leads = c.chains_lead_on.ensures.prototypes w c.object_count-objects.ensures.closed in
    let p : ℕ → Bool = λ n. n == c.args.to.number in
    let other : p c.loop-at.at.number ≡ false = grind (arith, nat_tests, c.if-at-to.false) in
    sym (c.loop-at.invariant.same
    ∙ past w leads p c.loop-at.at.number None other c.in-None.ensures.prototype)
