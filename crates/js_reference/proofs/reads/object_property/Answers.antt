use Rattle.std.proofs.Common.{ℕ, Option, Some, None, arith, sym, ◌∙◌}
use Rattle.js_value.specs.declared.value.Value.{Value}
use Rattle.js_heap.specs.Roots.{id_of}
use Rattle.js_reference.specs.Hosted.{hosted}
use Rattle.js_reference.specs.Properties.{own_property}
use Rattle.js_reference.proofs.Chains.{past}
use Rattle.js_reference.proofs.reads.object_property.Goals as goal

pub loop-value-preserved : goal.loop-value-preserved
loop-value-preserved g c =
    let w = c.args.heap.now in
    let f : ℕ → Option Value = λ n. own_property (hosted g.H.Host.rows) w c.args.host.now (id_of n) c.args.key.now in
    let leads = c.chains_lead_on.ensures.prototypes w c.object_count-objects.ensures.closed in
    let below = c.in-Some-prototype.ensures.before in
    let within = c.loop-value.invariant.there in
    record {
      there = omega (arith, below, within);
      same = c.loop-value.invariant.same ∙ past w leads f c.loop-value.at.number (Some c.in-Some-prototype.prototype) (sym c.in_ok-value.ensures.value ∙ c.in_default.is) c.in-Some-prototype.ensures.prototype;
    }

pub returns-in-None-clause-value : goal.returns-in-None-clause-value
returns-in-None-clause-value g c =
    let w = c.args.heap.now in
    let f : ℕ → Option Value = λ n. own_property (hosted g.H.Host.rows) w c.args.host.now (id_of n) c.args.key.now in
    let leads = c.chains_lead_on.ensures.prototypes w c.object_count-objects.ensures.closed in
    sym (c.loop-value.invariant.same ∙ past w leads f c.loop-value.at.number None (sym c.in_ok-value.ensures.value ∙ c.in_default.is) c.in-None.ensures.prototype)
