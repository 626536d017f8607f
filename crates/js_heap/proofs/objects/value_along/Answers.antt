use Rattle.std.proofs.Common.{ℕ, Option, None, ap, arith, sym, ◌∙◌}
use Rattle.std.specs.Option.{option_map}
use Rattle.js_value.specs.declared.value.Value.{Value}
use Rattle.js_heap.specs.Objects.{id_number, properties_in, prototype_number}
use Rattle.js_table.specs.Properties.{value_named}
use Rattle.js_heap.proofs.ChainSteps.{leads_within, past, past_last}
use Rattle.js_heap.proofs.Walks.{object_value}
use Rattle.js_heap.proofs.objects.value_along.Goals as goal

pub loop-value-preserved : goal.loop-value-preserved
loop-value-preserved c =
    let os = c.args.objects.now in
    let n = c.loop-value.at.number in
    let o = c.index-objects-at.result in
    let f : ℕ → Option Value = λ k. value_named c.args.name.now (properties_in c.args.objects.now k) in
    let leads = ap (option_map id_number) c.in-Some-prototype.is in
    let below = leads_within prototype_number os c.requires.back n o c.in-Some-prototype.prototype.number c.loop-value.invariant.there c.index-objects-at.is leads in
    let there = c.loop-value.invariant.there in
    record {
      there = omega (arith, below, there);
      same = c.loop-value.invariant.same ∙ past prototype_number os c.requires.back f n o c.in-Some-prototype.prototype.number there c.index-objects-at.is (object_value c.args.name.now os n o None there c.index-objects-at.is c.in_default.ensures) leads;
    }

pub returns-in-None : goal.returns-in-None
returns-in-None c =
    let os = c.args.objects.now in
    let n = c.loop-value.at.number in
    let o = c.index-objects-at.result in
    let f : ℕ → Option Value = λ k. value_named c.args.name.now (properties_in c.args.objects.now k) in
    let there = c.loop-value.invariant.there in
    sym (c.loop-value.invariant.same ∙ past_last prototype_number os c.requires.back f n o there c.index-objects-at.is (object_value c.args.name.now os n o None there c.index-objects-at.is c.in_default.ensures) (ap (option_map id_number) c.in-None.is))
