use Rattle.std.proofs.Common.{◌≡◌, ◌<◌, length, sym, ◌∙◌, arith}
use Rattle.js_host.specs.Natives as natives
use Rattle.js_operands.specs.Conversions.{hints}
use Rattle.js_operands.proofs.Waiting.{all_converted, is_wanted, one_more, past_wanted}
use Rattle.js_operands.proofs.wants.first_wanted.Goals as goal

pub returns-in-Some-clause-first : goal.returns-in-Some-clause-first
returns-in-Some-clause-first c =
    let f = hints natives.wants c.args.wants in
    let vs = c.args.operands.now.done in
    let within : c.loop-place.place < length vs = omega (arith, c.loop-place-test.true, c.value_count-place-end.ensures) in
    sym (c.loop-place.invariant.first ∙ is_wanted f c.loop-place.place vs c.in-Some.by within (sym c.wanted_hint.ensures ∙ c.in-Some.is))

pub loop-place-preserved : goal.loop-place-preserved
loop-place-preserved c =
    let f = hints natives.wants c.args.wants in
    let vs = c.args.operands.now.done in
    let within : c.loop-place.place < length vs = omega (arith, c.loop-place-test.true, c.value_count-place-end.ensures) in
    let none = sym c.wanted_hint.ensures ∙ c.in_default.is in
    record {
      first = c.loop-place.invariant.first ∙ past_wanted f c.loop-place.place vs within none;
      converted = one_more f vs c.loop-place.place none c.loop-place.invariant.converted;
    }

pub returns-clause-converted : goal.returns-clause-converted
returns-clause-converted c =
    all_converted (hints natives.wants c.args.wants) c.args.operands.now.done c.loop-place.place
    (omega (arith, c.loop-place-test.false, c.value_count-place-end.ensures)) c.loop-place.invariant.converted
