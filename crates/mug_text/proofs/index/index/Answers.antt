use Rattle.std.proofs.Common.{◌≡◌, ◌+◌, ◌-◌, ◌*◌, ◌<◌, ◌≤◌, IsTrue, true, false, length, get_or, drop, inl, inr, drop_of_length-le, refl, ap, ◌∙◌, rules, arith}
use Rattle.std.specs.Str.{all_ascii_digits}
use Rattle.std.proofs.lemmas.Bool.{cases_lt}
use Rattle.mug_text.proofs.Numbers.{read_on, read_grows, read_more, digits_more, digits_end, no_empty, no_padded, no_digits, no_large, some_index}
use Rattle.mug_text.proofs.index.index.Goals.{then-is_empty-via-then-is_empty, then-is_empty-via-else-is_empty+then-is_padded}
use Rattle.mug_text.proofs.index.index.Goals as goal

pub returns-then-is_empty : goal.returns-then-is_empty
returns-then-is_empty c =
    elim c.then-is_empty.branch [
      | then-is_empty-via-then-is_empty w ↦ no_empty c.args.units.now (search rules)
      | then-is_empty-via-else-is_empty+then-is_padded w ↦
          let yes : IsTrue true = search rules in
          let both = w.if-is_padded.ensures.0 yes in
          no_padded c.args.units.now both.0 both.1
    ]

pub loop-unit-init : goal.loop-unit-init
loop-unit-init c = record { digits = refl; read = refl; below = omega arith }

pub returns-then-unit-lt48 : goal.returns-then-unit-lt48
returns-then-unit-lt48 c =
    no_digits c.args.units.now
    (c.loop-unit.invariant.digits ∙ digits_end c.args.units.now c.loop-unit.unit-index c.from-unit.result c.loop-unit-test.true c.from-unit.ensures c.then-unit-lt48.either)

pub overflow_mul-value : goal.overflow_mul-value
overflow_mul-value c = let below = c.loop-unit.invariant.below in search rules

pub overflow_add-value : goal.overflow_add-value
overflow_add-value c = let below = c.loop-unit.invariant.below in search rules

pub returns-then-value-end : goal.returns-then-value-end
returns-then-value-end c =
    let us = c.args.units.now in
    let i = c.loop-unit.unit-index in
    let more = read_more us i c.from-unit.result c.loop-unit.value c.loop-unit-test.true c.from-unit.ensures in
    let grown = read_grows (c.loop-unit.value * 10 + (c.from-unit.result - 48)) (drop (i + 1) us) in
    no_large us (omega (arith, c.loop-unit.invariant.read, more, grown, c.if-value-end.true))

pub loop-unit-preserved : goal.loop-unit-preserved
loop-unit-preserved c =
    let us = c.args.units.now in
    let i = c.loop-unit.unit-index in
    record {
      digits = c.loop-unit.invariant.digits ∙ digits_more us i c.from-unit.result c.loop-unit-test.true c.from-unit.ensures (search rules) (search rules);
      read = c.loop-unit.invariant.read ∙ read_more us i c.from-unit.result c.loop-unit.value c.loop-unit-test.true c.from-unit.ensures;
      below = search rules;
    }

pub overflow_cast-result : goal.overflow_cast-result
overflow_cast-result c = let below = c.loop-unit.invariant.below in search rules

pub returns : goal.returns
returns c =
    let us = c.args.units.now in
    let past : length us ≤ c.loop-unit.unit-index = search rules in
    let none = drop_of_length-le us past in
    let some : 0 < length us = search rules in
    let alone : get_or us 0 0 ≡ 48 → length us ≡ 1 =
    λ front. elim (cases_lt 1 (length us)) [
      | inl more ↦ let no : IsTrue false = c.if-is_padded.ensures.1 (front, more) in absurd (cc)
      | inr few ↦ omega (arith, few, some)
    ] in
    some_index us c.loop-unit.value (c.loop-unit.invariant.digits ∙ ap all_ascii_digits none) some alone (c.loop-unit.invariant.read ∙ ap (read_on c.loop-unit.value) none) c.loop-unit.invariant.below
