use Rattle.std.proofs.Common.{◌≡◌, take, drop, sym, ◌∙◌, ap, arith}
use Rattle.std.proofs.lemmas.List.{take_rest}
use Rattle.js_tokens.specs.Numbers.{is_numeral, numeral_value, goes_on}
use Rattle.js_tokens.proofs.Digits.{number_run}
use Rattle.js_tokens.proofs.numbers.number_at.Goals as goal

pub returns-in-None : goal.returns-in-None
returns-in-None c z w n (h, (a, b, d, e, f)) =
    let is : n ≡ c.run_at-len.result = number_run c.args.units.now n h a d ∙ sym c.run_at-len.ensures.is in
    cc (sym a ∙ ap (λ k. is_numeral (take k c.args.units.now)) is ∙ c.in-None.ensures)

pub returns-then-value-ge-SAFE_END : goal.returns-then-value-ge-SAFE_END
returns-then-value-ge-SAFE_END c z w n (h, (a, b, d, e, f)) =
    let is : n ≡ c.run_at-len.result = number_run c.args.units.now n h a d ∙ sym c.run_at-len.ensures.is in
    omega (arith, ap (λ k. numeral_value (take k c.args.units.now)) is, c.in-Some.ensures.1, c.if-value-ge-SAFE_END.true)

pub returns-then-goes_on : goal.returns-then-goes_on
returns-then-goes_on c z w n (h, (a, b, d, e, f)) =
    let is : n ≡ c.run_at-len.result = number_run c.args.units.now n h a d ∙ sym c.run_at-len.ensures.is in
    cc (sym d ∙ ap (λ k. goes_on (drop k c.args.units.now)) is ∙ ap goes_on (sym (take_rest c.args.units.now c.run_at-len.result)) ∙ sym c.goes_on.ensures ∙ c.if-goes_on.true)
