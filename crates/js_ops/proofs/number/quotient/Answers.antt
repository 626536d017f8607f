use Rattle.std.proofs.Common.{◌≡◌, of_z, to_z, ◌<◌, ◌^◌, sym, ap, ◌∙◌, w64, FitsSigned, rules}
use Rattle.std.specs.Int.{w128}
use Rattle.std.proofs.lemmas.Int.{to_z-of_z, quot_is}
use Rattle.std.specs.Int.RustNames.{int_rem, unsigned_abs}
use Rattle.std.specs.Option.{option_and_then}
use Rattle.js_value.specs.Number.{in_profile}
use Rattle.js_value.specs.declared.number.Num.TheVariants.{Whole}
use Rattle.js_ops.proofs.Division.{fits_quotient, fits_remainder, not_zero, is_zero, quotient_exact}
use Rattle.js_ops.proofs.number.quotient.Goals as goal

pub returns : goal.returns
returns c =
    let a = c.args.a in
    let b = c.args.b in
    let small : unsigned_abs a < 2 ^ 53 = search rules in
    let fits = fits_quotient a b small in
    let is = c.from.ensures ∙ quot_is w64 a b c.ranges.a c.ranges.b fits in
    let none : of_z w64 (int_rem a b) ≡ 0 =
    ap (λ y. of_z w64 (int_rem a y)) (sym (to_z-of_z w64 b c.ranges.b))
    ∙ ap (λ x. of_z w64 (int_rem x (to_z w64 (of_z w64 b)))) (sym (to_z-of_z w64 a c.ranges.a))
    ∙ c.if-a-b-ne0.false in
    let wide : FitsSigned w128 c.from.result = record { sfits = c.from.type_inv } in
    c.whole.ensures
    ∙ ap (λ z. in_profile (Whole z)) (to_z-of_z w128 c.from.result wide ∙ is)
    ∙ sym (ap (option_and_then in_profile) (quotient_exact a b (not_zero b c.if-b-eq0.false) (is_zero (int_rem a b) (fits_remainder a b c.ranges.a) none)))
