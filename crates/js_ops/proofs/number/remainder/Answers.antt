use Rattle.std.proofs.Common.{sym, ap, ◌∙◌, w64, FitsSigned}
use Rattle.std.specs.Int.{w128}
use Rattle.std.proofs.lemmas.Int.{to_z-of_z, rem_is}
use Rattle.std.specs.Option.{option_and_then}
use Rattle.js_value.specs.Number.{in_profile}
use Rattle.js_value.specs.declared.number.Num.TheVariants.{Whole}
use Rattle.js_ops.proofs.Division.{not_zero, remainder_exact}
use Rattle.js_ops.proofs.number.remainder.Goals as goal

pub returns : goal.returns
returns c =
    let a = c.args.a in
    let b = c.args.b in
    let is = c.from.ensures ∙ rem_is w64 a b c.ranges.a c.ranges.b in
    let wide : FitsSigned w128 c.from.result = record { sfits = c.from.type_inv } in
    c.whole.ensures
    ∙ ap (λ z. in_profile (Whole z)) (to_z-of_z w128 c.from.result wide ∙ is)
    ∙ sym (ap (option_and_then in_profile) (remainder_exact a b (not_zero b c.if-b-eq0.false)))
