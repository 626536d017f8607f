use Rattle.std.proofs.Common.{◌≡◌, ◌<◌, ◌^◌, ◌-ℤ◌, ap, ◌∙◌, of_z, to_z, rules, arith}
use Rattle.std.proofs.lemmas.Int.{ints}
use Rattle.std.specs.Int.{w128}
use Rattle.std.specs.Int.RustNames.{unsigned_abs}
use Rattle.js_value.specs.Number.{in_profile}
use Rattle.js_value.specs.declared.number.Num.TheVariants.{Whole}
use Rattle.js_ops.proofs.number.difference.Goals as goal

pub returns : goal.returns
returns c =
    let a = c.args.a in
    let b = c.args.b in
    let x = c.from.result in
    let y = c.from-2.result in
    let small : unsigned_abs a < 2 ^ 53 = let safe = c.get.ensures.range in search rules in
    let little : unsigned_abs b < 2 ^ 53 = let safe = c.get-2.ensures.range in search rules in
    let is : to_z w128 (of_z w128 (to_z w128 (of_z w128 x) -ℤ to_z w128 (of_z w128 y))) ≡ a -ℤ b = omega (arith, ints, c.from.ensures, c.from-2.ensures, c.get.ensures.value, c.get-2.ensures.value, small, little) in
    c.whole.ensures ∙ ap (λ z. in_profile (Whole z)) is
