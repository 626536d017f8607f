use Rattle.std.proofs.Common.{◌<◌, ◌^◌, sym, ◌∙◌, arith}
use Rattle.std.proofs.lemmas.Fmt.{decimal_injective}
use Rattle.mug_text.proofs.digits.decimal_below.Goals as goal

pub returns-else-value-end-clause-none : goal.returns-else-value-end-clause-none
returns-else-value-end-clause-none c =
    λ n below is.
    let value = c.in_ok-value.ensures in
    let small : n < 2 ^ 64 = omega arith in
    let same = decimal_injective n c.in_ok-value.value small value.0 (sym is ∙ value.1) in
    absurd (omega (arith, same, below, c.if-value-end.false))
