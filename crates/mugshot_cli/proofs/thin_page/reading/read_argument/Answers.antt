use Rattle.std.proofs.Common.{◌∙◌, ◌++◌, List, ℕ, ap}
use Rattle.mugshot_cli.specs.declared.thin_page.reading.Argument.TheVariants.{Now, Rand, Number}
use Rattle.mugshot_cli.proofs.ThinPage.Arguments.{argument_ended, no_argument}
use Rattle.mugshot_cli.proofs.thin_page.reading.read_argument.Goals as goal

pub returns-in-Some : goal.returns-in-Some
returns-in-Some c = argument_ended c.args.bytes.now Now c.in-Some.more.now c.ended.result tt tt c.in-Some.ensures c.ended.ensures

pub returns-in-Some-past : goal.returns-in-Some-past
returns-in-Some-past c = argument_ended c.args.bytes.now Rand c.in-Some-past.more.now c.ended-in-Some-past.result tt tt c.in-Some-past.ensures c.ended-in-Some-past.ensures

pub returns-in-Some-decimal_below : goal.returns-in-Some-decimal_below
returns-in-Some-decimal_below c =
    let split = c.split_digits.ensures in
    let number = c.in-Some-decimal_below.ensures.some in
    let more = c.split_digits.result.1.now in
    argument_ended c.args.bytes.now (Number c.in-Some-decimal_below.n) more c.ended-in-Some-decimal_below.result number.0 split.ends (split.whole ∙ ap (λ (l : List ℕ). l ++ more) number.1) c.ended-in-Some-decimal_below.ensures

pub returns-in-None : goal.returns-in-None
returns-in-None c =
    let split = c.split_digits.ensures in
    no_argument c.args.bytes.now c.split_digits.result.0.now c.split_digits.result.1.now c.in_default.ensures c.in_default-past.ensures split.whole split.digits split.ends c.in-None.ensures.none
