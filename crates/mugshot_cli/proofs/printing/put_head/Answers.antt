use Rattle.std.proofs.Common.{◌∙◌}
use Rattle.std.proofs.lemmas.Result.{err_from_is_err_and}
use Rattle.mugshot_cli.proofs.PrintedLines.{puts_same, puts_starved}
use Rattle.mugshot_cli.proofs.printing.put_head.Goals as goal

pub returns-in_err-line : goal.returns-in_err-line
returns-in_err-line g c =
    let p = err_from_is_err_and c.from_residual.result c.from_residual.ensures.1 in
    rw (p.1, p.2) (puts_starved _ _ _)

pub returns : goal.returns
returns g c = puts_same _ _ (c.deref.ensures.value ∙ c.in_ok-line.ensures) c.put.ensures
