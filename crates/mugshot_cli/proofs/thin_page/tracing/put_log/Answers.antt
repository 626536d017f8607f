use Rattle.std.proofs.Common.{◌++◌, codes}
use Rattle.std.proofs.lemmas.Result.{err_from_is_err_and}
use Rattle.mugshot_cli.proofs.PrintedLines.{puts_failed, puts_then}
use Rattle.mugshot_cli.proofs.thin_page.tracing.put_log.Goals as goal

pub returns-in_err-put : goal.returns-in_err-put
returns-in_err-put g c =
    let p = err_from_is_err_and c.from_residual.result c.from_residual.ensures.1 in
    rw (p.1, p.2) (puts_failed (codes "log ") (c.args.text.now ++ codes "\n") _ c.in_err-put.ensures)

pub returns-in_err-put-2 : goal.returns-in_err-put-2
returns-in_err-put-2 g c =
    let p = err_from_is_err_and c.from_residual-in_err-put-2.result c.from_residual-in_err-put-2.ensures.1 in
    let first = c.in_ok-put.ensures in
    rw (p.1, p.2) (puts_then _ (codes "log ") (c.args.text.now ++ codes "\n") first.ok first.later (puts_failed c.args.text.now (codes "\n") _ c.in_err-put-2.ensures))

pub returns : goal.returns
returns g c =
    let first = c.in_ok-put.ensures in
    let second = c.in_ok-put-2.ensures in
    puts_then c.put-3.result (codes "log ") (c.args.text.now ++ codes "\n") first.ok first.later (puts_then c.put-3.result c.args.text.now (codes "\n") second.ok second.later c.put-3.ensures)
