use Rattle.std.proofs.Common.{[], refl}
use Rattle.std.proofs.lemmas.Result.{err_from_is_err_and}
use Rattle.mugshot_cli.proofs.PrintedLines.{puts_lost, puts_then, puts_written}
use Rattle.mugshot_cli.proofs.lines.Lines.put_long.Goals as goal

pub returns-in_err-write_whole : goal.returns-in_err-write_whole
returns-in_err-write_whole g c =
    let p = err_from_is_err_and c.from_residual-in_err-write_whole.result c.from_residual-in_err-write_whole.ensures.1 in
    let flushed = c.in_ok-flush.ensures in
    rw (p.1, p.2)
    (puts_then _ [] c.args.text.now flushed.puts.ok flushed.puts.later (puts_lost c.args.text.now _ flushed.none c.in_err-write_whole.ensures.err (c.in_err-write_whole.ensures.cause.rose refl) c.in_err-write_whole.ensures.cause.later))

pub returns : goal.returns
returns g c =
    let flushed = c.in_ok-flush.ensures in
    puts_then _ [] c.args.text.now flushed.puts.ok flushed.puts.later (puts_written _ c.args.text.now flushed.none flushed.none c.in_ok-write_whole.ensures.ok c.in_ok-write_whole.ensures.cause.later)
