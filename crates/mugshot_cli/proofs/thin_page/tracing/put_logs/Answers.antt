use Rattle.std.proofs.Common.{◌≡◌, arith, take}
use Rattle.std.proofs.lemmas.List.{take_all}
use Rattle.std.proofs.lemmas.Result.{err_from_is_err_and}
use Rattle.mugshot_cli.specs.Outside.{stream}
use Rattle.mugshot_cli.specs.ThinPage.Tracing.{log_line}
use Rattle.mugshot_cli.proofs.PrintedLines.{adds_more, adds_none, puts_not_at, puts_ok}
use Rattle.mugshot_cli.proofs.thin_page.tracing.put_logs.Goals as goal

pub loop-text-init : goal.loop-text-init
loop-text-init g c = (adds_none _ (stream g.O.Sink c.args.out.now), omega arith)

pub loop-text-preserved : goal.loop-text-preserved
loop-text-preserved g c =
    let put = rw c.as_slice.ensures at c.in_ok-put_log.ensures in
    (adds_more log_line c.args.texts.now c.loop-text.text-index c.text-item.result c.loop-text-test.true c.text-item.is c.loop-text.invariant.0 put.ok, omega (arith, c.loop-text.invariant.1, put.later))

pub returns-in_err-put_log : goal.returns-in_err-put_log
returns-in_err-put_log g c =
    let p = err_from_is_err_and c.from_residual.result c.from_residual.ensures.1 in
    let put = rw c.as_slice.ensures at c.in_err-put_log.ensures in
    rw (p.1, p.2) (puts_not_at log_line c.args.texts.now c.loop-text.text-index c.text-item.result _ c.loop-text-test.true c.text-item.is c.loop-text.invariant.0 c.loop-text.invariant.1 put)

pub returns : goal.returns
returns g c =
    let all : take c.loop-text.text-index c.args.texts.now ≡ c.args.texts.now = take_all c.loop-text.text-index c.args.texts.now (omega arith) in
    puts_ok _ (rw all at c.loop-text.invariant.0) c.loop-text.invariant.1
