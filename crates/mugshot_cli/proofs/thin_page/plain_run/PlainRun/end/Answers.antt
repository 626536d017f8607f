use Rattle.std.proofs.Common.{sym, arith, ap}
use Rattle.mugshot_cli.specs.ThinPage.inner.PlainState.{PlainState}
use Rattle.mugshot_cli.proofs.ThinPage.PlainSteps.{finished_ends, spent_ends}
use Rattle.mugshot_cli.proofs.thin_page.plain_run.PlainRun.end.Goals as goal

pub returns-then-is_finished : goal.returns-then-is_finished
returns-then-is_finished c = finished_ends c.args.self.now (sym c.if-is_finished.ensures)

pub returns-then-self-eq0 : goal.returns-then-self-eq0
returns-then-self-eq0 c =
    let here = ap (λ (r : PlainState). r.left) c.self.view_is in
    spent_ends c.args.self.now (sym c.if-is_finished.ensures) (omega arith)
