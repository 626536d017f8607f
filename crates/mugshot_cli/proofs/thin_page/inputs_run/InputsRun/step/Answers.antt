use Rattle.std.proofs.Common.{refl, sym, arith, ap}
use Rattle.mugshot_cli.specs.ThinPage.inner.InputsState.{ReplayState}
use Rattle.mugshot_cli.proofs.ThinPage.InputsSteps.{over_ends, spent_ends}
use Rattle.mugshot_cli.proofs.thin_page.inputs_run.InputsRun.step.Goals as goal

pub returns-then-is_over : goal.returns-then-is_over
returns-then-is_over c = (over_ends c.args.self.now (sym c.if-is_over.ensures), refl)

pub returns-then-self-eq0 : goal.returns-then-self-eq0
returns-then-self-eq0 c =
    let here = ap (λ (r : ReplayState). r.left) c.self.view_is in
    (spent_ends c.args.self.now (sym c.if-is_over.ensures) (omega arith), refl)
