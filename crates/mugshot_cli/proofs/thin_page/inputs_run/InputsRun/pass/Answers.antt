use Rattle.std.proofs.Common.{refl, arith, ap}
use Rattle.mugshot_cli.specs.ThinPage.inner.InputsState.{ReplayState}
use Rattle.mugshot_cli.proofs.ThinPage.InputsSteps.{passes}
use Rattle.mugshot_cli.proofs.thin_page.inputs_run.InputsRun.pass.Goals as goal

pub returns : goal.returns
returns c =
    let here = ap (λ (r : ReplayState). r.left) c.self.view_is in
    passes _ _ _ c.self.view_is (omega arith) c.requires.busy c.requires.asks c.in_ok-step.ensures.ok refl (omega arith)
