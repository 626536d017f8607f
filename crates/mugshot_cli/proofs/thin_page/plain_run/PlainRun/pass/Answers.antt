use Rattle.std.proofs.Common.{refl, arith, ap}
use Rattle.mugshot_cli.specs.ThinPage.inner.PlainState.{PlainState}
use Rattle.mugshot_cli.proofs.ThinPage.PlainSteps.{passes}
use Rattle.mugshot_cli.proofs.thin_page.plain_run.PlainRun.pass.Goals as goal

pub returns : goal.returns
returns c =
    let on = c.requires.on.left in
    let here = ap (λ (r : PlainState). r.left) c.self.view_is in
    (omega arith, passes _ _ _ c.self.view_is (omega arith) refl c.requires.busy c.requires.asks c.in_ok-step.ensures.ok refl)
