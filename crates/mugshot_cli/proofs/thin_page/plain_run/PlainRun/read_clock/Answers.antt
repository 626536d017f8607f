use Rattle.std.proofs.Common.{ℕ, List, refl, arith, ap}
use Rattle.mug_text.specs.declared.limits.TheConstants.{SAFE_END}
use Rattle.mugshot_cli.specs.ThinPage.inner.PlainState.{PlainState}
use Rattle.mugshot_cli.proofs.ThinPage.PlainSteps.{first_below, reads_clock}
use Rattle.mugshot_cli.proofs.thin_page.plain_run.PlainRun.read_clock.Goals as goal

pub returns : goal.returns
returns c =
    let on = c.requires.on.left in
    let here = ap (λ (r : PlainState). r.left) c.self.view_is in
    let kept = c.self.invariant in (
      first_below (SAFE_END) c.self.inside.t _ c.self.inside.nows.now c.next_now-v.ensures.first kept.1 kept.2,
      omega arith,
      reads_clock _ _ _ c.self.view_is (omega arith) refl _ c.requires.busy c.requires.asks c.next_now-v.ensures.first c.in_ok-step.ensures.ok
          (ap (λ (l : List ℕ). record { t = c.self.inside.t; nows = l; rands = c.self.inside.rands.now }) c.next_now-v.ensures.others),
    )
