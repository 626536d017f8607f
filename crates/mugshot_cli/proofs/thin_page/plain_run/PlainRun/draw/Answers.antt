use Rattle.std.proofs.Common.{ℕ, List, refl, arith, ap}
use Rattle.arrival_file.specs.declared.limits.TheConstants.{WORD_END}
use Rattle.mugshot_cli.specs.ThinPage.inner.PlainState.{PlainState}
use Rattle.mugshot_cli.proofs.ThinPage.PlainSteps.{first_below, draws_word}
use Rattle.mugshot_cli.proofs.thin_page.plain_run.PlainRun.draw.Goals as goal

pub returns : goal.returns
returns c =
    let on = c.requires.on.left in
    let here = ap (λ (r : PlainState). r.left) c.self.view_is in
    let kept = c.self.invariant in (
      first_below (WORD_END) 0 _ c.self.inside.rands.now c.next_rand-w.ensures.first (omega arith) kept.3,
      omega arith,
      draws_word _ _ _ c.self.view_is (omega arith) refl _ c.requires.busy c.requires.asks c.next_rand-w.ensures.first c.in_ok-step.ensures.ok
          (ap (λ (l : List ℕ). record { t = c.self.inside.t; nows = c.self.inside.nows.now; rands = l }) c.next_rand-w.ensures.others),
    )
