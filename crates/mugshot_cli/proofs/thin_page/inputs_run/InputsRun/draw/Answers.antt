use Rattle.std.proofs.Common.{◌≤◌, refl, ◌∙◌, arith, ap}
use Rattle.mugshot_cli.specs.ThinPage.Machine.{asks}
use Rattle.mugshot_cli.specs.ThinPage.inner.InputsState.{ReplayState}
use Rattle.mugshot_cli.proofs.ThinPage.InputsSteps.{draw_ends, draws_word, ends_as}
use Rattle.mugshot_cli.proofs.thin_page.inputs_run.InputsRun.draw.Goals as goal

pub returns-in-Err : goal.returns-in-Err
returns-in-Err c =
    let here = ap (λ (r : ReplayState). r.left) c.self.view_is in
    let some : 1 ≤ c.self.inside.left = omega arith in
    let kept : ReplayState = record { left = c.self.inside.left; state = c.self.inside.page; inputs = c.self.inside.inputs.now; consumed = c.self.inside.consumed } in
    ends_as kept _ _ c.self.view_is (draw_ends kept _ some (ap (λ (r : ReplayState). asks r.state.left) c.self.view_is ∙ c.requires.asks) c.in-Err.ensures)

pub returns : goal.returns
returns c =
    let here = ap (λ (r : ReplayState). r.left) c.self.view_is in
    draws_word _ _ _ c.self.view_is (omega arith) _ _ c.requires.asks c.in-Ok.ensures c.in_ok-step.ensures.ok refl refl
