use Rattle.std.proofs.Common.{◌≡◌, ◌≢◌, ◌≤◌, refl, ◌∙◌, arith, ap}
use Rattle.mugshot_cli.specs.ThinPage.Machine.{runs}
use Rattle.mugshot_cli.specs.ThinPage.inner.InputsState.{ReplayState}
use Rattle.mugshot_cli.proofs.ThinPage.InputsSteps.{ends_as, idle_ends, turn_begins}
use Rattle.mugshot_cli.proofs.thin_page.inputs_run.InputsRun.start_turn.Goals as goal

pub returns-then-turns-gt0 : goal.returns-then-turns-gt0
returns-then-turns-gt0 c =
    let here = ap (λ (r : ReplayState). r.left) c.self.view_is in
    let some : 1 ≤ c.self.inside.left = omega arith in
    let begun : c.self.inside.page.turns ≢ 0 = λ e. absurd (omega arith) in
    let kept : ReplayState = record { left = c.self.inside.left; state = c.self.inside.page; inputs = c.self.inside.inputs.now; consumed = c.self.inside.consumed } in
    ends_as kept _ _ c.self.view_is (idle_ends kept _ some (ap (λ (r : ReplayState). runs r.state.left) c.self.view_is ∙ c.requires.idle) (c.after_turn.ensures c.self.inside.page begun))

pub returns-in-Err : goal.returns-in-Err
returns-in-Err c =
    let here = ap (λ (r : ReplayState). r.left) c.self.view_is in
    let some : 1 ≤ c.self.inside.left = omega arith in
    let first : c.self.inside.page.turns ≡ 0 = omega arith in
    let kept : ReplayState = record { left = c.self.inside.left; state = c.self.inside.page; inputs = c.self.inside.inputs.now; consumed = c.self.inside.consumed } in
    ends_as kept _ _ c.self.view_is (idle_ends kept _ some (ap (λ (r : ReplayState). runs r.state.left) c.self.view_is ∙ c.requires.idle) (c.in-Err.ensures c.self.inside.page first))

pub returns : goal.returns
returns c =
    let here = ap (λ (r : ReplayState). r.left) c.self.view_is in
    let first : c.self.inside.page.turns ≡ 0 = omega arith in
    turn_begins _ _ _ c.self.view_is (omega arith) _ _ c.requires.idle first c.in-Ok.ensures c.begin.ensures refl refl
