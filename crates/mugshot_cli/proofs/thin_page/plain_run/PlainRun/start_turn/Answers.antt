use Rattle.std.proofs.Common.{◌≡◌, ◌∷◌, ℕ, ◌<◌, List, refl, sym, arith, ap, rules, subst}
use Rattle.std.specs.Prelude.{All}
use Rattle.mugshot_cli.specs.ThinPage.Machine.{State}
use Rattle.mug_text.specs.declared.limits.TheConstants.{SAFE_END}
use Rattle.arrival_file.specs.declared.limits.TheConstants.{WORD_END}
use Rattle.mugshot_cli.specs.ThinPage.inner.PlainState.{PlainState}
use Rattle.mugshot_cli.proofs.ThinPage.PlainSteps.{first_range, other_ranges, timely, turn_begins}
use Rattle.mugshot_cli.proofs.thin_page.plain_run.PlainRun.start_turn.Goals as goal

pub returns : goal.returns
returns c =
    let on = c.requires.on.left in
    let here = ap (λ (r : PlainState). r.left) c.self.view_is in
    let all : c.self.inside.arrivals.now ≡ c.in_ok-arrival.arrival.now ∷ c.in_ok-arrival.others.now = search rules in
    let answers : record { t = c.moment-t.result; nows = c.as_slice-self-inside.result.now; rands = c.as_slice-self-inside-2.result.now } ≡ record { t = c.moment-t.result; nows = c.in_ok-arrival.arrival.now.nows; rands = c.in_ok-arrival.arrival.now.rands } =
    (λ i. record { t = c.moment-t.result; nows = c.as_slice-self-inside.ensures i; rands = c.as_slice-self-inside-2.ensures i }) in (
      timely _ _ _ _ all c.self.invariant.4 c.moment-t.ensures,
      omega arith,
      turn_begins _ _ _ c.self.view_is (omega arith) c.in_ok-arrival.arrival.now c.in_ok-arrival.others.now _ c.requires.idle all c.moment-t.ensures c.begin.ensures answers refl,
    )

pub invariant_of-self : goal.invariant_of-self
invariant_of-self c =
    let on = c.requires.on.left in
    let here = ap (λ (r : PlainState). r.left) c.self.view_is in
    let all : c.self.inside.arrivals.now ≡ c.in_ok-arrival.arrival.now ∷ c.in_ok-arrival.others.now = search rules in
    let first = first_range _ _ _ all c.self.invariant.4 in
    let steps = ap (λ (s : State). s.steps) c.begin.ensures in
    let kept = c.self.invariant.0 in (
      omega arith,
      timely _ _ _ _ all c.self.invariant.4 c.moment-t.ensures,
      subst (λ (l : List ℕ). All (λ v. v < SAFE_END) l) (sym c.as_slice-self-inside.ensures) first.nows,
      subst (λ (l : List ℕ). All (λ w. w < WORD_END) l) (sym c.as_slice-self-inside-2.ensures) first.rands,
      other_ranges _ _ _ all c.self.invariant.4,
    )
