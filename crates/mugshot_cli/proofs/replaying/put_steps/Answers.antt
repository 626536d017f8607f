use Rattle.std.proofs.Common.{◌≡◌, ℕ, List, [], ◌++◌, length, sym, ◌∙◌, ap, arith, subst}
use Rattle.std.proofs.lemmas.Result.{err_from_is_err_and}
use Rattle.std.proofs.lemmas.Grind.{flat_map-append}
use Rattle.capture_engine.specs.Acks.{text_of_lines}
use Rattle.mugshot_cli.specs.Outside.{stream}
use Rattle.mugshot_cli.specs.inner.Lines.{Adds}
use Rattle.mugshot_cli.specs.ThinPage.inner.InputsState.{lines_left}
use Rattle.mugshot_cli.specs.ThinPage.Machine.{State}
use Rattle.mugshot_cli.specs.ThinPage.Tracing.{step_lines}
use Rattle.mugshot_cli.proofs.PrintedLines.{adds_none, adds_then, broke_within, starved_within}
use Rattle.mugshot_cli.proofs.ThinPage.Visits.{lines_at_end, text_around, text_split, traced_end, traced_none, traced_step}
use Rattle.mugshot_cli.proofs.replaying.put_steps.Goals as goal

pub steps-init : goal.steps-init
steps-init g c = ([], traced_none _, adds_none _ (stream g.O.Sink c.args.out.now), omega arith)

pub returns-in-Some-clause-over : goal.returns-in-Some-clause-over
returns-in-Some-clause-over g c = let went = rw c.in-Some.is at c.in_ok-end.ensures in traced_end c.steps.invariant.0 _ _ _ _ c.steps.invariant.1 went.0 went.1

pub returns-in-Some-clause-ok : goal.returns-in-Some-clause-ok
returns-in-Some-clause-ok g c =
    let went = rw c.in-Some.is at c.in_ok-end.ensures in
    subst (λ (l : List ℕ). Adds l c.args.lines.now c.steps.lines (stream g.O.Sink c.args.out.now) (stream g.O.Sink c.steps.out)) (sym (lines_at_end c.steps.invariant.0 _ _ _ c.steps.invariant.1 went.0)) c.steps.invariant.2

pub returns-in_err-end-clause-err : goal.returns-in_err-end-clause-err
returns-in_err-end-clause-err g c =
    let p = err_from_is_err_and c.from_residual.result c.from_residual.ensures.1 in
    rw (p.1, p.2) (starved_within _ _ _ (text_split c.steps.invariant.0 _ _ c.steps.invariant.1) c.steps.invariant.2)

pub steps-preserved : goal.steps-preserved
steps-preserved g c =
    let texts = c.steps.invariant.0 in
    let made = rw c.in_default.is at c.in_ok-end.ensures in
    let turns : c.turns-turns.result ≡ c.steps.run.state.turns = c.turns-turns.ensures ∙ ap (λ (s : State). s.turns) c.page.ensures in
    let count : length c.console-count.result.now ≡ length c.steps.run.state.console = ap length c.console-count.ensures ∙ ap (λ (s : State). length s.console) c.page-in-steps.ensures in
    let added = step_lines c.steps.run.state.turns (length c.steps.run.state.console) c.step.new.self.state in
    let same : step_lines c.turns-turns.result (length c.console-count.result.now) c.page-in-steps-2.result.now ≡ added = (λ i. step_lines (turns i) (count i) (c.page-in-steps-2.ensures i)) in
    let put = c.in_ok-put_step.ensures in
    let whole : text_of_lines (texts ++ added) ≡ text_of_lines texts ++ text_of_lines (step_lines c.turns-turns.result (length c.console-count.result.now) c.page-in-steps-2.result.now) =
    flat_map-append (λ line. line) texts added ∙ ap (λ (l : List (List ℕ)). text_of_lines texts ++ text_of_lines l) (sym same) in (
      texts ++ added,
      traced_step texts _ _ _ c.steps.invariant.1 made,
      subst (λ (l : List ℕ). Adds l c.args.lines.now c.put_step.new.lines (stream g.O.Sink c.args.out.now) (stream g.O.Sink c.put_step.new.out)) (sym whole)
          (adds_then (text_of_lines texts) (text_of_lines (step_lines c.turns-turns.result (length c.console-count.result.now) c.page-in-steps-2.result.now)) c.steps.invariant.2 put.ok),
      omega (arith, c.steps.invariant.3, put.later),
    )

pub returns-in_err-put_step-clause-err : goal.returns-in_err-put_step-clause-err
returns-in_err-put_step-clause-err g c =
    let p = err_from_is_err_and c.from_residual-in_err-put_step.result c.from_residual-in_err-put_step.ensures.1 in
    let texts = c.steps.invariant.0 in
    let made = rw c.in_default.is at c.in_ok-end.ensures in
    let turns : c.turns-turns.result ≡ c.steps.run.state.turns = c.turns-turns.ensures ∙ ap (λ (s : State). s.turns) c.page.ensures in
    let count : length c.console-count.result.now ≡ length c.steps.run.state.console = ap length c.console-count.ensures ∙ ap (λ (s : State). length s.console) c.page-in-steps.ensures in
    let added = step_lines c.steps.run.state.turns (length c.steps.run.state.console) c.step.new.self.state in
    let same : step_lines c.turns-turns.result (length c.console-count.result.now) c.page-in-steps-2.result.now ≡ added = (λ i. step_lines (turns i) (count i) (c.page-in-steps-2.ensures i)) in
    let around = text_around texts _ _ _ c.steps.invariant.1 made in
    rw (p.1, p.2)
    (broke_within (stream g.O.Sink c.put_step.new.out) c.in_err-put_step.field-0.0 _ (text_of_lines texts) (text_of_lines (step_lines c.turns-turns.result (length c.console-count.result.now) c.page-in-steps-2.result.now)) _
    (around ∙ ap (λ (l : List (List ℕ)). text_of_lines texts ++ (text_of_lines l ++ text_of_lines (lines_left c.step.new.self))) (sym same)) c.steps.invariant.2 c.in_err-put_step.ensures.err)
