use Rattle.std.proofs.Common.{◌≡◌, []}
use Rattle.std.proofs.lemmas.Result.{err_from_is_err_and}
use Rattle.input_log.specs.Inputs.{logged}
use Rattle.capture_engine.proofs.Logging.{logging_done, logging_start, no_turns_after}
use Rattle.mugshot_cli.specs.ThinPage.inner.PlainState.{rest_of, run_end}
use Rattle.mugshot_cli.proofs.ThinPage.PlainSteps.{alike_same, alike_then, ends_in, none_at_end}
use Rattle.mugshot_cli.proofs.Recordings.{logging_same, starved_in}
use Rattle.mugshot_cli.proofs.thin_page.recording.record_inputs.Goals as goal

pub inputs-init : goal.inputs-init
inputs-init g c = record {
  running = c.requires.running;
  alike = alike_same (rest_of c.args.run.now);
  logging = λ start head before. logging_start (rest_of c.args.run.now).inputs before;
}

pub inputs-preserved : goal.inputs-preserved
inputs-preserved g c =
    let got = rw c.in-Some.is at c.in_ok-input.ensures in
    record {
      running = c.in_ok-log.ensures.running;
      alike = alike_then _ _ _ c.inputs.invariant.alike got.1.alike;
      logging = λ start head before. c.in_ok-log.ensures.logs.logged start head _ (rest_of c.next.new.self).inputs (logging_same (c.inputs.invariant.logging start head before) _ got.1.inputs_are);
    }

pub returns-in_err-input-clause-halts : goal.returns-in_err-input-clause-halts
returns-in_err-input-clause-halts g c =
    let p = err_from_is_err_and c.from_residual.result c.from_residual.ensures.1 in
    rw (p.1, p.2) (record { halted = λ start head frames before are. starved_in (c.inputs.invariant.logging start head before) frames are })

pub returns-in_err-log-clause-halts : goal.returns-in_err-log-clause-halts
returns-in_err-log-clause-halts g c =
    let p = err_from_is_err_and c.from_residual-in_err-log.result c.from_residual-in_err-log.ensures.1 in
    let got = rw c.in-Some.is at c.in_ok-input.ensures in
    rw (p.1, p.2) (record {
      halted = λ start head frames before are.
          let so_far = logging_same (c.inputs.invariant.logging start head before) _ got.1.inputs_are in
          c.in_err-log.ensures.halts.halted start head _ (rest_of c.next.new.self).inputs frames so_far are;
    })

pub returns-in_err-end_turn-clause-halts : goal.returns-in_err-end_turn-clause-halts
returns-in_err-end_turn-clause-halts g c =
    let p = err_from_is_err_and c.from_residual-in_err-end_turn.result c.from_residual-in_err-end_turn.ensures.1 in
    let got = rw c.in_default.is at c.in_ok-input.ensures in
    let none : (rest_of c.inputs.run).inputs ≡ [] = none_at_end _ (rest_of c.next.new.self) _ (run_end got.1.0) got.0 got.1.1 in
    rw (p.1, p.2) (record {
      halted = λ start head frames before are.
          let so_far = c.inputs.invariant.logging start head before in
          c.in_err-end_turn.ensures.halts start head so_far.over (logged so_far.turn) [] frames so_far.so_far (no_turns_after so_far frames none are);
    })

pub returns-clause-records : goal.returns-clause-records
returns-clause-records g c =
    let got = rw c.in_default.is at c.in_ok-input.ensures in
    let none : (rest_of c.inputs.run).inputs ≡ [] = none_at_end _ (rest_of c.next.new.self) _ (run_end got.1.0) got.0 got.1.1 in
    record {
      recorded = λ start head before.
          let so_far = c.inputs.invariant.logging start head before in
          logging_done so_far none (c.in_ok-end_turn.ensures.ends start head so_far.over (logged so_far.turn) so_far.so_far);
    }

pub returns-clause-ended : goal.returns-clause-ended
returns-clause-ended g c =
    let got = rw c.in_default.is at c.in_ok-input.ensures in
    ends_in _ _ (run_end got.1.0) (alike_then _ _ _ c.inputs.invariant.alike got.0.alike) got.1.1
