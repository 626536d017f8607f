use Rattle.std.proofs.Common.{◌≡◌, true, refl}
use Rattle.std.proofs.lemmas.Result.{err_from_is_err_and}
use Rattle.page_inputs.specs.Inputs.{begins_turn}
use Rattle.input_log.specs.Inputs.{logged}
use Rattle.capture_engine.proofs.Logging.{turns_after}
use Rattle.mugshot_cli.proofs.Recordings.{ready_after}
use Rattle.mugshot_cli.proofs.thin_page.recording.begin.Goals as goal

pub returns-in_err-end_turn-clause-halts : goal.returns-in_err-end_turn-clause-halts
returns-in_err-end_turn-clause-halts g c =
    let p = err_from_is_err_and c.from_residual.result c.from_residual.ensures.1 in
    let begins : begins_turn c.args.input.now ≡ true = cc in
    rw (p.1, p.2) (record {
      halted = λ start head all more frames before are.
          let after = turns_after before c.args.input.now more frames refl begins are in
          c.in_err-end_turn.ensures.halts start head before.over (logged before.turn) after.0 frames before.so_far after.1;
    })

pub returns-in_ok-end_turn-clause-begins : goal.returns-in_ok-end_turn-clause-begins
returns-in_ok-end_turn-clause-begins g c =
    let begins : begins_turn c.args.input.now ≡ true = cc in
    record { ready = λ start head all more before. ready_after c.args.input.now more before begins (c.in_ok-end_turn.ensures.ends start head before.over (logged before.turn) before.so_far) }
