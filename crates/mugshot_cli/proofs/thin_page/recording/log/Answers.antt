use Rattle.std.proofs.lemmas.Result.{err_from_is_err_and}
use Rattle.input_log.specs.Inputs.{logged}
use Rattle.mugshot_cli.proofs.Recordings.{frames_at, input_logged}
use Rattle.mugshot_cli.proofs.thin_page.recording.log.Goals as goal

pub returns-in_err-log-clause-halts : goal.returns-in_err-log-clause-halts
returns-in_err-log-clause-halts g c =
    let p = err_from_is_err_and c.from_residual-in_err-log.result c.from_residual-in_err-log.ensures.1 in
    rw (p.1, p.2) (record {
      halted = λ start head all more frames before are.
          let ready = c.in_ok-begin.ensures.begins.ready start head all more before in
          let at = frames_at c.args.input.now more ready c.of_input.result c.of_input.ensures frames are in
          c.in_err-log.ensures.halts start head ready.so_far.over (logged ready.so_far.turn) at.0 at.1 frames ready.so_far.so_far at.2;
    })

pub returns-clause-logs : goal.returns-clause-logs
returns-clause-logs g c = record {
  logged = λ start head all more before.
      let ready = c.in_ok-begin.ensures.begins.ready start head all more before in
      input_logged c.args.input.now more ready c.of_input.result c.of_input.ensures (c.in_ok-log.ensures.logs start head ready.so_far.over (logged ready.so_far.turn) ready.so_far.so_far);
}
