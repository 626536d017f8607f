use Rattle.std.proofs.lemmas.Result.{err_from_is_err_and}
use Rattle.capture_engine.specs.Outside.{shown}
use Rattle.capture_engine.proofs.Recordings.{halted_at_end, turn_ended}
use Rattle.capture_engine.proofs.recorder.Recorder.end_turn.Goals as goal

pub returns-in_err-flush-clause-halts : goal.returns-in_err-flush-clause-halts
returns-in_err-flush-clause-halts g c =
    let p = err_from_is_err_and c.from_residual.result c.from_residual.ensures.1 in
    rw (p.1, p.2) (λ start head turns turn others all before are.
    halted_at_end (shown g.D.Disk g.O.Sink c.flush.new.disk c.flush.new.out) c.in_err-flush.field-0.0 before others are (c.in_err-flush.ensures.stops start before.frames before.current before.done))

pub returns-clause-ends : goal.returns-clause-ends
returns-clause-ends g c = λ start head turns turn before. turn_ended before (c.in_ok-flush.ensures.commits start before.frames before.current before.done)
