use Rattle.std.proofs.lemmas.Result.{err_from_is_err_and}
use Rattle.capture_engine.specs.Outside.{shown}
use Rattle.capture_engine.proofs.Records.{starved_fault}
use Rattle.capture_engine.proofs.Recordings.{halted_before, item_logged, starved_at}
use Rattle.capture_engine.proofs.recorder.Recorder.log.Goals as goal

pub returns-in_err-make_room-clause-halts : goal.returns-in_err-make_room-clause-halts
returns-in_err-make_room-clause-halts g c =
    let p = err_from_is_err_and c.from_residual.result c.from_residual.ensures.1 in
    rw (p.1, p.2) (λ start head turns turn more others all before are.
    halted_before (shown g.D.Disk g.O.Sink c.make_room.new.disk c.make_room.new.out) c.in_err-make_room.field-0.0 before c.args.item.now more others are (c.in_err-make_room.ensures.stops start before.frames before.current before.done))

pub returns-in_err-put-clause-halts : goal.returns-in_err-put-clause-halts
returns-in_err-put-clause-halts g c =
    let p = err_from_is_err_and c.from_residual-in_err-put.result c.from_residual-in_err-put.ensures.1 in
    rw (p.1, p.2) (λ start head turns turn more others all before are.
    starved_fault _ c.in_err-put.ensures.starved
    (starved_at before c.args.item.now more others are (c.in_ok-make_room.ensures.makes start before.frames before.current before.done)))

pub returns-clause-logs : goal.returns-clause-logs
returns-clause-logs g c = λ start head turns turn before.
    item_logged before c.args.item.now (c.in_ok-put.ensures.puts start _ _ _ (c.in_ok-make_room.ensures.makes start before.frames before.current before.done))
