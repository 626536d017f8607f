use Rattle.std.proofs.Common.{[], ◌∷◌, inl, inr}
use Rattle.std.proofs.lemmas.Result.{err_from_is_err_and}
use Rattle.capture_engine.specs.Outside.{Shown, shown}
use Rattle.capture_engine.specs.Recording.{Committed, Unmade}
use Rattle.capture_engine.specs.inner.Grouping.{turns_grouped}
use Rattle.capture_engine.proofs.Records.{from_start, halted_at, starved, starved_fault}
use Rattle.capture_engine.proofs.Recordings.{head_alone, head_of_all}
use Rattle.capture_engine.proofs.recorder.Recorder.start.Goals as goal

pub returns-in_err-recorder-clause-halted : goal.returns-in_err-recorder-clause-halted
returns-in_err-recorder-clause-halted g c =
    let p = err_from_is_err_and c.from_residual.result c.from_residual.ensures.1 in
    rw (p.1, p.2) (λ start turns all before are.
    inl (from_start start (shown g.D.Disk g.O.Sink c.args.disk.now c.args.out.now) before (λ (s : Shown). Unmade c.in_err-recorder.field-0.0 s (shown g.D.Disk g.O.Sink c.create.new.disk c.args.out.now))
    (c.in_err-recorder.ensures.unmade (g.O.Sink.taken c.args.out.now) start.disk start.out (g.O.Sink.faults c.args.out.now) before.disk_later)))

pub returns-in_err-put-clause-halted : goal.returns-in_err-put-clause-halted
returns-in_err-put-clause-halted g c =
    let p = err_from_is_err_and c.from_residual-in_err-put.result c.from_residual-in_err-put.ensures.1 in
    rw (p.1, p.2) (λ start turns all before are.
    inr (starved_fault _ c.in_err-put.ensures.starved
    (starved (from_start start (shown g.D.Disk g.O.Sink c.args.disk.now c.args.out.now) before (λ (s : Shown). Committed s (shown g.D.Disk g.O.Sink c.create.new.disk c.args.out.now) [] [] c.in_ok-recorder.recorder)
    (c.in_ok-recorder.ensures.made (g.O.Sink.taken c.args.out.now) start.disk start.out (g.O.Sink.faults c.args.out.now) before.disk_later before.out_later)) all ((c.args.head.now ∷ []) ∷ turns_grouped turns) (head_of_all c.args.head.now turns all are))))

pub returns-in_err-flush-clause-halted : goal.returns-in_err-flush-clause-halted
returns-in_err-flush-clause-halted g c =
    let p = err_from_is_err_and c.from_residual-in_err-flush.result c.from_residual-in_err-flush.ensures.1 in
    rw (p.1, p.2) (λ start turns all before are.
    inr (halted_at c.in_err-flush.field-0.0 start _ [] (turns_grouped turns) all (c.args.head.now ∷ []) (head_of_all c.args.head.now turns all are)
    (c.in_err-flush.ensures.stops start [] (c.args.head.now ∷ []) (c.in_ok-put.ensures.puts start _ [] []
    (from_start start (shown g.D.Disk g.O.Sink c.args.disk.now c.args.out.now) before (λ (s : Shown). Committed s (shown g.D.Disk g.O.Sink c.create.new.disk c.args.out.now) [] [] c.in_ok-recorder.recorder)
    (c.in_ok-recorder.ensures.made (g.O.Sink.taken c.args.out.now) start.disk start.out (g.O.Sink.faults c.args.out.now) before.disk_later before.out_later)))).1))

pub returns-clause-started : goal.returns-clause-started
returns-clause-started g c = λ start before.
    head_alone c.args.head.now
    (c.in_ok-flush.ensures.commits start [] (c.args.head.now ∷ []) (c.in_ok-put.ensures.puts start _ [] []
    (from_start start (shown g.D.Disk g.O.Sink c.args.disk.now c.args.out.now) before (λ (s : Shown). Committed s (shown g.D.Disk g.O.Sink c.create.new.disk c.args.out.now) [] [] c.in_ok-recorder.recorder)
    (c.in_ok-recorder.ensures.made (g.O.Sink.taken c.args.out.now) start.disk start.out (g.O.Sink.faults c.args.out.now) before.disk_later before.out_later))))
