use Rattle.std.proofs.Common.{refl}
use Rattle.std.proofs.lemmas.Result.{err_from_is_err_and}
use Rattle.mugshot_cli.proofs.RecordingEnds.{ended_did, line_lost}
use Rattle.mugshot_cli.proofs.thin_page.recording.finish.Goals as goal

pub returns-in_err-write : goal.returns-in_err-write
returns-in_err-write g c =
    let p = err_from_is_err_and c.from_residual.result c.from_residual.ensures.1 in
    rw (p.1, p.2) (record {
      did = λ start whole frames held moment disk budget ended count so_far.
          line_lost so_far budget whole c.last_line.result (c.last_line.ensures whole frames ended count so_far.inputs_are so_far.frames_are) _ _ (c.in_err-write.ensures.cause.rose refl) c.in_err-write.ensures.less;
    })

pub returns : goal.returns
returns g c = record {
  did = λ start whole frames held moment disk budget ended count so_far.
      ended_did so_far budget whole c.last_line.result (c.last_line.ensures whole frames ended count so_far.inputs_are so_far.frames_are) c.end_of.result (c.end_of.ensures whole ended) _ (g.O.Sink.faults c.write.new.out) c.in_ok-write.ensures.ok;
}
