use Rattle.std.proofs.Common.{map}
use Rattle.std.proofs.lemmas.Result.{err_from_is_err_and}
use Rattle.input_log.specs.Inputs.{logged}
use Rattle.page_inputs.specs.Turns.{turns}
use Rattle.mugshot_cli.specs.ThinPage.inner.PlainState.{rest_of}
use Rattle.mugshot_cli.proofs.CaptureOutcome.{run_stopped}
use Rattle.mugshot_cli.proofs.Recordings.{finished_frames}
use Rattle.mugshot_cli.proofs.RecordingEnds.{halt_did, inputs_of_frames, start_did}
use Rattle.mugshot_cli.proofs.thin_page.recording.recorded.Goals as goal

pub returns-in_err-recorder : goal.returns-in_err-recorder
returns-in_err-recorder g c =
    let p = err_from_is_err_and c.from_residual.result c.from_residual.ensures.1 in
    let run = rest_of c.args.run.now in
    rw (p.1, p.2) (λ budget. run_stopped c.args.head.now budget run _ _ _ (λ start frames same are.
    start_did _ run frames start _ (c.in_err-recorder.ensures.halted start (map logged (turns run.inputs)) frames same are)))

pub returns-in_err-record_inputs : goal.returns-in_err-record_inputs
returns-in_err-record_inputs g c =
    let p = err_from_is_err_and c.from_residual-in_err-record_inputs.result c.from_residual-in_err-record_inputs.ensures.1 in
    let run = rest_of c.args.run.now in
    rw (p.1, p.2) (λ budget. run_stopped c.args.head.now budget run _ _ _ (λ start frames same are.
    halt_did _ run frames start _ (c.in_err-record_inputs.ensures.halts.halted start c.args.head.now frames (c.in_ok-recorder.ensures.started start same) are)))

pub finish-requires : goal.finish-requires
finish-requires g c = (rest_of c.args.run.now, c.in_ok-record_inputs.ensures.ended)

pub returns : goal.returns
returns g c = λ budget. record {
  recorded = λ start same.
      let run = rest_of c.args.run.now in
      let frames = finished_frames (c.in_ok-record_inputs.ensures.records.recorded start c.args.head.now (c.in_ok-recorder.ensures.started start same)) in
      (frames.0, frames.1, c.finish.ensures.did start run frames.0 _ _ _ budget c.in_ok-record_inputs.ensures.ended (inputs_of_frames c.args.head.now run.inputs frames.0 c.requires.alone frames.1) frames.2);
}
