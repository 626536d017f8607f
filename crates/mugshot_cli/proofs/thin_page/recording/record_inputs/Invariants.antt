use Rattle.std.proofs.Common.{[], length}
use Rattle.input_log.specs.declared.item.LogItem.{LogItem}
use Rattle.capture_engine.specs.Outside.{Shown, shown}
use Rattle.capture_engine.specs.Recording.{IsRunning, Recorded}
use Rattle.capture_engine.specs.inner.Logging.{Logging}
use Rattle.mugshot_cli.specs.ThinPage.inner.PlainState.{EndsAlike, rest_of}
use Rattle.mugshot_cli.proofs.thin_page.recording.record_inputs.Given as goal

abbrev pub invariant-inputs : goal.invariant-inputs
invariant-inputs g l = record {
  running : IsRunning l.recorder (g.D.Disk.held l.disk);
  alike : EndsAlike (rest_of l.fn.run) (rest_of l.run);
  logging : (start : Shown) (head : LogItem) → Recorded start (shown g.D.Disk g.O.Sink l.fn.disk l.fn.out) head [] [] l.fn.recorder
      → Logging start (shown g.D.Disk g.O.Sink l.disk l.out) head (rest_of l.fn.run).inputs (rest_of l.run).inputs l.recorder;
}

abbrev pub decreases-inputs : goal.decreases-inputs
decreases-inputs g l = length (rest_of l.run).inputs
