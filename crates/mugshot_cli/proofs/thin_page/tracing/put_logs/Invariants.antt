use Rattle.std.proofs.Common.{◌≤◌, take}
use Rattle.std.specs.List.{flat_map}
use Rattle.mugshot_cli.specs.Outside.{stream}
use Rattle.mugshot_cli.specs.inner.Lines.{Adds}
use Rattle.mugshot_cli.specs.ThinPage.Tracing.{log_line}
use Rattle.mugshot_cli.proofs.thin_page.tracing.put_logs.Given as goal

abbrev pub invariant-loop-text : goal.invariant-loop-text
invariant-loop-text g l =
    Adds (flat_map log_line (take l.text-index l.texts)) l.fn.lines l.lines (stream g.O.Sink l.fn.out) (stream g.O.Sink l.out) × (g.O.Sink.faults l.fn.out ≤ g.O.Sink.faults l.out)
