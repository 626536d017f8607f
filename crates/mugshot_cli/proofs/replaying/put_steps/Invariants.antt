use Rattle.std.proofs.Common.{◌≤◌, List, ℕ}
use Rattle.capture_engine.specs.Acks.{text_of_lines}
use Rattle.mugshot_cli.specs.Outside.{stream}
use Rattle.mugshot_cli.specs.inner.Lines.{Adds}
use Rattle.mugshot_cli.specs.ThinPage.inner.InputsState.{IsTraced}
use Rattle.mugshot_cli.proofs.replaying.put_steps.Given as goal

abbrev pub invariant-steps : goal.invariant-steps
invariant-steps g l =
    (texts : List (List ℕ)) × IsTraced texts l.fn.run l.run × Adds (text_of_lines texts) l.fn.lines l.lines (stream g.O.Sink l.fn.out) (stream g.O.Sink l.out) × (g.O.Sink.faults l.fn.out ≤ g.O.Sink.faults l.out)

abbrev pub decreases-steps : goal.decreases-steps
decreases-steps g l = l.run.left
