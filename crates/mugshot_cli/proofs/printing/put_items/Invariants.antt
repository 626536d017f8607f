use Rattle.std.proofs.Common.{◌≤◌, take}
use Rattle.std.specs.List.{flat_map}
use Rattle.mugshot_cli.specs.Listing.{item_line}
use Rattle.mugshot_cli.specs.Outside.{stream}
use Rattle.mugshot_cli.specs.inner.Lines.{Adds}
use Rattle.mugshot_cli.proofs.printing.put_items.Given as goal

abbrev pub invariant-loop-item : goal.invariant-loop-item
invariant-loop-item g l =
    Adds (flat_map item_line (take l.item-index l.items)) l.fn.lines l.lines (stream g.O.Sink l.fn.out) (stream g.O.Sink l.out) × (g.O.Sink.faults l.fn.out ≤ g.O.Sink.faults l.out)
