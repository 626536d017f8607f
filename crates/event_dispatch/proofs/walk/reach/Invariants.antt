use Rattle.std.proofs.Common.{◌≡◌, drop}
use Rattle.event_dispatch.specs.Dispatch.{come, turns_of}
use Rattle.event_dispatch.proofs.walk.reach.Given as goal

abbrev pub invariant-loop-at : goal.invariant-loop-at
invariant-loop-at l = come l.listeners.listeners l.kind (drop l.done (turns_of l.owners l.bubbles)) ≡ come l.listeners.listeners l.kind (drop l.at (turns_of l.owners l.bubbles))
