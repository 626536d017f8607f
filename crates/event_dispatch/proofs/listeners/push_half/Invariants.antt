use Rattle.std.proofs.Common.{◌≡◌, ◌++◌, filter, map, take}
use Rattle.event_dispatch.specs.Dispatch.{pending}
use Rattle.event_dispatch.specs.Listeners.{is_called}
use Rattle.event_dispatch.specs.inner.Places.{at_places}
use Rattle.event_dispatch.proofs.listeners.push_half.Given as goal

abbrev pub invariant-loop-place : goal.invariant-loop-place
invariant-loop-place l = l.copy.items ≡ l.initial.copy.items ++ map (pending l.phase) (filter (is_called l.kind l.down) (at_places l.entries (take l.place-index l.places)))
