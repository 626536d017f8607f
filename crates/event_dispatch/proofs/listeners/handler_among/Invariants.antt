use Rattle.std.proofs.Common.{◌≡◌, find, take, None}
use Rattle.event_dispatch.specs.Listeners.{is_handler}
use Rattle.event_dispatch.specs.inner.Places.{at_places}
use Rattle.event_dispatch.proofs.listeners.handler_among.Given as goal

abbrev pub invariant-loop-place : goal.invariant-loop-place
invariant-loop-place l = find (is_handler l.kind) (at_places l.entries (take l.place-index l.places)) ≡ None
