use Rattle.std.proofs.Common.{◌≡◌, find, take, None}
use Rattle.event_dispatch.specs.Listeners.{is_callback}
use Rattle.event_dispatch.specs.inner.Places.{at_places}
use Rattle.event_dispatch.proofs.listeners.callback_among.Given as goal

abbrev pub invariant-loop-place : goal.invariant-loop-place
invariant-loop-place l = find (is_callback l.kind l.f l.capture) (at_places l.entries (take l.place-index l.places)) ≡ None
