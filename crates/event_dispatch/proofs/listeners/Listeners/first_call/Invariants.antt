use Rattle.std.proofs.Common.{◌≡◌, drop}
use Rattle.event_dispatch.specs.Dispatch.{first_call}
use Rattle.event_dispatch.proofs.listeners.Listeners.first_call.Given as goal

abbrev pub invariant-loop-at : goal.invariant-loop-at
invariant-loop-at l = first_call l.self.listeners l.copy ≡ first_call l.self.listeners (drop l.at l.copy)
