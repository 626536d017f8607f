use Rattle.std.proofs.Common.{subst}
use Rattle.event_dispatch.specs.Listeners.{HasOwnNumbers}
use Rattle.event_dispatch.proofs.Numbers.{own_numbers}
use Rattle.event_dispatch.proofs.listeners.Listeners.given.Goals as goal

pub returns-clause-numbers : goal.returns-clause-numbers
returns-clause-numbers c = subst HasOwnNumbers c.self.view_is (own_numbers c.self.inside.entries.items c.self.invariant.numbered)
