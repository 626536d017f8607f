use Rattle.std.proofs.Common.{refl}
use Rattle.js_heap.proofs.Bindings.{value_bound-bindings}
use Rattle.js_heap.proofs.scope.Names.get.Goals as goal

pub returns-in-Some : goal.returns-in-Some
returns-in-Some c = rw (← c.self.view_is, value_bound-bindings, ← c.in-Some.ensures) refl

pub returns-in-None : goal.returns-in-None
returns-in-None c = rw (← c.self.view_is, value_bound-bindings, ← c.in-None.ensures) refl
