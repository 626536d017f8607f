-- The properties that a host gives to objects of its own: nodes, requests, events, and the window.
use Rattle.std.specs.Prelude.{ℕ, Bool, List, Option}
use Rattle.js_value.specs.declared.value.ObjId.{ObjId}
use Rattle.js_value.specs.declared.value.Value.{Value}
use Rattle.js_heap.specs.World.{World}

-- what a host does with a write: it is none of its properties, or it takes the value, or throws
-- another
pub data HostWrite (H : Type 0) : Type 0 where
  NotHost : HostWrite H
  Took : World → H → HostWrite H
  Refused : Value → World → H → HostWrite H

-- get: the value of a host property. put: a write to one. sets_handler: a write there sets a
-- handler.
pub record OwnProperties (H : Type 0) : Type 0 where
  pub get : World → H → ObjId → List ℕ → Option Value
  pub put : World → H → ObjId → List ℕ → Value → HostWrite H
  pub sets_handler : World → H → ObjId → List ℕ → Bool
