-- The forms that no text has: a native that waits for its callback, and dispatches (DOM,
-- "Dispatching events").
use Rattle.std.specs.Prelude.{ℕ, List, Bool}
use Rattle.js_value.specs.declared.value.ObjId.{ObjId}
use Rattle.js_host.specs.declared.call.DispatchAt.{DispatchAt}
use Rattle.js_host.specs.declared.call.Resume.{Resume}

-- Native: the callback. Begin: a dispatch that hasn't begun; none. Fresh: one whose event isn't
-- made yet; none. Dispatch: one in progress; none, or the call of a listener.
pub data Form (D : Type 0) : Type 0 where
  Native : Resume → Form D
  Begin : DispatchAt → Form D
  Fresh : (target : ObjId) → (kind : List ℕ) → (bubbles cancelable : Bool) → Form D
  Dispatch : D → Form D
