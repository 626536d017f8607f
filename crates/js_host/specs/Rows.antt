-- What a host's calls give, as definitions over the heap, the host and the arguments as they are.
use Rattle.std.specs.Prelude.{◌≡◌, ◌<◌, ℕ, List, Bool, Option}
use Rattle.mug_text.specs.declared.limits.TheConstants.{SAFE_END}
use Rattle.js_value.specs.declared.value.NativeId.{NativeId}
use Rattle.js_value.specs.declared.value.ObjId.{ObjId}
use Rattle.js_value.specs.declared.value.Value.{Value}
use Rattle.js_heap.specs.World.{World}
use Rattle.js_host.specs.declared.call.DispatchAt.{DispatchAt}
use Rattle.js_host.specs.declared.call.HostPut.{HostPut}
use Rattle.js_host.specs.declared.call.Input.{Input}
use Rattle.js_host.specs.declared.call.Input.TheVariants as input
use Rattle.js_host.specs.declared.call.Kind.{Kind}
use Rattle.js_host.specs.declared.call.Kind.TheVariants as kind
use Rattle.js_host.specs.declared.call.NativeCall.{NativeCall}
use Rattle.js_host.specs.declared.call.NextCall.{NextCall}
use Rattle.js_host.specs.declared.call.Order.{Order}
use Rattle.js_host.specs.declared.call.Outcome.{Outcome}
use Rattle.js_host.specs.declared.call.Outcome.TheVariants.{Needs}
use Rattle.js_host.specs.declared.call.Resume.{Resume}

-- native: a call of a native. give: the same with the answer to its question. resume: a native goes
-- on with the answer to its callback. get_own, put_own: a property that the host holds of an object
-- is read, or written. start, next: a dispatch begins; its next call, where the last one gave a
-- value. fresh: an event object and its dispatch; none where the object doesn't fit. is_handler:
-- whether a write to the property sets a handler. takes: whether the host takes the order. order:
-- what an order does, and answers.
pub record HostRows (H D : Type 0) : Type 0 where
  pub native : World → H → NativeId → NativeCall → Outcome × World × H
  pub give : World → H → NativeId → NativeCall → Input → Outcome × World × H
  pub resume : World → H → Resume → Value → Outcome × World × H
  pub get_own : World → H → ObjId → List ℕ → Option Value
  pub put_own : World → H → ObjId → List ℕ → Value → HostPut × World × H
  pub start : World → H → DispatchAt → D × World × H
  pub next : World → H → D → Option Value → NextCall × D × World × H
  pub fresh : World → H → ObjId → List ℕ → (bubbles cancelable : Bool)
      → Option DispatchAt × World × H
  pub is_handler : World → H → ObjId → List ℕ → Bool
  pub takes : World → H → Order → Bool
  pub order : World → H → Order → Option Value × World × H

-- what an input answers
abbrev pub kind_of : Input → Kind
kind_of (input.Now t) = kind.Now
kind_of (input.Rand n) = kind.Rand

-- a time is at most 2^53 - 1
abbrev pub IsInput : Input → Type 0
IsInput (input.Now t) = t < SAFE_END
IsInput (input.Rand n) = Unit {0}

-- the native asks what the input answers
abbrev pub IsAsked : {H D : Type 0} → HostRows H D → World → H → NativeId → NativeCall → Input
    → Type 0
IsAsked R w h id c i = (R.native w h id c).0 ≡ Needs (kind_of i)
