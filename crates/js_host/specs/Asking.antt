-- Which calls of a host ask, and that each answers.
use Rattle.std.specs.Prelude.{◌≡◌, ℕ, List, Bool, true, false, Some}
use Rattle.js_value.specs.declared.value.NativeId.{NativeId}
use Rattle.js_value.specs.declared.value.ObjId.{ObjId}
use Rattle.js_value.specs.declared.value.Value.{Value}
use Rattle.js_heap.specs.World.{World}
use Rattle.js_host.specs.Natives.{asked_by}
use Rattle.js_host.specs.Rows.{HostRows, IsAsked}
use Rattle.js_host.specs.declared.call.HostPut.{HostPut}
use Rattle.js_host.specs.declared.call.HostPut.TheVariants as host_put
use Rattle.js_host.specs.declared.call.Input.{Input}
use Rattle.js_host.specs.declared.call.NativeCall.{NativeCall}
use Rattle.js_host.specs.declared.call.Order.TheVariants.{Handler, Uncaught}
use Rattle.js_host.specs.declared.call.Outcome.{Outcome}
use Rattle.js_host.specs.declared.call.Outcome.TheVariants as outcome
use Rattle.js_host.specs.declared.call.Resume.{Resume}

-- the native goes on: it asks nothing
abbrev pub goes_on : Outcome → Bool
goes_on (outcome.Needs k) = false
goes_on outcome.NoMemory = false
goes_on o = true

abbrev pub is_value : Outcome → Bool
is_value (outcome.Value v) = true
is_value o = false

-- a definition doesn't run out of memory
abbrev pub is_put : HostPut → Bool
is_put host_put.NoMemory = false
is_put p = true

-- a question is one that the table has at the native, and changes nothing
abbrev pub AsksOnly : {H : Type 0} → NativeId → World → H → Outcome → World → H → Type 0
AsksOnly id w h (outcome.Needs k) w' h' = (asked_by id.number ≡ Some k) × (w' ≡ w) × (h' ≡ h)
AsksOnly id w h outcome.NoMemory w' h' = ⊥
AsksOnly id w h o w' h' = Unit {0}

-- a write to what is none of the host's properties does nothing
abbrev pub PutsNothing : {H : Type 0} → World → H → HostPut → World → H → Type 0
PutsNothing w h host_put.NotHost w' h' = (w' ≡ w) × (h' ≡ h)
PutsNothing w h p w' h' = Unit {0}

module _ {H D : Type 0} where
  -- Only `native` asks. Where it does, the answer brings a value. Each host takes the throw that
  -- nothing caught, and a function for each property that sets a handler.
  pub record RowsAnswer (R : HostRows H D) : Type 0 where
    pub native : (w : World) (h : H) (id : NativeId) (c : NativeCall)
        → AsksOnly id w h (R.native w h id c).0 (R.native w h id c).1 (R.native w h id c).2
    pub give : (w : World) (h : H) (id : NativeId) (c : NativeCall) (i : Input)
        → IsAsked R w h id c i → is_value (R.give w h id c i).0 ≡ true
    pub resume : (w : World) (h : H) (r : Resume) (v : Value) → goes_on (R.resume w h r v).0 ≡ true
    pub put_own : (w : World) (h : H) (o : ObjId) (x : List ℕ) (v : Value)
        → is_put (R.put_own w h o x v).0 ≡ true
    pub unheld : (w : World) (h : H) (o : ObjId) (x : List ℕ) (v : Value)
        → PutsNothing w h (R.put_own w h o x v).0 (R.put_own w h o x v).1 (R.put_own w h o x v).2
    pub uncaught : (w : World) (h : H) (v : Value) → R.takes w h (Uncaught v) ≡ true
    pub handler : (w : World) (h : H) (o : ObjId) (x : List ℕ) (v : Value)
        → R.is_handler w h o x ≡ true → R.takes w h (Handler o x v) ≡ true
