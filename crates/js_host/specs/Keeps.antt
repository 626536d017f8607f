-- What no call of a host does: it changes no scope and no object's class, makes no function, names
-- nothing that isn't there, and brings out no native that asks.
use Rattle.std.specs.Prelude.{◌≡◌, ℕ, List, [], ◌∷◌, ◌++◌, Bool, true, false, not, Option, Some}
use Rattle.std.specs.Prelude.{None, slice_get}
use Rattle.js_value.specs.declared.value.Callee.{Callee}
use Rattle.js_value.specs.declared.value.HidId.{HidId}
use Rattle.js_value.specs.declared.value.NativeId.{NativeId}
use Rattle.js_value.specs.declared.value.ObjId.{ObjId}
use Rattle.js_value.specs.declared.value.Value.{Value}
use Rattle.js_value.specs.declared.value.Value.TheVariants as value
use Rattle.js_value.specs.Image.{is_primitive, value_of}
use Rattle.js_heap.specs.Roots.{id_of, root_number}
use Rattle.js_heap.specs.World.{Binding, World, classes}
use Rattle.js_heap.specs.declared.object.Object.{Object}
use Rattle.js_table.specs.declared.property.Property.{Property}
use Rattle.js_heap.specs.declared.scope.Scope.{Scope}
use Rattle.js_heap.specs.declared.class.Class.{Class}
use Rattle.js_heap.specs.declared.class.Class.TheVariants as class
use Rattle.js_heap.specs.declared.root.Root.{Root}
use Rattle.js_host.specs.Names.{call_names, dispatch_names, fresh_names, next_names, option_names}
use Rattle.js_host.specs.Names.{order_names, outcome_names, put_names, resume_names}
use Rattle.js_host.specs.Natives.{asks}
use Rattle.js_host.specs.Rows.{HostRows, IsAsked}
use Rattle.js_heap.specs.Closed.{Each}
use Rattle.js_host.specs.declared.call.DispatchAt.{DispatchAt}
use Rattle.js_host.specs.declared.call.HostPut.{HostPut}
use Rattle.js_host.specs.declared.call.Input.{Input}
use Rattle.js_host.specs.declared.call.NativeCall.{NativeCall}
use Rattle.js_host.specs.declared.call.NextCall.{NextCall}
use Rattle.js_host.specs.declared.call.Order.{Order}
use Rattle.js_host.specs.declared.call.Outcome.{Outcome}
use Rattle.js_host.specs.declared.call.Resume.{Resume}

-- what a bound function holds
abbrev pub class_names : Class → List Value
class_names (class.Bound b) = b.f ∷ b.this ∷ b.args
class_names c = []

-- a prototype counts as a reference to it
abbrev pub prototype_names : Option ObjId → List Value
prototype_names None = []
prototype_names (Some p) = value.Ref p ∷ []

module _ (P : Value → Type 0) where
  pub record ObjectHas (o : Object) : Type 0 where
    pub class : Each P (class_names o.class)
    pub prototype : Each P (prototype_names o.prototype)
    pub properties : Each (λ p. P p.value) o.properties

  abbrev pub ScopeHas : Scope → Type 0
  ScopeHas s = Each (λ b. P b.value) s.names

  -- P holds of every value that a world names
  pub record WorldHas (w : World) : Type 0 where
    pub objects : Each ObjectHas w.objects
    pub scopes : Each ScopeHas w.scopes

-- a test of values, which may look at the classes of the objects
abbrev pub Test : Type 0
Test = List Class → Value → Bool

abbrev pub Passes : Test → World → Value → Type 0
Passes ok w v = ok (classes w) v ≡ true

-- a reference to an object that a heap holds from the start
abbrev pub root_value : Root → Value
root_value r = value.Ref (id_of (root_number r))

-- the values that a world names pass, and so do those that its heap holds from the start, and these
pub record AllPass (ok : Test) (w : World) (vs : List Value) : Type 0 where
  pub world : WorldHas (Passes ok w) w
  pub roots : (r : Root) → Passes ok w (root_value r)
  pub values : Each (Passes ok w) vs

-- the classes that a call may give a new object: no function's, and no native's that asks
abbrev pub is_made : Class → Bool
is_made (class.Function c) = false
is_made (class.Builtin (Some n)) = not (asks n.number)
is_made c = true

abbrev pub IsMade : Class → Type 0
IsMade c = is_made c ≡ true

-- The tests that calls keep. Primitive values pass, natives that don't ask, objects of a class that
-- a call may make, and wraps of what passes; and what passes still does when more objects are made.
pub record Lasting (ok : Test) : Type 0 where
  pub primitive : (cs : List Class) (v : Value) → is_primitive v ≡ true → ok cs v ≡ true
  pub native : (cs : List Class) (n : NativeId) → asks n.number ≡ false
      → ok cs (value.Native n) ≡ true
  pub made : (cs : List Class) (o : ObjId) (c : Class) → slice_get cs o.number ≡ Some c → IsMade c
      → ok cs (value.Ref o) ≡ true
  pub wrap : (cs : List Class) (f : HidId) (c : Callee) → ok cs (value_of c) ≡ true
      → ok cs (value.Wrap f c) ≡ true
  pub more : (cs ds : List Class) (v : Value) → Each IsMade ds → ok cs v ≡ true
      → ok (cs ++ ds) v ≡ true

-- a world after another: numbers of objects only rise, no scope and no object's class changes, and
-- no function is made
pub record Grows (w w' : World) : Type 0 where
  pub added : List Class
  pub made : Each IsMade added
  pub objects : classes w' ≡ classes w ++ added
  pub scopes : w'.scopes ≡ w.scopes

-- from a world and values to a world and values
pub record Keeps (w : World) (vs : List Value) (w' : World) (rs : List Value) : Type 0 where
  pub grows : Grows w w'
  pub passes : (ok : Test) → Lasting ok → AllPass ok w vs → AllPass ok w' rs

-- the values that a host and a dispatch in progress hold
pub record HostNames (H D : Type 0) : Type 0 where
  pub host : H → List Value
  pub dispatch : D → List Value

module _ {H D : Type 0} (N : HostNames H D) where
  abbrev pub KeepsOutcome : World → List Value → Outcome × World × H → Type 0
  KeepsOutcome w vs r = Keeps w vs r.1 (outcome_names r.0 (N.host r.2))

  abbrev pub KeepsPut : World → List Value → HostPut × World × H → Type 0
  KeepsPut w vs r = Keeps w vs r.1 (put_names r.0 (N.host r.2))

  abbrev pub KeepsStart : World → List Value → D × World × H → Type 0
  KeepsStart w vs r = Keeps w vs r.1 (N.dispatch r.0 ++ N.host r.2)

  abbrev pub KeepsNext : World → List Value → NextCall × D × World × H → Type 0
  KeepsNext w vs r = Keeps w vs r.2 (next_names r.0 (N.dispatch r.1 ++ N.host r.3))

  abbrev pub KeepsFresh : World → List Value → Option DispatchAt × World × H → Type 0
  KeepsFresh w vs r = Keeps w vs r.1 (fresh_names r.0 (N.host r.2))

  abbrev pub KeepsValue : World → List Value → Option Value × World × H → Type 0
  KeepsValue w vs r = Keeps w vs r.1 (option_names r.0 (N.host r.2))

  module _ (R : HostRows H D) where
    -- what each call keeps, given what it names and what the host holds
    pub record RowsKeep : Type 0 where
      pub native : (w : World) (h : H) (id : NativeId) (c : NativeCall)
          → KeepsOutcome w (call_names c (N.host h)) (R.native w h id c)
      pub give : (w : World) (h : H) (id : NativeId) (c : NativeCall) (i : Input)
          → IsAsked R w h id c i
          → KeepsOutcome w (call_names c (N.host h)) (R.give w h id c i)
      pub resume : (w : World) (h : H) (r : Resume) (v : Value)
          → KeepsOutcome w (v ∷ resume_names r (N.host h)) (R.resume w h r v)
      pub get_own : (w : World) (h : H) (o : ObjId) (x : List ℕ)
          → Keeps w (value.Ref o ∷ N.host h) w (option_names (R.get_own w h o x) (N.host h))
      pub put_own : (w : World) (h : H) (o : ObjId) (x : List ℕ) (v : Value)
          → KeepsPut w (value.Ref o ∷ v ∷ N.host h) (R.put_own w h o x v)
      pub start : (w : World) (h : H) (d : DispatchAt)
          → KeepsStart w (dispatch_names d (N.host h)) (R.start w h d)
      pub next : (w : World) (h : H) (d : D) (o : Option Value)
          → KeepsNext w (option_names o (N.dispatch d ++ N.host h)) (R.next w h d o)
      pub fresh : (w : World) (h : H) (o : ObjId) (x : List ℕ) (bubbles cancelable : Bool)
          → KeepsFresh w (value.Ref o ∷ N.host h) (R.fresh w h o x bubbles cancelable)
      pub order : (w : World) (h : H) (o : Order) → R.takes w h o ≡ true
          → KeepsValue w (order_names o (N.host h)) (R.order w h o)
