-- Plain images: what a heap, a call, an answer and a host are without wraps. Each wrap is replaced
-- by its callee.
use Rattle.std.specs.Prelude.{◌≡◌, ℕ, List, map, Bool, true, Option}
use Rattle.std.specs.Option.{option_map}
use Rattle.js_value.specs.Image.{image}
use Rattle.js_value.specs.declared.value.NativeId.{NativeId}
use Rattle.js_value.specs.declared.value.ObjId.{ObjId}
use Rattle.js_value.specs.declared.value.Value.{Value}
use Rattle.js_heap.specs.World.{Binding, World}
use Rattle.js_heap.specs.declared.object.Object.{Object}
use Rattle.js_table.specs.declared.property.Property.{Property}
use Rattle.js_heap.specs.declared.scope.Scope.{Scope}
use Rattle.js_heap.specs.declared.class.Class.{Class}
use Rattle.js_heap.specs.declared.class.Class.TheVariants as class
use Rattle.js_host.specs.Rows.{HostRows, IsAsked}
use Rattle.js_host.specs.declared.call.Callback.{Callback}
use Rattle.js_host.specs.declared.call.Callback.TheVariants as callback
use Rattle.js_host.specs.declared.call.DispatchAt.{DispatchAt}
use Rattle.js_host.specs.declared.call.HostPut.{HostPut}
use Rattle.js_host.specs.declared.call.HostPut.TheVariants as host_put
use Rattle.js_host.specs.declared.call.Input.{Input}
use Rattle.js_host.specs.declared.call.NativeCall.{NativeCall}
use Rattle.js_host.specs.declared.call.NextCall.{NextCall}
use Rattle.js_host.specs.declared.call.NextCall.TheVariants as next_call
use Rattle.js_host.specs.declared.call.Order.{Order}
use Rattle.js_host.specs.declared.call.Order.TheVariants as order
use Rattle.js_host.specs.declared.call.Outcome.{Outcome}
use Rattle.js_host.specs.declared.call.Outcome.TheVariants as outcome
use Rattle.js_host.specs.declared.call.Resume.{Resume}

abbrev pub plain_class : Class → Class
plain_class (class.Bound b) =
    class.Bound (record { f = image b.f; this = image b.this; args = map image b.args })
plain_class c = c

abbrev pub plain_property : Property → Property
plain_property p = record { name = p.name; value = image p.value; listed = p.listed }

abbrev pub plain_object : Object → Object
plain_object o = record {
  class = plain_class o.class;
  prototype = o.prototype;
  properties = map plain_property o.properties;
}

abbrev pub plain_binding : Binding → Binding
plain_binding b = record { name = b.name; value = image b.value }

abbrev pub plain_scope : Scope → Scope
plain_scope s = record { parent = s.parent; names = map plain_binding s.names }

abbrev pub plain_world : World → World
plain_world w = record { objects = map plain_object w.objects; scopes = map plain_scope w.scopes }

abbrev pub plain_call : NativeCall → NativeCall
plain_call c = record { construct = c.construct; this = image c.this; args = map image c.args }

abbrev pub plain_callback : Callback → Callback
plain_callback (callback.Call f this args) = callback.Call (image f) (image this) (map image args)
plain_callback (callback.Dispatch d) = callback.Dispatch d
plain_callback (callback.Convert text v) = callback.Convert text (image v)

abbrev pub plain_resume : Resume → Resume
plain_resume r = record { id = r.id; stage = r.stage; kept = map image r.kept }

abbrev pub plain_outcome : Outcome → Outcome
plain_outcome (outcome.Value v) = outcome.Value (image v)
plain_outcome (outcome.Throw v) = outcome.Throw (image v)
plain_outcome (outcome.Enter c r) = outcome.Enter (plain_callback c) (plain_resume r)
plain_outcome (outcome.Needs k) = outcome.Needs k
plain_outcome outcome.NoMemory = outcome.NoMemory

abbrev pub plain_put : HostPut → HostPut
plain_put (host_put.Throw v) = host_put.Throw (image v)
plain_put p = p

abbrev pub plain_next : NextCall → NextCall
plain_next (next_call.Call f this event) = next_call.Call (image f) (image this) event
plain_next (next_call.End kept) = next_call.End kept

abbrev pub plain_order : Order → Order
plain_order (order.Uncaught v) = order.Uncaught (image v)
plain_order (order.Handler o x v) = order.Handler o x (image v)
plain_order o = o

-- the plain images of what a host and a dispatch in progress hold
pub record HostImages (H D : Type 0) : Type 0 where
  pub host : H → H
  pub dispatch : D → D

module _ {H D : Type 0} (I : HostImages H D) where
  -- what a call leaves, with the image of what it answers
  abbrev pub plain_after : {A : Type 0} → (A → A) → A × World × H → A × World × H
  plain_after f r = (f r.0, plain_world r.1, I.host r.2)

  abbrev pub plain_dispatch : NextCall × D × World × H → NextCall × D × World × H
  plain_dispatch r = (plain_next r.0, I.dispatch r.1, plain_world r.2, I.host r.3)

  -- each definition commutes with the image: its value for the images is the image of its value
  pub record RowsCommute (R : HostRows H D) : Type 0 where
    pub native : (w : World) (h : H) (id : NativeId) (c : NativeCall)
        → R.native (plain_world w) (I.host h) id (plain_call c)
        ≡ plain_after plain_outcome (R.native w h id c)
    pub give : (w : World) (h : H) (id : NativeId) (c : NativeCall) (i : Input)
        → IsAsked R w h id c i
        → R.give (plain_world w) (I.host h) id (plain_call c) i
        ≡ plain_after plain_outcome (R.give w h id c i)
    pub resume : (w : World) (h : H) (r : Resume) (v : Value)
        → R.resume (plain_world w) (I.host h) (plain_resume r) (image v)
        ≡ plain_after plain_outcome (R.resume w h r v)
    pub get_own : (w : World) (h : H) (o : ObjId) (x : List ℕ)
        → R.get_own (plain_world w) (I.host h) o x ≡ option_map image (R.get_own w h o x)
    pub put_own : (w : World) (h : H) (o : ObjId) (x : List ℕ) (v : Value)
        → R.put_own (plain_world w) (I.host h) o x (image v)
        ≡ plain_after plain_put (R.put_own w h o x v)
    pub start : (w : World) (h : H) (d : DispatchAt)
        → R.start (plain_world w) (I.host h) d ≡ plain_after I.dispatch (R.start w h d)
    pub next : (w : World) (h : H) (d : D) (o : Option Value)
        → R.next (plain_world w) (I.host h) (I.dispatch d) (option_map image o)
        ≡ plain_dispatch (R.next w h d o)
    pub fresh : (w : World) (h : H) (o : ObjId) (x : List ℕ) (bubbles cancelable : Bool)
        → R.fresh (plain_world w) (I.host h) o x bubbles cancelable
        ≡ plain_after (λ d. d) (R.fresh w h o x bubbles cancelable)
    pub is_handler : (w : World) (h : H) (o : ObjId) (x : List ℕ)
        → R.is_handler (plain_world w) (I.host h) o x ≡ R.is_handler w h o x
    pub takes : (w : World) (h : H) (o : Order)
        → R.takes (plain_world w) (I.host h) (plain_order o) ≡ R.takes w h o
    pub order : (w : World) (h : H) (o : Order) → R.takes w h o ≡ true
        → R.order (plain_world w) (I.host h) (plain_order o)
        ≡ plain_after (option_map image) (R.order w h o)
