-- The listeners of a page (DOM Standard, 2.7, "event listener list", and HTML Standard, 8.1.8.1,
-- "event handlers"): those of all objects in one list, in the order of adding.
use Rattle.std.specs.Prelude.{ℕ, suc, ◌+◌, ◌≤◌, Bool, true, false, not, ◌&&◌, ◌==◌, List, [], ◌∷◌, ◌++◌, map, filter, find, Option, Some, None, if◌then◌else◌}
use Rattle.std.specs.Option.{option_map, option_map_or}
use Rattle.js_value.specs.Callable.{callable_value}
use Rattle.js_value.specs.Same.{same, text_equal}
use Rattle.js_value.specs.declared.callable.Callable.{Callable}
use Rattle.js_value.specs.declared.value.ObjId.{ObjId}
use Rattle.js_value.specs.declared.value.Value.{Value}
-- a listener: its number, the object that it belongs to, the type of the events for which it is
-- called, what it calls, and what it was added as
pub use Rattle.event_dispatch.specs.declared.listener.Listener.{Listener}
pub use Rattle.event_dispatch.specs.declared.listener.Role.{Role}
use Rattle.event_dispatch.specs.declared.listener.Role.TheVariants.{Capture, Bubble, Handler}

-- how many were added so far, and those that are there, in the order of adding
pub record ListenerList : Type 0 where
  pub given : ℕ
  pub listeners : List Listener

-- the numbers of the listeners rise, from the first on, and all are below the second
abbrev pub RiseWithin : ℕ → ℕ → List Listener → Type 0
RiseWithin first end [] = first ≤ end
RiseWithin first end (l ∷ ls) = (first ≤ l.number) × RiseWithin (suc l.number) end ls

-- each listener has a number of its own, which was given, and they stand in the order of these
abbrev pub HasOwnNumbers : ListenerList → Type 0
HasOwnNumbers q = RiseWithin 0 q.given q.listeners

abbrev pub no_listeners : ListenerList
no_listeners = record { given = 0; listeners = [] }

abbrev pub role_of : Bool → Role
role_of true = Capture
role_of false = Bubble

abbrev pub is_role : Bool → Role → Bool
is_role capture Capture = capture
is_role capture Bubble = not capture
is_role capture Handler = false

abbrev pub is_handler_role : Role → Bool
is_handler_role Capture = false
is_handler_role Bubble = false
is_handler_role Handler = true

-- called on the way down, or else on the way up, as handlers are
abbrev pub is_half_role : Bool → Role → Bool
is_half_role down Capture = down
is_half_role down Bubble = not down
is_half_role down Handler = not down

abbrev pub is_half : Bool → Listener → Bool
is_half down l = is_half_role down l.role

-- it belongs to this object
abbrev pub is_own : ObjId → Listener → Bool
is_own o l = l.owner.number == o.number

-- it is called for events of this type
abbrev pub is_of : List ℕ → Listener → Bool
is_of kind l = text_equal l.kind kind

-- it is called for events of this type on this half of the way
abbrev pub is_called : List ℕ → Bool → Listener → Bool
is_called kind down l = is_of kind l && is_half down l

-- equal by type, callback and capture, and no handler; a wrap is equal to what it calls
abbrev pub is_callback : List ℕ → Value → Bool → Listener → Bool
is_callback kind f capture l =
    is_of kind l && (is_role capture l.role && same (callable_value l.f) f)

abbrev pub is_handler : List ℕ → Listener → Bool
is_handler kind l = is_of kind l && is_handler_role l.role

-- the first listener of the object that passes the test, and its number
abbrev pub own_one : ObjId → (Listener → Bool) → ListenerList → Option Listener
own_one o test q = find (λ l. is_own o l && test l) q.listeners

abbrev pub own_number : ObjId → (Listener → Bool) → ListenerList → Option ℕ
own_number o test q = option_map (λ l. l.number) (own_one o test q)

-- one more listener, behind the others, with the next number
abbrev pub appended : ObjId → List ℕ → Callable → Role → ListenerList → ListenerList
appended o kind f role q = record {
  given = q.given + 1;
  listeners =
      q.listeners ++ record { number = q.given; owner = o; kind = kind; f = f; role = role } ∷ [];
}

-- without the listener of this number
abbrev pub without : ℕ → ListenerList → ListenerList
without n q = record q { listeners = filter (λ l. not (l.number == n)) q.listeners }

-- the same listener, with another function to call
abbrev pub with_f : Callable → Listener → Listener
with_f f l = record l { f = f }

-- the listener of this number calls another function, in its place
abbrev pub replaced : ℕ → Callable → ListenerList → ListenerList
replaced n f q = record q {
  listeners = map (λ l. if l.number == n then with_f f l else l) q.listeners;
}

-- `addEventListener` (DOM Standard, 2.7): nothing, where an equal one is there
abbrev pub added : ObjId → List ℕ → Callable → Bool → ListenerList → ListenerList
added o kind f capture q =
    let equal = own_number o (is_callback kind (callable_value f) capture) q in
    option_map_or (λ n. q) equal (appended o kind f (role_of capture) q)

-- `removeEventListener` (2.7): without the equal one
abbrev pub removed : ObjId → List ℕ → Value → Bool → ListenerList → ListenerList
removed o kind f capture q =
    option_map_or (λ n. without n q) (own_number o (is_callback kind f capture) q) q

-- a handler is set (HTML Standard, 8.1.8.1): null takes it away, another function takes its place,
-- and a first one comes behind the others
abbrev pub handler_set : ObjId → List ℕ → Option Callable → ListenerList → ListenerList
handler_set o kind None q =
    option_map_or (λ n. without n q) (own_number o (is_handler kind) q) q
handler_set o kind (Some f) q =
    let set = own_number o (is_handler kind) q in
    option_map_or (λ n. replaced n f q) set (appended o kind f Handler q)

-- what the handler of the object and the type calls
abbrev pub handler_of : ObjId → List ℕ → ListenerList → Option Callable
handler_of o kind q = option_map (λ l. l.f) (own_one o (is_handler kind) q)

-- the listener of this number, as it is
abbrev pub listener_of : ℕ → List Listener → Option Listener
listener_of n ls = find (λ l. l.number == n) ls
