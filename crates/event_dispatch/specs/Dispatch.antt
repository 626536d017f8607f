-- A dispatch (DOM Standard, 2.9): the turns of the objects in the path, and the calls, as lists.
use Rattle.std.specs.Prelude.{ℕ, Bool, true, false, ◌&&◌, List, [], ◌∷◌, ◌++◌, map, reverse, filter, Option, Some, None, if◌then◌else◌}
use Rattle.std.specs.List.{filter_map, flat_map}
use Rattle.std.specs.Option.{option_map}
use Rattle.js_value.specs.declared.value.ObjId.{ObjId}
use Rattle.event_dispatch.specs.Listeners.{Listener, is_called, is_handler_role, is_own, listener_of}
-- the turn of an object in a pass; a listener of a copied list, by its number; what is called
pub use Rattle.event_dispatch.specs.declared.turn.Turn.{Turn}
pub use Rattle.event_dispatch.specs.declared.turn.Pending.{Pending}
pub use Rattle.event_dispatch.specs.declared.turn.Call.{Call}
pub use Rattle.event_dispatch.specs.declared.turn.Phase.{Phase}
use Rattle.event_dispatch.specs.declared.turn.Phase.TheVariants.{Capturing, AtTarget, Bubbling}
pub use Rattle.event_dispatch.specs.declared.walk.Stop.{Stop}
use Rattle.event_dispatch.specs.declared.walk.Stop.TheVariants.{Go, AfterObject, Now}

abbrev pub turn_in : Phase → ObjId → Turn
turn_in phase o = record { owner = o; phase = phase }

-- the turns of a path, which begins with the target: from the outermost object down, then the
-- target, and then up where the event bubbles
abbrev pub turns_of : List ObjId → Bool → List Turn
turns_of [] bubbles = []
turns_of (target ∷ above) bubbles =
    map (turn_in Capturing) (reverse above) ++ turn_in AtTarget target
    ∷ (if bubbles then map (turn_in Bubbling) above else [])

-- which listeners are called in a phase, and in which order: those for the way down; at the target
-- these and then the others; the others alone
abbrev pub halves : Phase → List Bool
halves Capturing = true ∷ []
halves AtTarget = true ∷ false ∷ []
halves Bubbling = false ∷ []

abbrev pub pending : Phase → Listener → Pending
pending phase l = record { number = l.number; phase = phase }

abbrev pub half : List ℕ → Turn → List Listener → Bool → List Pending
half kind t ls down =
    map (pending t.phase) (filter (λ l. is_own t.owner l && is_called kind down l) ls)

-- the list that is copied when the turn comes: the object's listeners of the type, by their numbers
abbrev pub copied : List ℕ → Turn → List Listener → List Pending
copied kind t ls = flat_map (half kind t ls) (halves t.phase)

-- a dispatch that is going on: the event's type, what is left of the copied list of the object
-- whose turn it is, and the turns to come
pub record Dispatch : Type 0 where
  pub kind : List ℕ
  pub left : List Pending
  pub turns : List Turn

abbrev pub started : List ObjId → List ℕ → Bool → Dispatch
started path kind bubbles = record { kind = kind; left = []; turns = turns_of path bubbles }

-- the stop flags (2.2): `stopPropagation` leaves no turn to come, and `stopImmediatePropagation`
-- nothing at all
abbrev pub stopped : Stop → Dispatch → Dispatch
stopped Go d = d
stopped AfterObject d = record d { turns = [] }
stopped Now d = record d { left = []; turns = [] }

-- the call of a listener of a copied list, as it is now; none where it was removed
abbrev pub call_of : Phase → Listener → Call
call_of phase l = record {
  f = l.f;
  owner = l.owner;
  phase = phase;
  handler = is_handler_role l.role;
}

abbrev pub call_in : List Listener → Pending → Option Call
call_in ls p = option_map (call_of p.phase) (listener_of p.number ls)

-- the first of a copied list that is still there, and those behind it
abbrev pub chosen_first : Option Call → List Pending → Option (Call × List Pending)
    → Option (Call × List Pending)
chosen_first None ps rest = rest
chosen_first (Some c) ps rest = Some (c, ps)

abbrev pub first_call : List Listener → List Pending → Option (Call × List Pending)
first_call ls [] = None
first_call ls (p ∷ ps) = chosen_first (call_in ls p) ps (first_call ls ps)

-- what is called next, and what is left of the dispatch then
pub record Step : Type 0 where
  pub call : Option Call
  pub after : Dispatch

-- nobody is called any more
abbrev pub ended : List ℕ → Step
ended kind = record { call = None; after = record { kind = kind; left = []; turns = [] } }

abbrev pub step_with : Option (Call × List Pending) → List ℕ → List Turn → Step → Step
step_with None kind ts otherwise = otherwise
step_with (Some c) kind ts otherwise = record {
  call = Some c.0;
  after = record { kind = kind; left = c.1; turns = ts };
}

-- the turns that come, one after the other, up to the first in whose copied list there is somebody
-- to call
abbrev pub come : List Listener → List ℕ → List Turn → Step
come ls kind [] = ended kind
come ls kind (t ∷ ts) = step_with (first_call ls (copied kind t ls)) kind ts (come ls kind ts)

-- the next call: of the copied list, and else of the turns to come
abbrev pub step : List Listener → Dispatch → Step
step ls d = step_with (first_call ls d.left) d.kind d.turns (come ls d.kind d.turns)

abbrev pub next : List Listener → Stop → Dispatch → Step
next ls stop d = step ls (stopped stop d)

-- the calls that a dispatch still makes where no listener changes and nothing stops it: the lists,
-- in a row, without those that were removed
abbrev pub calls_left : List Listener → Dispatch → List Call
calls_left ls d = filter_map (call_in ls) (d.left ++ flat_map (λ t. copied d.kind t ls) d.turns)
