-- What is due: the first subterm that isn't a value, from the root, in the order of operands.
use Rattle.std.specs.Prelude.{◌≡◌, List, [], ◌∷◌, ◌++◌, Bool, true, cond, Option, Some, None}
use Rattle.js_value.specs.declared.value.Value.{Value}
use Rattle.js_value.specs.declared.value.Value.TheVariants.{Undefined}
use Rattle.js_term.specs.declared.completion.Completion.{Completion}
use Rattle.js_term.specs.Contraction.{Contraction}
use Rattle.js_term.specs.Contraction.Contraction.{Ends, Stops}
use Rattle.js_term.specs.Frames.{is_due}
use Rattle.js_term.specs.Place.{Place, Placed}
use Rattle.js_term.specs.Place.Place.{Host}
use Rattle.js_term.specs.Table.{Table}
use Rattle.js_term.specs.Term.{Hidden, Term, Terms}
use Rattle.js_term.specs.Term.Term.{Val, Stop, Node, Ready, Hold, Hook}
use Rattle.js_term.specs.Term.Terms.{Nil, Cons}

-- Rests: a node whose first operands are these values, and those behind: none, or those before
-- which an early step comes. Meets: a node that a completion has reached. Before: a node at a
-- hidden function, before its apply. Behind: a hidden function whose apply has brought this value
-- or completion. Hooks: a hook in front of this.
pub data Due (R : Type 0) : Type 0 where
  Rests : R → List Value → Terms R → Due R
  Meets : R → Completion → Due R
  Before : Hidden → R → List Value → Due R
  Behind : Hidden → Term R → Due R
  Hooks : Hidden → Term R → Due R

-- a term is a value or a completion, or this is due in it
pub data Found (R : Type 0) : Type 0 where
  Value_found : Value → Found R
  Stop_found : Completion → Found R
  Due_found : Due R → Found R

-- what is due in a hidden function from its apply on: what is due in what the apply has brought,
-- or the function itself
abbrev pub held : {R : Type 0} → Hidden → Found R → Found R
held f (Value_found v) = Due_found (Behind f (Val v))
held f (Stop_found k) = Due_found (Behind f (Stop k))
held f (Due_found d) = Due_found d

module _ {R H : Type 0} (T : Table R H) where
  -- due: what is due in a term. due_first: what is due in a node, of whose operands these are
  -- values; a node without a step is finished
  unfoldable mutual
    pub due : Term R → Found R
    due (Val v) = Value_found v
    due (Stop k) = Stop_found k
    due (Node r ts) = due_first r [] ts
    due (Ready f r vs) = Due_found (Before f r vs)
    due (Hold f t) = held f (due t)
    due (Hook f t) = Due_found (Hooks f t)

    pub due_first : R → List Value → Terms R → Found R
    due_first r done Nil = cond (T.no_step r) (Value_found Undefined) (Due_found (Rests r done Nil))
    due_first r done (Cons t ts) =
        cond (T.is_early r done) (Due_found (Rests r done (Cons t ts))) (elim (due t) [
          | Value_found v ↦ due_first r (done ++ v ∷ []) ts
          | Stop_found k ↦ Due_found (Meets r k)
          | Due_found d ↦ Due_found d
        ])

-- a contraction makes a step, or asks, exactly where something is due; else it comes to that value
-- or completion
abbrev pub ComesTo : {R H : Type 0} → Found R → Contraction R H → Type 0
ComesTo (Value_found v) o = o ≡ Ends v
ComesTo (Stop_found k) o = o ≡ Stops k
ComesTo (Due_found d) o = is_due o ≡ true

module _ {Q : Type 0} where
  -- where it stands: a node at its own place, a hidden function and a hook in no text
  abbrev pub due_place : Due (Placed Q) → Place
  due_place (Rests r vs ts) = r.place
  due_place (Meets r k) = r.place
  due_place (Before f r vs) = r.place
  due_place (Behind f t) = Host
  due_place (Hooks f t) = Host

  abbrev pub found_place : Found (Placed Q) → Option Place
  found_place (Value_found v) = None
  found_place (Stop_found k) = None
  found_place (Due_found d) = Some (due_place d)

-- the place of what is due in a term, none in a value and in a completion alone
abbrev pub place_of : {Q H : Type 0} → Table (Placed Q) H → Term (Placed Q) → Option Place
place_of T t = found_place (due T t)
