-- Stacks of frames, what term a stack stands for, and the moves on it that cost nothing.
use Rattle.std.specs.Prelude.{List, [], ◌∷◌, ◌++◌, ◌≡◌, Bool, true, false, not, ◌&&◌}
use Rattle.js_value.specs.declared.value.Value.{Value}
use Rattle.js_term.specs.declared.context.Context.{Context}
use Rattle.js_term.specs.Term.{Hidden, Term, after, node, terms}
use Rattle.js_term.specs.Term.Term.{Hold}
use Rattle.js_term.specs.Term.Terms.{Cons}
use Rattle.js_term.specs.Table.{Table}
use Rattle.js_term.specs.Contraction.{Contraction}
use Rattle.js_term.specs.Contraction.Contraction.{Steps, Questions}

-- Waiting: a row with the operands that are values and those that come behind the one which it
-- waits for. Applying: a hidden function during its apply. An operand to come is anything that
-- stands for a term, such as a node of an arena.
pub data Frame (R X : Type 0) : Type 0 where
  Waiting : R → List Value → List X → Frame R X
  Applying : Hidden → Frame R X

-- what stands at the top: Alone: a term. Resting: a row with the operands that are values and those
-- to come, none of which has begun
pub data Focus (R X : Type 0) : Type 0 where
  Alone : Term R → Focus R X
  Resting : R → List Value → List X → Focus R X

module _ {R X : Type 0} (no_step : R → Bool) (term : R → X → Term R) where
  -- a frame around the term which it waits for
  abbrev pub around : Frame R X → Term R → Term R
  around (Waiting r done todo) t = node no_step r (after done (Cons t (terms (term r) todo)))
  around (Applying f) t = Hold f t

  -- a node of whose operands the next has not begun
  abbrev pub resting : R → List Value → List X → Term R
  resting r done todo = node no_step r (after done (terms (term r) todo))

  -- a stack as a term: the lowest frame outermost, and a term at its top
  abbrev pub reading : List (Frame R X) → Term R → Term R
  reading [] t = t
  reading (f ∷ fs) t = around f (reading fs t)

  abbrev pub focus_term : Focus R X → Term R
  focus_term (Alone t) = t
  focus_term (Resting r done todo) = resting r done todo

-- where a frame's operand is evaluated
abbrev pub frame_context : {R X H : Type 0} → Table R H → Frame R X → Context → Context
frame_context T (Waiting r done todo) c = T.inner r c
frame_context T (Applying f) c = c

-- where what stands at the top of a stack is evaluated
abbrev pub context_at : {R X H : Type 0} → Table R H → List (Frame R X) → Context → Context
context_at T [] c = c
context_at T (f ∷ fs) c = context_at T fs (frame_context T f c)

-- behind these values no early step was due before these others were evaluated
abbrev pub passes : {R : Type 0} → (R → List Value → Bool) → R → List Value → List Value → Bool
passes is_early r done [] = true
passes is_early r done (v ∷ vs) = not (is_early r done) && passes is_early r (done ++ v ∷ []) vs

-- a frame waits for an operand that its row evaluates, and has no early step
abbrev pub IsSettled : {R X H : Type 0} → Table R H → Frame R X → Type 0
IsSettled T (Waiting r done todo) =
    (passes T.is_early r [] done ≡ true) × (T.is_early r done ≡ false)
IsSettled T (Applying f) = Unit {0}

abbrev pub AreSettled : {R X H : Type 0} → Table R H → List (Frame R X) → Type 0
AreSettled T [] = Unit {0}
AreSettled T (f ∷ fs) = IsSettled T f × AreSettled T fs

-- a step or a question, in a larger term
abbrev pub carried : {R H : Type 0} → (Term R → Term R) → Contraction R H → Contraction R H
carried f (Steps hidden t w h) = Steps hidden (f t) w h
carried f o = o

-- whether it is a step or a question
abbrev pub is_due : {R H : Type 0} → Contraction R H → Bool
is_due (Steps hidden t w h) = true
is_due (Questions q) = true
is_due o = false
