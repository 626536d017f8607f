-- What is due at the top of a stack is due in the term that the stack stands for.
use Rattle.std.specs.Prelude.{List, [], ◌∷◌, ◌++◌, Bool, true, false, cond, Option, Some, None, ◌&&◌, ◌≡◌, refl}
use Rattle.std.proofs.Common.{ap, sym, ◌∙◌, append_assoc}
use Rattle.std.proofs.lemmas.List.{append-nil}
use Rattle.js_value.specs.declared.value.Value.{Value}
use Rattle.js_value.specs.declared.value.Value.TheVariants.{Undefined}
use Rattle.js_term.specs.declared.completion.Completion.{Completion}
use Rattle.js_term.specs.Term.{Hidden, Term, Terms, after, are_values, is_value, node, terms}
use Rattle.js_term.specs.Term.Term.{Val, Stop, Node, Ready, Hold, Hook}
use Rattle.js_term.specs.Term.Terms.{Nil, Cons}
use Rattle.js_term.specs.Due.{Due, Found, due, due_first, found_place, held, place_of}
use Rattle.js_term.specs.Due.Due.{Rests, Meets}
use Rattle.js_term.specs.Due.Found.{Value_found, Stop_found, Due_found}
use Rattle.js_term.specs.Frames.{AreSettled, Frame, IsSettled, around, passes, reading}
use Rattle.js_term.specs.Frames.Frame.{Waiting, Applying}
use Rattle.js_term.specs.Place.{Place, Placed}
use Rattle.js_term.specs.Table.{Table}
use Rattle.js_term.proofs.Readings.{node-open, not_early, passed}

module _ {R H : Type 0} (T : Table R H) where
  -- operands that are values are passed over
  due-after : (r : R) (done vs : List Value) (ts : Terms R) → passes T.is_early r done vs ≡ true
      → due_first T r done (after vs ts) ≡ due_first T r (done ++ vs) ts
  unfolding due
  due-after r done [] ts e = ap (λ vs. due_first T r vs ts) (sym (append-nil done))
  due-after r done (v ∷ vs) ts e =
      ap (λ b. cond b (Due_found (Rests r done (Cons (Val v) (after vs ts)))) (due_first T r (done ++ v ∷ []) (after vs ts)))
      (not_early T (T.is_early r done) (passes T.is_early r (done ++ v ∷ []) vs) e)
      ∙ (due-after r (done ++ v ∷ []) vs ts (passed T (T.is_early r done) (passes T.is_early r (done ++ v ∷ []) vs) e)
      ∙ ap (λ us. due_first T r us ts) (append_assoc done (v ∷ []) vs))

  abbrev operand_due : R → List Value → Terms R → Found R → Found R
  operand_due r done ts o = elim o as (λ _. Found R) [
    | Value_found v ↦ due_first T r (done ++ v ∷ []) ts
    | Stop_found k ↦ Due_found (Meets r k)
    | Due_found d ↦ Due_found d
  ]

  due-operand : (r : R) (done : List Value) (t : Term R) (ts : Terms R) → T.is_early r done ≡ false
      → due_first T r done (Cons t ts) ≡ operand_due r done ts (due T t)
  unfolding due
  due-operand r done t ts e = ap (λ b. cond b (Due_found (Rests r done (Cons t ts))) (operand_due r done ts (due T t))) e

  no_value_due : (t : Term R) (d : Due R) → due T t ≡ Due_found d → is_value t ≡ false
  unfolding due
  no_value_due (Val v) d e = cc
  no_value_due (Stop k) d e = refl
  no_value_due (Node r ts) d e = refl
  no_value_due (Ready f r vs) d e = refl
  no_value_due (Hold f t) d e = refl
  no_value_due (Hook f t) d e = refl

  due-node : (r : R) (done : List Value) (t : Term R) (ts : Terms R) (d : Due R)
      → passes T.is_early r [] done ≡ true → T.is_early r done ≡ false → due T t ≡ Due_found d
      → due T (node T.no_step r (after done (Cons t ts))) ≡ Due_found d
  unfolding due
  due-node r done t ts d a b e =
      ap (due T) (node-open T r done t ts (no_value_due t d e))
      ∙ (due-after r [] done (Cons t ts) a ∙ (due-operand r done t ts b ∙ ap (operand_due r done ts) e))

  -- a node whose operands are values
  pub due-values : (r : R) (done : List Value) → T.no_step r ≡ false → passes T.is_early r [] done ≡ true
      → due T (node T.no_step r (after done Nil)) ≡ Due_found (Rests r done Nil)
  unfolding due
  due-values r done e a =
      ap (due T) (ap (λ b. cond (b && are_values {R = R} (after done Nil)) (Val Undefined) (Node r (after done Nil))) e)
      ∙ (due-after r [] done Nil a ∙ ap (λ b. cond b (Value_found Undefined) (Due_found (Rests r done Nil))) e)

  -- a node whose first operands call for an early step
  pub due-early : (r : R) (done : List Value) (t : Term R) (ts : Terms R)
      → T.no_step r ≡ false → passes T.is_early r [] done ≡ true → T.is_early r done ≡ true
      → due T (node T.no_step r (after done (Cons t ts))) ≡ Due_found (Rests r done (Cons t ts))
  unfolding due
  due-early r done t ts e a b =
      ap (due T) (ap (λ b. cond (b && are_values {R = R} (after done (Cons t ts))) (Val Undefined) (Node r (after done (Cons t ts)))) e)
      ∙ (due-after r [] done (Cons t ts) a
      ∙ ap (λ b. cond b (Due_found (Rests r done (Cons t ts))) (operand_due r done ts (due T t))) b)

  -- a node that a completion has reached
  pub due-stop : (r : R) (done : List Value) (k : Completion) (ts : Terms R)
      → passes T.is_early r [] done ≡ true → T.is_early r done ≡ false
      → due T (node T.no_step r (after done (Cons (Stop k) ts))) ≡ Due_found (Meets r k)
  unfolding due
  due-stop r done k ts a b =
      ap (due T) (node-open T r done (Stop k) ts refl)
      ∙ (due-after r [] done (Cons (Stop k) ts) a ∙ due-operand r done (Stop k) ts b)

  module _ {X : Type 0} (term : R → X → Term R) where
    due-around : (f : Frame R X) (t : Term R) (d : Due R) → IsSettled T f → due T t ≡ Due_found d
        → due T (around T.no_step term f t) ≡ Due_found d
    unfolding due
    due-around (Waiting r done todo) t d a e = due-node r done t (terms (term r) todo) d a.0 a.1 e
    due-around (Applying f) t d a e = ap (held f) e

    pub due-reading : (fs : List (Frame R X)) (t : Term R) (d : Due R) → AreSettled T fs → due T t ≡ Due_found d
        → due T (reading T.no_step term fs t) ≡ Due_found d
    due-reading [] t d a e = e
    due-reading (f ∷ fs) t d a e = due-around f (reading T.no_step term fs t) d a.0 (due-reading fs t d a.1 e)

module _ {Q X H : Type 0} (T : Table (Placed Q) H) (term : Placed Q → X → Term (Placed Q)) where
  found-reading : (fs : List (Frame (Placed Q) X)) (t : Term (Placed Q)) (o : Found (Placed Q)) (p : Place) → AreSettled T fs
      → due T t ≡ o → found_place o ≡ Some p → place_of T (reading T.no_step term fs t) ≡ Some p
  found-reading fs t (Value_found v) p a g e = cc
  found-reading fs t (Stop_found k) p a g e = cc
  found-reading fs t (Due_found d) p a g e = ap found_place (due-reading T term fs t d a g) ∙ e

  pub place-reading : (fs : List (Frame (Placed Q) X)) (t : Term (Placed Q)) (p : Place) → AreSettled T fs
      → place_of T t ≡ Some p → place_of T (reading T.no_step term fs t) ≡ Some p
  place-reading fs t p a e = found-reading fs t (due T t) p a refl e
