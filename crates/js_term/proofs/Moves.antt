-- A free move changes no term, and makes the stack lighter.
use Rattle.std.specs.Prelude.{ℕ, ◌+◌, ◌<◌, ◌≡◌, refl, true, List, [], ◌∷◌, ◌++◌, Bool}
use Rattle.std.proofs.Common.{ap, arith, sym, ◌∙◌}
use Rattle.js_value.specs.declared.value.Value.{Value}
use Rattle.js_value.specs.declared.value.Value.TheVariants.{Undefined}
use Rattle.js_term.specs.Term.{Term, after, are_values, node, terms}
use Rattle.js_term.specs.Term.Term.{Val}
use Rattle.js_term.specs.Term.Terms.{Nil, Cons}
use Rattle.js_term.specs.Frames.{Frame, focus_term, reading}
use Rattle.js_term.specs.Frames.Frame.{Waiting}
use Rattle.js_term.specs.Operands.{total}
use Rattle.js_term.specs.Moves.{FreeMove, IsAllowed, IsSyntax, Syntax, after_move, before_move, frame_weight, stack_term, stack_weight}
use Rattle.js_term.specs.Moves.FreeMove.{Begin, Take, Finish}
use Rattle.js_term.proofs.Readings.{after-snoc, reading-push}

total-push : {X : Type 0} (f : X → ℕ) (xs : List X) (x : X) → total f (xs ++ x ∷ []) ≡ total f xs + f x
total-push f [] x = omega arith
total-push f (y ∷ xs) x = omega (arith, total-push f xs x)

are_values-after : (R : Type 0) (done : List Value) → are_values {R = R} (after done Nil) ≡ true
are_values-after R [] = refl
are_values-after R (v ∷ vs) = are_values-after R vs

module _ {R X : Type 0} (S : Syntax R X) (no_step : R → Bool) (L : IsSyntax S no_step) where
  abbrev read : List (Frame R X) → Term R → Term R
  read fs t = reading no_step S.term fs t

  abbrev at : R → List Value → Term R → List X → Term R
  at r done t todo = node no_step r (after done (Cons t (terms (S.term r) todo)))

  -- a free move changes no term
  pub move-same : (m : FreeMove R X) → IsAllowed S no_step m → stack_term S no_step (after_move S m) ≡ stack_term S no_step (before_move S m)
  move-same (Begin fs r done x todo) e =
      reading-push no_step S.term fs (Waiting r done todo) (focus_term no_step S.term (S.begins r x))
      ∙ ap (λ t. read fs (at r done t todo)) (L.same r x)
  move-same (Take fs r done v todo) e =
      ap (λ ts. read fs (node no_step r ts)) (after-snoc done v (terms (S.term r) todo))
      ∙ sym (reading-push no_step S.term fs (Waiting r done todo) (Val v))
  move-same (Finish fs r done) e = ap (read fs) (sym (finished r done e))
    where
      finished : (r : R) (done : List Value) → no_step r ≡ true → node no_step r (after done Nil) ≡ Val Undefined
      finished r done e = rw (e, are_values-after R done) refl

  -- and makes the stack lighter
  pub move-lighter : (m : FreeMove R X) → stack_weight S (after_move S m) < stack_weight S (before_move S m)
  move-lighter (Begin fs r done x todo) = omega (arith, total-push (frame_weight S) fs (Waiting r done todo), L.lighter r x)
  move-lighter (Take fs r done v todo) = omega (arith, total-push (frame_weight S) fs (Waiting r done todo))
  move-lighter (Finish fs r done) = omega arith
