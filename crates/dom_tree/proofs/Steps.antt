-- One step up, as code takes it.
use Rattle.std.proofs.Common.{◌≡◌, ◌≢◌, ℕ, ◌<◌, ◌==◌, ◌||◌, ◌∷◌, length, Option, Some, ap, subst, ◌∙◌, arith}
use Rattle.std.specs.List.{list_any}
use Rattle.dom_tree.specs.Nodes.{way_up, Ends}
use Rattle.dom_tree.proofs.Ways.{way_step, Ends_step}
use Rattle.dom_tree.proofs.Kids.{unequal}

module _ (above : ℕ → Option ℕ) (n x : ℕ) (here next : Option ℕ) (here_is : here ≡ Some x) (next_is : above x ≡ next) (ends : Ends above n here) where
  ends_here : Ends above n (Some x)
  ends_here = subst (Ends above n) here_is ends

  one_up : way_up above n here ≡ x ∷ way_up above n next
  one_up = ap (way_up above n) here_is ∙ way_step above n x ends_here ∙ ap (λ o. x ∷ way_up above n o) next_is

  pub up_smaller : length (way_up above n next) < length (way_up above n here)
  up_smaller = let e : length (way_up above n here) ≡ length (x ∷ way_up above n next) = ap length one_up in omega arith

  pub up_ends : Ends above n next
  up_ends = subst (Ends above n) next_is (Ends_step above n x ends_here)

  pub up_same : (wanted : ℕ) → x ≢ wanted → list_any (λ y. y == wanted) (way_up above n here) ≡ list_any (λ y. y == wanted) (way_up above n next)
  up_same wanted apart = ap (list_any (λ y. y == wanted)) one_up ∙ ap (λ b. b || list_any (λ y. y == wanted) (way_up above n next)) (unequal x wanted apart)
