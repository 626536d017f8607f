-- A call on the window.
use Rattle.std.proofs.Common.{◌≡◌, ℕ, ◌<◌, List, [], ◌∷◌, ◌++◌, length, take, drop, refl, ap, sym, subst, arith}
use Rattle.js_value.specs.declared.value.Value.{Value}
use Rattle.js_value.specs.declared.value.Value.TheVariants.{Ref}
use Rattle.js_heap.specs.Closed.{IsThere}
use Rattle.js_heap.specs.World.{World}
use Rattle.js_host.proofs.Lists.{each-append, each-left, each-right}
use Rattle.js_host.specs.There.{AreThere}
use Rattle.js_reference.specs.Puts.{window}
use Rattle.js_term.specs.Evaluation.{Evaluation}
use Rattle.js_control.specs.Calls.{on_window}
use Rattle.js_operands.specs.ExprMoves.{operand_names, values_coming}

-- the window stands behind the callee
pub window_on : (vs : List Value) (v : Value) → 0 < length vs → v ≡ Ref window → (take 1 vs ++ v ∷ []) ++ drop 1 vs ≡ on_window vs
window_on [] v l e = absurd (omega (arith, l))
window_on (f ∷ vs) v l e = ap (λ u. f ∷ u ∷ vs) e

pub none_on : (vs : List Value) → length vs ≡ 0 → take 1 vs ≡ on_window vs
none_on [] e = refl
none_on (f ∷ vs) e = absurd (omega (arith, e))

no_more : (vs : List Value) → vs ++ [] ≡ vs
no_more [] = refl
no_more (v ∷ vs) = ap (λ us. v ∷ us) (no_more vs)

on_there : (w : World) (d xs hs : List Value) → IsThere w (Ref window) → AreThere w ((d ++ xs) ++ hs) → AreThere w ((on_window d ++ []) ++ hs)
on_there w [] xs hs t a = each-right (IsThere w) xs hs a
on_there w (f ∷ vs) xs hs t a =
    let rest : AreThere w (vs ++ hs) = each-append (IsThere w) vs hs (each-left (IsThere w) vs xs (each-left (IsThere w) (vs ++ xs) hs a.1)) (each-right (IsThere w) (vs ++ xs) hs a.1) in
    (a.0, (t, subst (λ us. AreThere w (us ++ hs)) (sym (no_more vs)) rest))

-- what it names is there
pub window_there : (w : World) (e e' : Evaluation) (hs : List Value) → e' ≡ record { done = on_window e.done; todo = [] } → IsThere w (Ref window) → AreThere w (operand_names e hs) → AreThere w (operand_names e' hs)
window_there w e e' hs is t a =
    let P : Evaluation → Type 0 = λ x. AreThere w (operand_names x hs) in
    subst P (sym is) (on_there w e.done (values_coming e.todo) hs t a)
