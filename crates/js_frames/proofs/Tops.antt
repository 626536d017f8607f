-- The last of a list, and all before it.
use Rattle.std.proofs.Common.{◌≡◌, ℕ, ◌+◌, ◌-◌, ◌<◌, ◌≤◌, ◌==◌, false}
use Rattle.std.proofs.Common.{List, [], ◌∷◌, ◌++◌, Some, get_or, length, slice_get, refl}
use Rattle.std.proofs.Common.{ap, sym, ◌∙◌, arith}
use Rattle.std.specs.Prelude.{slice_set}
use Rattle.std.proofs.lemmas.List.{length_push, set_at, take_all, take_at, take_more}
use Rattle.std.proofs.lemmas.Option.{get_or_from_slice_get, slice_get-get_or, slice_get_within}
use Rattle.js_frames.specs.Reading.{last}
use Rattle.js_frames.specs.inner.Advances.{front}

at-length : {X : Type 0} (xs : List X) (x : X) → slice_get (xs ++ x ∷ []) (length xs) ≡ Some x
at-length [] x = refl
at-length (y ∷ xs) x = at-length xs x

pub last-push : {X : Type 0} (xs : List X) (x : X) → last (xs ++ x ∷ []) ≡ Some x
last-push xs x =
    let e : length (xs ++ x ∷ []) - 1 ≡ length xs = omega (arith, length_push xs x) in
    ap (slice_get (xs ++ x ∷ [])) e ∙ at-length xs x

pub front-push : {X : Type 0} (xs : List X) (x : X) → front (xs ++ x ∷ []) ≡ xs
front-push xs x = take_at xs (x ∷ []) (length (xs ++ x ∷ []) - 1) (omega
    (arith, length_push xs x))

pub push-view : {X : Type 0} (xs : List X) (x : X) → last xs ≡ Some x
    → xs ≡ front xs ++ x ∷ []
push-view xs x e =
    let within : length xs - 1 < length xs = slice_get_within xs (length xs - 1) x e in
    let n : length xs ≤ (length xs - 1) + 1 = omega (arith, within) in
    sym (take_all ((length xs - 1) + 1) xs n)
    ∙ (take_more xs (length xs - 1) x within
    ∙ ap (λ y. front xs ++ y ∷ []) (get_or_from_slice_get xs (length xs - 1) x x e))

pub front-length : {X : Type 0} (xs : List X) (x : X) → last xs ≡ Some x → length
    (front xs) ≡ length xs - 1
front-length xs x e =
    let seen : length xs ≡ length (front xs ++ x ∷ []) = ap length (push-view xs x e) in
    omega (arith, seen, length_push (front xs) x)

-- where the last is written
pub last-written : {X : Type 0} (g : X → X) (xs : List X) (n : ℕ) (x f y : X)
    → n ≡ length xs → last xs ≡ Some f
    → x ≡ get_or xs (n - 1) x → y ≡ g x → slice_set xs (n - 1) y ≡ front xs ++ g f ∷
    []
last-written g xs n x f y e is found given =
    let same : x ≡ f =
    found ∙ (ap (λ k. get_or xs (k - 1) x) e ∙ get_or_from_slice_get xs
    (length xs - 1) f x is) in
    let written : slice_set (front xs ++ f ∷ []) (n - 1) (g f) ≡ front xs ++ g f ∷ [] =
    set_at (front xs) f [] (g f) (n - 1) (omega (arith, front-length xs f is, e)) in
    ap (slice_set xs (n - 1)) (given ∙ ap g same)
    ∙ (ap (λ ys. slice_set ys (n - 1) (g f)) (push-view xs f is) ∙ written)

-- a list that isn't empty has a last one
pub last-there : {X : Type 0} (xs : List X) (n : ℕ) → n ≡ length xs → (n == 0) ≡ false →
    (x : X) × (last xs ≡ Some x)
last-there [] n e some = cc
last-there (x ∷ xs) n e some = (
  get_or (x ∷ xs) (length (x ∷ xs) - 1) x,
  slice_get-get_or
      (x ∷ xs) (length (x ∷ xs) - 1) x (omega arith),
)
