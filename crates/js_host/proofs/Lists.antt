-- Facts of each element of a list.
use Rattle.std.proofs.Common.{ℕ, zero, suc, List, [], ◌∷◌, ◌++◌, Option, Some, None, slice_get, slice_set}
use Rattle.js_heap.specs.Closed.{Each}

pub each-append : {X : Type 0} (P : X → Type 0) (xs ys : List X) → Each P xs → Each P ys → Each P (xs ++ ys)
each-append P [] ys a b = b
each-append P (x ∷ xs) ys a b = (a.0, each-append P xs ys a.1 b)

pub each-left : {X : Type 0} (P : X → Type 0) (xs ys : List X) → Each P (xs ++ ys) → Each P xs
each-left P [] ys a = tt
each-left P (x ∷ xs) ys a = (a.0, each-left P xs ys a.1)

pub each-right : {X : Type 0} (P : X → Type 0) (xs ys : List X) → Each P (xs ++ ys) → Each P ys
each-right P [] ys a = a
each-right P (x ∷ xs) ys a = each-right P xs ys a.1

pub each-weaker : {X : Type 0} (P Q : X → Type 0) → ((x : X) → P x → Q x) → (xs : List X) → Each P xs → Each Q xs
each-weaker P Q f [] a = tt
each-weaker P Q f (x ∷ xs) a = (f x a.0, each-weaker P Q f xs a.1)

pub each-set : {X : Type 0} (P : X → Type 0) (xs : List X) (n : ℕ) (x : X) → Each P xs → P x → Each P (slice_set xs n x)
each-set P [] n x a b = tt
each-set P (y ∷ xs) zero x a b = (b, a.1)
each-set P (y ∷ xs) (suc n) x a b = (a.0, each-set P xs n x a.1 b)

-- P holds of what is there
abbrev pub GetHas : {X : Type 0} → (X → Type 0) → Option X → Type 0
GetHas P None = Unit {0}
GetHas P (Some x) = P x

pub each-get : {X : Type 0} (P : X → Type 0) (xs : List X) (n : ℕ) → Each P xs → GetHas P (slice_get xs n)
each-get P [] n a = tt
each-get P (x ∷ xs) zero a = a.0
each-get P (x ∷ xs) (suc n) a = each-get P xs n a.1
