-- Chains of what stands in a list, each leading to one before it: prototypes (ECMA-262 edition 5.1,
-- 8.6.2) and the scopes around a scope (10.2.1.1).
use Rattle.std.specs.Prelude.{◌≡◌, ℕ, zero, suc, ◌<◌, List, [], ◌∷◌, Option, Some, None, slice_get}

-- the number, if there is one, is below
abbrev pub IsBelow : ℕ → Option ℕ → Type 0
IsBelow n None = Unit {0}
IsBelow n (Some m) = m < n

module _ {X : Type 0} (next : X → Option ℕ) where
  -- each leads to one before it
  abbrev pub LeadsBack : List X → Type 0
  LeadsBack xs = (n : ℕ) (x : X) → slice_get xs n ≡ Some x → IsBelow n (next x)

  abbrev pub link : ℕ → (Option ℕ → List ℕ) → Option X → List ℕ
  link n rest None = []
  link n rest (Some x) = n ∷ rest (next x)

  abbrev pub chain_to : ℕ → List X → Option ℕ → List ℕ
  chain_to zero xs p = []
  chain_to (suc k) xs None = []
  chain_to (suc k) xs (Some n) = link n (chain_to k xs) (slice_get xs n)

  -- the number, then the one that it leads to, and so on: at most one more than the first says
  abbrev pub chain : List X → Option ℕ → List ℕ
  chain xs None = []
  chain xs (Some n) = chain_to (suc n) xs (Some n)

  -- a chain is its first number, and then the chain of what that one leads to
  abbrev pub LeadsOn : List X → Type 0
  LeadsOn xs = (n : ℕ) (x : X) → slice_get xs n ≡ Some x → chain xs (Some n) ≡ n ∷ chain xs (next x)

abbrev pub or_else : {A : Type 0} → Option A → Option A → Option A
or_else (Some a) o = Some a
or_else None o = o

-- the first that the function gives along the list
abbrev pub first_some : {A B : Type 0} → (A → Option B) → List A → Option B
first_some f [] = None
first_some f (x ∷ xs) = or_else (f x) (first_some f xs)
