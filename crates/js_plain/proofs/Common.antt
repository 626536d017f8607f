-- Choices, optional values and lists commute with functions.
use Rattle.std.proofs.Common.{◌≡◌, ℕ, zero, suc, List, [], ◌∷◌, Bool, true, false}
use Rattle.std.proofs.Common.{Option, Some}
use Rattle.std.proofs.Common.{None, cond, filter, is_some, map, slice_get, slice_set}
use Rattle.std.proofs.Common.{if◌then◌else◌}
use Rattle.std.proofs.Common.{refl, ap, ◌∙◌}
use Rattle.std.specs.Option.{option_map, option_map_or}
use Rattle.js_heap.specs.Chains.{chain, chain_to, first_some, link, or_else}

pub if-ap : {A B : Type 0} (f : A → B) (b : Bool) (x y : A)
    → (if b then f x else f y) ≡ f (if b then x else y)
if-ap f true x y = refl
if-ap f false x y = refl

-- both arms and the choice
pub if-same : {A : Type 0} (a b : Bool) (x y u v : A) → a ≡ b → x ≡ u → y ≡ v
    → (if a then x else y) ≡ (if b then u else v)
if-same a b x y u v e p q =
    ap (λ k. if k then x else y) e
    ∙ (ap (λ z. if b then z else y) p ∙ ap (λ z. if b then u else z) q)

pub map-or : {A B C : Type 0} (f : A → B) (g : B → C) (d : C) (o : Option A)
    → option_map_or g (option_map f o) d ≡ option_map_or (λ a. g (f a)) o d
map-or f g d (Some a) = refl
map-or f g d None = refl

-- a function of what is there, that commutes
pub or-along : {A B C E : Type 0} (f : A → B) (g : B → C) (h : A → E) (k : E → C) (d : E)
    → ((a : A) → g (f a) ≡ k (h a)) → (o : Option A)
    → option_map_or g (option_map f o) (k d) ≡ k (option_map_or h o d)
or-along f g h k d e (Some a) = e a
or-along f g h k d e None = refl

-- a function that is the same of what is there
pub or-same : {A B C : Type 0} (f : A → B) (g : B → C) (h : A → C) (d : C)
    → ((a : A) → g (f a) ≡ h a) → (o : Option A)
    → option_map_or g (option_map f o) d ≡ option_map_or h o d
or-same f g h d e (Some a) = e a
or-same f g h d e None = refl

pub option-twice : {A B C : Type 0} (f : A → B) (g : B → C) (o : Option A)
    → option_map g (option_map f o) ≡ option_map (λ a. g (f a)) o
option-twice f g (Some a) = refl
option-twice f g None = refl

pub option-same : {A B : Type 0} (f g : A → B) → ((a : A) → f a ≡ g a) → (o : Option A)
    → option_map f o ≡ option_map g o
option-same f g e (Some a) = ap Some (e a)
option-same f g e None = refl

pub is_some-map : {A B : Type 0} (f : A → B) (o : Option A) → is_some
    (option_map f o) ≡ is_some o
is_some-map f (Some a) = refl
is_some-map f None = refl

filter-one : {A B : Type 0} (f : A → B) (b : Bool) (a : A) (xs : List A)
    → cond b (f a ∷ map f xs) (map f xs) ≡ map f (cond b (a ∷ xs) xs)
filter-one f true a xs = refl
filter-one f false a xs = refl

pub filter-map : {A B : Type 0} (f : A → B) (p : B → Bool) (q : A → Bool)
    → ((a : A) → p (f a) ≡ q a) → (xs : List A) → filter p (map f xs) ≡ map f
    (filter q xs)
filter-map f p q e [] = refl
filter-map f p q e (x ∷ xs) =
    ap (λ b. cond b (f x ∷ filter p (map f xs)) (filter p (map f xs))) (e x)
    ∙ (ap (λ l. cond (q x) (f x ∷ l) l) (filter-map f p q e xs) ∙ filter-one f (q x) x
    (filter q xs))

pub set-map : {A B : Type 0} (f : A → B) (xs : List A) (n : ℕ) (a : A)
    → slice_set (map f xs) n (f a) ≡ map f (slice_set xs n a)
set-map f [] n a = refl
set-map f (x ∷ xs) zero a = refl
set-map f (x ∷ xs) (suc n) a = ap (λ l. f x ∷ l) (set-map f xs n a)

pub get-map : {A B : Type 0} (f : A → B) (xs : List A) (n : ℕ)
    → slice_get (map f xs) n ≡ option_map f (slice_get xs n)
get-map f [] n = refl
get-map f (x ∷ xs) zero = refl
get-map f (x ∷ xs) (suc n) = get-map f xs n

pub map-same : {A B C : Type 0} (f : A → B) (g : B → C) (h : A → C) → ((a : A) → g
    (f a) ≡ h a)
    → (xs : List A) → map g (map f xs) ≡ map h xs
map-same f g h e [] = refl
map-same f g h e (x ∷ xs) = ap (λ y. y ∷ map g (map f xs)) (e x) ∙ ap (λ l. h x ∷ l)
    (map-same f g h e xs)

-- Chains are those of what leads on the same.
module _ {A B : Type 0} (f : A → B) (next : B → Option ℕ) (before : A → Option ℕ)
    (same : (a : A) → next (f a) ≡ before a) where
  link-same : (n : ℕ) (r s : Option ℕ → List ℕ) → ((p : Option ℕ) → r p ≡ s p) →
      (o : Option A)
      → link next n r (option_map f o) ≡ link before n s o
  link-same n r s e None = refl
  link-same n r s e (Some a) = ap (λ p. n ∷ r p) (same a) ∙ ap (λ ns. n ∷ ns) (e (before a))

  chain_to-same : (k : ℕ) (xs : List A) (p : Option ℕ)
      → chain_to next k (map f xs) p ≡ chain_to before k xs p
  chain_to-same zero xs p = refl
  chain_to-same (suc k) xs None = refl
  chain_to-same (suc k) xs (Some n) =
      ap (link next n (chain_to next k (map f xs))) (get-map f xs n)
      ∙ link-same n (chain_to next k (map f xs)) (chain_to before k xs) (chain_to-same k xs)
      (slice_get xs n)

  pub chain-same : (xs : List A) (p : Option ℕ) → chain next (map f xs) p ≡ chain before xs p
  chain-same xs None = refl
  chain-same xs (Some n) = chain_to-same (suc n) xs (Some n)

pub or_else-map : {A B : Type 0} (f : A → B) (a b : Option A)
    → or_else (option_map f a) (option_map f b) ≡ option_map f (or_else a b)
or_else-map f (Some a) b = refl
or_else-map f None b = refl

pub first-map : {A B C : Type 0} (f : B → C) (g : A → Option C) (h : A → Option B)
    → ((a : A) → g a ≡ option_map f (h a)) → (xs : List A)
    → first_some g xs ≡ option_map f (first_some h xs)
first-map f g h e [] = refl
first-map f g h e (x ∷ xs) =
    ap (λ o. or_else o (first_some g xs)) (e x)
    ∙ (ap (or_else (option_map f (h x))) (first-map f g h e xs) ∙ or_else-map f (h x)
    (first_some h xs))

pub first-same : {A B : Type 0} (g h : A → Option B) → ((a : A) → g a ≡ h a) →
    (xs : List A)
    → first_some g xs ≡ first_some h xs
first-same g h e [] = refl
first-same g h e (x ∷ xs) =
    ap (λ o. or_else o (first_some g xs)) (e x) ∙ ap (or_else (h x)) (first-same g h e xs)
