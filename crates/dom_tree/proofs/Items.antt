-- Lists with one item changed.
use Rattle.std.proofs.Common.{◌≡◌, ◌≢◌, ℕ, zero, suc, ◌<◌, List, [], ◌∷◌, length, get_or, set, Some, refl, ap, arith}
use Rattle.std.specs.List.{slice_get}
use Rattle.std.specs.Option.{option_map}
use Rattle.dom_tree.specs.Changes.{changed}

some_same : {X : Type 0} (x y : X) → Some x ≡ Some y → x ≡ y
some_same x y is = cc

module _ {X : Type 0} where
  pub length_changed : (f : X → X) (i : ℕ) (xs : List X) → length (changed f i xs) ≡ length xs
  length_changed f i [] = refl
  length_changed f zero (x ∷ xs) = refl
  length_changed f (suc i) (x ∷ xs) = ap suc (length_changed f i xs)

  pub set_is_changed : (f : X → X) (i : ℕ) (xs : List X) (d : X) → i < length xs → set xs i (f (get_or xs i d)) ≡ changed f i xs
  set_is_changed f i [] d inside = absurd (omega arith)
  set_is_changed f zero (x ∷ xs) d inside = refl
  set_is_changed f (suc i) (x ∷ xs) d inside = ap (λ l. x ∷ l) (set_is_changed f i xs d (omega arith))

  pub at_changed : (f : X → X) (i : ℕ) (xs : List X) → slice_get (changed f i xs) i ≡ option_map f (slice_get xs i)
  at_changed f i [] = refl
  at_changed f zero (x ∷ xs) = refl
  at_changed f (suc i) (x ∷ xs) = at_changed f i xs

  pub beside_changed : (f : X → X) (i : ℕ) (xs : List X) (j : ℕ) → i ≢ j → slice_get (changed f i xs) j ≡ slice_get xs j
  beside_changed f i [] j apart = refl
  beside_changed f zero (x ∷ xs) zero apart = absurd (apart refl)
  beside_changed f zero (x ∷ xs) (suc j) apart = refl
  beside_changed f (suc i) (x ∷ xs) zero apart = refl
  beside_changed f (suc i) (x ∷ xs) (suc j) apart = beside_changed f i xs j (λ e. apart (ap suc e))

  -- two changes at one place are one
  pub changed_twice : (f g : X → X) (i : ℕ) (xs : List X) → changed g i (changed f i xs) ≡ changed (λ x. g (f x)) i xs
  changed_twice f g i [] = refl
  changed_twice f g zero (x ∷ xs) = refl
  changed_twice f g (suc i) (x ∷ xs) = ap (λ l. x ∷ l) (changed_twice f g i xs)

  -- changes at two places come in any order
  pub changed_apart : (f g : X → X) (i j : ℕ) (xs : List X) → i ≢ j → changed f i (changed g j xs) ≡ changed g j (changed f i xs)
  changed_apart f g i j [] apart = refl
  changed_apart f g zero zero (x ∷ xs) apart = absurd (apart refl)
  changed_apart f g zero (suc j) (x ∷ xs) apart = refl
  changed_apart f g (suc i) zero (x ∷ xs) apart = refl
  changed_apart f g (suc i) (suc j) (x ∷ xs) apart = ap (λ l. x ∷ l) (changed_apart f g i j xs (λ e. apart (ap suc e)))

  -- a change that leaves the item changes nothing
  pub changed_same : (f : X → X) (i : ℕ) (xs : List X) → option_map f (slice_get xs i) ≡ slice_get xs i → changed f i xs ≡ xs
  changed_same f i [] same = refl
  changed_same f zero (x ∷ xs) same = ap (λ y. y ∷ xs) (some_same (f x) x same)
  changed_same f (suc i) (x ∷ xs) same = ap (λ l. x ∷ l) (changed_same f i xs same)
