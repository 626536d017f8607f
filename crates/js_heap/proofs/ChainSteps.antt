-- Steps along a chain.
use Rattle.std.proofs.Common.{◌≡◌, ℕ, zero, suc, ◌<◌, ◌+◌, Bool, true, false, ◌&&◌, nat_lt, zero-add, List, [], ◌∷◌, Option, Some, None, get_or, length, slice_get, refl, subst, sym, ap, ◌∙◌, arith}
use Rattle.std.proofs.lemmas.Option.{slice_get_read}
use borrow.Author.Tests.{ltb-true}
use Rattle.js_heap.specs.Chains.{IsBelow, LeadsBack, chain, chain_to, first_some, link, or_else}

module _ {X : Type 0} (next : X → Option ℕ) (xs : List X) (back : LeadsBack next xs) where
  to_none : (k : ℕ) → chain_to next k xs None ≡ []
  to_none zero = refl
  to_none (suc k) = refl

  rest-same : (j k m : ℕ) → ((q : ℕ) → q < m → chain_to next j xs (Some q) ≡ chain_to next k xs (Some q)) → (p : Option ℕ) → IsBelow m p → chain_to next j xs p ≡ chain_to next k xs p
  rest-same j k m same None h = to_none j ∙ sym (to_none k)
  rest-same j k m same (Some q) h = same q h

  link-same : (j k m : ℕ) → ((q : ℕ) → q < m → chain_to next j xs (Some q) ≡ chain_to next k xs (Some q)) → (o : Option X) → slice_get xs m ≡ o → link next m (chain_to next j xs) o ≡ link next m (chain_to next k xs) o
  link-same j k m same None e = refl
  link-same j k m same (Some x) e = ap (λ r. m ∷ r) (rest-same j k m same (next x) (back m x e))

  enough : (j k m : ℕ) → m < j → m < k → chain_to next j xs (Some m) ≡ chain_to next k xs (Some m)
  enough zero k m h h' = absurd (omega arith)
  enough (suc j) zero m h h' = absurd (omega arith)
  enough (suc j) (suc k) m h h' = link-same j k m (λ q below. enough j k q (omega arith) (omega arith)) (slice_get xs m) refl

  chain-from : (n : ℕ) (p : Option ℕ) → IsBelow n p → chain_to next n xs p ≡ chain next xs p
  chain-from n None h = to_none n
  chain-from n (Some m) h = enough n (suc m) m h (omega arith)

  -- a chain is its first number, and the chain to which that leads
  pub chain-step : (n : ℕ) (x : X) → slice_get xs n ≡ Some x → chain next xs (Some n) ≡ n ∷ chain next xs (next x)
  chain-step n x e = ap (link next n (chain_to next n xs)) e ∙ ap (λ r. n ∷ r) (chain-from n (next x) (back n x e))

  -- the number to which another leads is below
  pub led-below : (n m : ℕ) (x : X) → slice_get xs n ≡ Some x → next x ≡ Some m → m < n
  led-below n m x e leads = let P : Option ℕ → Type 0 = λ p. IsBelow n p in subst P leads (back n x e)

  pub first-here : {A : Type 0} (f : ℕ → Option A) (n : ℕ) (x : X) (a : A) → slice_get xs n ≡ Some x → f n ≡ Some a → first_some f (chain next xs (Some n)) ≡ Some a
  first-here f n x a e h = ap (first_some f) (chain-step n x e) ∙ ap (λ o. or_else o (first_some f (chain next xs (next x)))) h

  pub first-past : {A : Type 0} (f : ℕ → Option A) (n : ℕ) (x : X) → slice_get xs n ≡ Some x → f n ≡ None → first_some f (chain next xs (Some n)) ≡ first_some f (chain next xs (next x))
  first-past f n x e h = ap (first_some f) (chain-step n x e) ∙ ap (λ o. or_else o (first_some f (chain next xs (next x)))) h

  read : (n : ℕ) (x : X) → n < length xs → x ≡ get_or xs n x → slice_get xs n ≡ Some x
  read n x h e = slice_get_read xs (length xs) n x refl h e

  -- a step of a loop along the chain, where the number gives nothing
  pub past : {A : Type 0} (f : ℕ → Option A) (n : ℕ) (x : X) (m : ℕ) → n < length xs → x ≡ get_or xs n x → f n ≡ None → next x ≡ Some m
      → first_some f (chain next xs (Some n)) ≡ first_some f (chain next xs (Some m))
  past f n x m h e none leads = first-past f n x (read n x h e) none ∙ ap (λ p. first_some f (chain next xs p)) leads

  pub past_last : {A : Type 0} (f : ℕ → Option A) (n : ℕ) (x : X) → n < length xs → x ≡ get_or xs n x → f n ≡ None → next x ≡ None → first_some f (chain next xs (Some n)) ≡ None
  past_last f n x h e none leads = first-past f n x (read n x h e) none ∙ ap (λ p. first_some f (chain next xs p)) leads

  pub here : {A : Type 0} (f : ℕ → Option A) (n : ℕ) (x : X) (a : A) → n < length xs → x ≡ get_or xs n x → f n ≡ Some a → first_some f (chain next xs (Some n)) ≡ Some a
  here f n x a h e some = first-here f n x a (read n x h e) some

  pub leads_within : (n : ℕ) (x : X) (m : ℕ) → n < length xs → x ≡ get_or xs n x → next x ≡ Some m → m < n
  leads_within n x m h e leads = let P : Option ℕ → Type 0 = λ p. IsBelow n p in subst P leads (back n x (read n x h e))

both : (b c : Bool) → b && c ≡ true → (b ≡ true) × (c ≡ true)
both true true e = (refl, refl)
both true false e = cc
both false c e = cc

module _ {X : Type 0} (next : X → Option ℕ) where
  abbrev pub is_below : ℕ → Option ℕ → Bool
  is_below n None = true
  is_below n (Some m) = nat_lt m n

  below-test : (n : ℕ) (p : Option ℕ) → is_below n p ≡ true → IsBelow n p
  below-test n None e = tt
  below-test n (Some m) e = omega (arith, ltb-true m n e)

  -- a test by which a list that is known leads back
  abbrev pub all_back : ℕ → List X → Bool
  all_back i [] = true
  all_back i (x ∷ xs) = is_below i (next x) && all_back (suc i) xs

  back-from : (i : ℕ) (xs : List X) → all_back i xs ≡ true → (n : ℕ) (x : X) → slice_get xs n ≡ Some x → IsBelow (n + i) (next x)
  back-from i [] e n x g = cc
  back-from i (y ∷ xs) e zero x g = let same : y ≡ x = cc in let P : X → Type 0 = λ z. IsBelow (zero + i) (next z) in subst P same (rw zero-add (below-test i (next y) (both (is_below i (next y)) (all_back (suc i) xs) e).0))
  back-from i (y ∷ xs) e (suc n) x g = let P : ℕ → Type 0 = λ k. IsBelow k (next x) in subst P (omega arith) (back-from (suc i) xs (both (is_below i (next y)) (all_back (suc i) xs) e).1 n x g)

  pub leads_back : (xs : List X) → all_back zero xs ≡ true → LeadsBack next xs
  leads_back xs e n x g = let P : ℕ → Type 0 = λ k. IsBelow k (next x) in subst P (omega arith) (back-from zero xs e n x g)
