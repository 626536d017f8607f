-- Children and how often a number stands among them.
use Rattle.std.proofs.Common.{◌≡◌, ◌≢◌, ℕ, zero, suc, ◌+◌, ◌<◌, ◌≤◌, ◌==◌, true, false, not, cond, List, [], ◌∷◌, length, get_or, refl, sym, ap, subst, ◌∙◌, arith, eq-eqb, zero-add, add_assoc, ⊎_elim}
use Rattle.std.proofs.lemmas.Bool.{cases_Bool, eqb-true}
use Rattle.std.specs.List.{remove, insert}
use Rattle.dom_tree.specs.Nodes.{times}
use Rattle.dom_tree.specs.Changes.{without, at_end, put_before}

pub times_yes : (c x : ℕ) (xs : List ℕ) → (x == c) ≡ true → times c (x ∷ xs) ≡ 1 + times c xs
times_yes c x xs hit = ap (λ b. cond b 1 0 + times c xs) hit

pub times_no : (c x : ℕ) (xs : List ℕ) → (x == c) ≡ false → times c (x ∷ xs) ≡ times c xs
times_no c x xs miss = ap (λ b. cond b 1 0 + times c xs) miss ∙ zero-add (times c xs)

pub without_yes : (c x : ℕ) (xs : List ℕ) → (x == c) ≡ true → without c (x ∷ xs) ≡ without c xs
without_yes c x xs hit = ap (λ b. cond (not b) (x ∷ without c xs) (without c xs)) hit

pub without_no : (c x : ℕ) (xs : List ℕ) → (x == c) ≡ false → without c (x ∷ xs) ≡ x ∷ without c xs
without_no c x xs miss = ap (λ b. cond (not b) (x ∷ without c xs) (without c xs)) miss

pub before_yes : (b c x : ℕ) (xs : List ℕ) → (x == b) ≡ true → put_before b c (x ∷ xs) ≡ c ∷ x ∷ xs
before_yes b c x xs hit = ap (λ t. cond t (c ∷ x ∷ xs) (x ∷ put_before b c xs)) hit

pub before_no : (b c x : ℕ) (xs : List ℕ) → (x == b) ≡ false → put_before b c (x ∷ xs) ≡ x ∷ put_before b c xs
before_no b c x xs miss = ap (λ t. cond t (c ∷ x ∷ xs) (x ∷ put_before b c xs)) miss

pub unequal : (x y : ℕ) → x ≢ y → (x == y) ≡ false
unequal x y apart = ⊎_elim (λ hit. absurd (apart (eqb-true x y hit))) (λ miss. miss) (cases_Bool (x == y))

pub stands : (c : ℕ) (xs : List ℕ) (i : ℕ) → i < length xs → get_or xs i 0 ≡ c → 1 ≤ times c xs
stands c [] i inside is = absurd (omega arith)
stands c (x ∷ xs) zero inside is = let e = times_yes c x xs (eq-eqb x c is) in omega arith
stands c (x ∷ xs) (suc i) inside is =
    let more = stands c xs i (omega arith) is in
    ⊎_elim (λ hit. let e = times_yes c x xs hit in omega arith) (λ miss. let e = times_no c x xs miss in omega arith) (cases_Bool (x == c))

pub without_none : (c : ℕ) (xs : List ℕ) → times c xs ≡ 0 → without c xs ≡ xs
without_none c [] none = refl
without_none c (x ∷ xs) none =
    ⊎_elim
    (λ hit. let e = times_yes c x xs hit in absurd (omega arith))
    (λ miss. without_no c x xs miss ∙ ap (λ l. x ∷ l) (without_none c xs (sym (times_no c x xs miss) ∙ none)))
    (cases_Bool (x == c))

pub times_at_end : (y c : ℕ) (xs : List ℕ) → times y (at_end c xs) ≡ times y xs + cond (c == y) 1 0
times_at_end y c [] = omega arith
times_at_end y c (x ∷ xs) = ap (λ n. cond (x == y) 1 0 + n) (times_at_end y c xs) ∙ sym (add_assoc (cond (x == y) 1 0) (times y xs) (cond (c == y) 1 0))

pub times_without_same : (c : ℕ) (xs : List ℕ) → times c (without c xs) ≡ 0
times_without_same c [] = refl
times_without_same c (x ∷ xs) =
    ⊎_elim
    (λ hit. ap (times c) (without_yes c x xs hit) ∙ times_without_same c xs)
    (λ miss. ap (times c) (without_no c x xs miss) ∙ times_no c x (without c xs) miss ∙ times_without_same c xs)
    (cases_Bool (x == c))

differs : (x y c : ℕ) → y ≢ c → (x == c) ≡ true → (x == y) ≡ false
differs x y c apart hit = ⊎_elim (λ again. absurd (apart (sym (eqb-true x y again) ∙ eqb-true x c hit))) (λ miss. miss) (cases_Bool (x == y))

pub times_without_other : (y c : ℕ) (xs : List ℕ) → y ≢ c → times y (without c xs) ≡ times y xs
times_without_other y c [] apart = refl
times_without_other y c (x ∷ xs) apart =
    ⊎_elim
    (λ hit. ap (times y) (without_yes c x xs hit) ∙ times_without_other y c xs apart ∙ sym (times_no y x xs (differs x y c apart hit)))
    (λ miss. ap (times y) (without_no c x xs miss) ∙ ap (λ n. cond (x == y) 1 0 + n) (times_without_other y c xs apart))
    (cases_Bool (x == c))

pub times_before : (y b c : ℕ) (xs : List ℕ) → times b xs ≡ 1 → times y (put_before b c xs) ≡ times y xs + cond (c == y) 1 0
times_before y b c [] once = absurd (omega arith)
times_before y b c (x ∷ xs) once =
    ⊎_elim
    (λ hit. let e : times y (put_before b c (x ∷ xs)) ≡ cond (c == y) 1 0 + times y (x ∷ xs) = ap (times y) (before_yes b c x xs hit) in omega arith)
    (λ miss.
    let more = times_before y b c xs (sym (times_no b x xs miss) ∙ once) in
    let e : times y (put_before b c (x ∷ xs)) ≡ cond (x == y) 1 0 + times y (put_before b c xs) = ap (times y) (before_no b c x xs miss) in
    let whole : times y (x ∷ xs) ≡ cond (x == y) 1 0 + times y xs = refl in
    omega arith)
    (cases_Bool (x == b))
