-- The values among operands, of which the first so many are values.
use Rattle.std.proofs.Common.{◌≡◌, ℕ, zero, suc, ◌+◌, ◌<◌, ◌≤◌, List, [], ◌∷◌, ◌++◌, Bool, true, false, Option, Some, None, get_or, length, map, drop, take, slice_get, slice_set, refl, ap, sym, subst, ◌∙◌, arith}
use Rattle.std.proofs.lemmas.List.{take_more}
use Rattle.js_value.specs.declared.value.Value.{Value}
use Rattle.js_term.specs.Evaluation.{Evaluation, again, taken}
use Rattle.js_term.specs.declared.operands.Operand.{Operand}
use Rattle.js_term.specs.declared.operands.Operand.TheVariants as operand
use Rattle.js_term.specs.inner.Values.{all_values, value_in, values_in}

-- as the struct has them
abbrev pub view : ℕ → List Operand → Evaluation
view n xs = record { done = values_in (take n xs); todo = drop n xs }

-- so many operands that are values are as many values
pub values_length : (n : ℕ) (xs : List Operand) → n ≤ length xs → all_values (take n xs) ≡ true → length (values_in (take n xs)) ≡ n
values_length zero xs l e = refl
values_length (suc n) [] l e = absurd (omega (arith, l))
values_length (suc n) (operand.Value v ∷ xs) l e = ap suc (values_length n xs (omega (arith, l)) e)
values_length (suc n) (operand.Node id ∷ xs) l e = cc

-- a value is found at its place
pub values_get : (n i : ℕ) (xs : List Operand) → i < n → all_values (take n xs) ≡ true → slice_get (values_in (take n xs)) i ≡ value_in (slice_get xs i)
values_get zero i xs l e = absurd (omega (arith, l))
values_get (suc n) zero [] l e = refl
values_get (suc n) (suc i) [] l e = refl
values_get (suc n) zero (operand.Value v ∷ xs) l e = refl
values_get (suc n) (suc i) (operand.Value v ∷ xs) l e = values_get n i xs (omega (arith, l)) e
values_get (suc n) i (operand.Node id ∷ xs) l e = cc

pub none_beyond : (n i : ℕ) (xs : List Operand) → n ≤ i → slice_get (values_in (take n xs)) i ≡ None
none_beyond zero i xs l = refl
none_beyond (suc n) zero [] l = absurd (omega (arith, l))
none_beyond (suc n) (suc i) [] l = refl
none_beyond (suc n) zero (x ∷ xs) l = absurd (omega (arith, l))
none_beyond (suc n) (suc i) (operand.Value v ∷ xs) l = none_beyond n i xs (omega (arith, l))
none_beyond (suc n) (suc i) (operand.Node id ∷ xs) l = none_beyond n (suc i) xs (omega (arith, l))

-- one more is a value
values-set : (n : ℕ) (xs : List Operand) (v : Value) → n < length xs
    → values_in (take (suc n) (slice_set xs n (operand.Value v))) ≡ values_in (take n xs) ++ v ∷ []
values-set n [] v l = absurd (omega (arith, l))
values-set zero (x ∷ xs) v l = refl
values-set (suc n) (operand.Value u ∷ xs) v l = ap (λ ys. u ∷ ys) (values-set n xs v (omega (arith, l)))
values-set (suc n) (operand.Node id ∷ xs) v l = values-set n xs v (omega (arith, l))

pub all_set : (n : ℕ) (xs : List Operand) (v : Value) → n < length xs → all_values (take n xs) ≡ true
    → all_values (take (suc n) (slice_set xs n (operand.Value v))) ≡ true
all_set n [] v l e = absurd (omega (arith, l))
all_set zero (x ∷ xs) v l e = refl
all_set (suc n) (operand.Value u ∷ xs) v l e = all_set n xs v (omega (arith, l)) e
all_set (suc n) (operand.Node id ∷ xs) v l e = cc

rest-set : (n : ℕ) (xs : List Operand) (v : Value) → n < length xs → drop (suc n) (slice_set xs n (operand.Value v)) ≡ drop 1 (drop n xs)
rest-set n [] v l = absurd (omega (arith, l))
rest-set zero (x ∷ xs) v l = refl
rest-set (suc n) (x ∷ xs) v l = rest-set n xs v (omega (arith, l))

pub view_set : (n : ℕ) (xs : List Operand) (v : Value) → n < length xs → view (suc n) (slice_set xs n (operand.Value v)) ≡ taken v (view n xs)
view_set n xs v l =
    let a = values-set n xs v l in
    let b = rest-set n xs v l in
    cc

-- the last values are to come again
values-front : (i n : ℕ) (xs : List Operand) → i ≤ n → all_values (take n xs) ≡ true → take i (values_in (take n xs)) ≡ values_in (take i xs)
values-front zero n xs l e = refl
values-front (suc i) zero xs l e = absurd (omega (arith, l))
values-front (suc i) (suc n) [] l e = refl
values-front (suc i) (suc n) (operand.Value v ∷ xs) l e = ap (λ ys. v ∷ ys) (values-front i n xs (omega (arith, l)) e)
values-front (suc i) (suc n) (operand.Node id ∷ xs) l e = cc

values-again : (i n : ℕ) (xs : List Operand) → i ≤ n → all_values (take n xs) ≡ true
    → map operand.Value (drop i (values_in (take n xs))) ++ drop n xs ≡ drop i xs
values-again zero zero xs l e = refl
values-again (suc i) zero xs l e = absurd (omega (arith, l))
values-again zero (suc n) [] l e = refl
values-again (suc i) (suc n) [] l e = refl
values-again zero (suc n) (operand.Value v ∷ xs) l e = ap (λ ys. operand.Value v ∷ ys) (values-again zero n xs (omega (arith, l)) e)
values-again (suc i) (suc n) (operand.Value v ∷ xs) l e = values-again i n xs (omega (arith, l)) e
values-again i (suc n) (operand.Node id ∷ xs) l e = cc

pub view_again : (i n : ℕ) (xs : List Operand) → i ≤ n → all_values (take n xs) ≡ true → view i xs ≡ again i (view n xs)
view_again i n xs l e =
    let a = values-front i n xs l e in
    let b = values-again i n xs l e in
    cc

pub all_again : (i n : ℕ) (xs : List Operand) → i ≤ n → all_values (take n xs) ≡ true → all_values (take i xs) ≡ true
all_again zero n xs l e = refl
all_again (suc i) zero xs l e = absurd (omega (arith, l))
all_again (suc i) (suc n) [] l e = refl
all_again (suc i) (suc n) (operand.Value v ∷ xs) l e = all_again i n xs (omega (arith, l)) e
all_again (suc i) (suc n) (operand.Node id ∷ xs) l e = cc

pub again_seen : (i n : ℕ) (xs : List Operand) → n ≤ length xs → all_values (take n xs) ≡ true → i ≤ length (values_in (take n xs))
    → (view i xs ≡ again i (view n xs)) × (all_values (take i xs) ≡ true) × (i ≤ n)
again_seen i n xs l e b =
    let few : i ≤ n = omega (arith, b, values_length n xs l e) in
    (view_again i n xs few e, all_again i n xs few e, few)

-- one more is to come where one is left
there : (n : ℕ) (xs : List Operand) → 0 < length (drop n xs) → n < length xs
there zero xs l = l
there (suc n) [] l = absurd (omega (arith, l))
there (suc n) (x ∷ xs) l = omega (arith, there n xs l)

set_length : (n : ℕ) (xs : List Operand) (x : Operand) → length (slice_set xs n x) ≡ length xs
set_length zero [] x = refl
set_length (suc n) [] x = refl
set_length zero (y ∷ xs) x = refl
set_length (suc n) (y ∷ xs) x = ap suc (set_length n xs x)

one_more : (n : ℕ) → suc n ≡ n + 1
one_more n = omega arith

-- after a value is taken
pub taken_view : (n : ℕ) (xs ys : List Operand) (v : Value) (e : Evaluation) → view n xs ≡ e → 0 < length e.todo
    → (n < length xs → ys ≡ slice_set xs n (operand.Value v)) → view (n + 1) ys ≡ taken v e
taken_view n xs ys v e is some put =
    let l = there n xs (subst (λ e. 0 < length e.todo) (sym is) some) in
    ap (view (n + 1)) (put l)
    ∙ (ap (λ m. view m (slice_set xs n (operand.Value v))) (sym (one_more n)) ∙ (view_set n xs v l ∙ ap (taken v) is))

pub taken_kept : (n : ℕ) (xs ys : List Operand) (v : Value) (e : Evaluation) → view n xs ≡ e → 0 < length e.todo → all_values (take n xs) ≡ true
    → (n < length xs → ys ≡ slice_set xs n (operand.Value v)) → (n + 1 ≤ length ys) × (all_values (take (n + 1) ys) ≡ true)
taken_kept n xs ys v e is some all put =
    let l = there n xs (subst (λ e. 0 < length e.todo) (sym is) some) in
    let same : length ys ≡ length xs = ap length (put l) ∙ set_length n xs (operand.Value v) in (
      omega (arith, l, same),
      ap (λ ys. all_values (take (n + 1) ys)) (put l)
          ∙ (ap (λ m. all_values (take m (slice_set xs n (operand.Value v)))) (sym (one_more n)) ∙ all_set n xs v l all),
    )

values-append : (xs : List Operand) (x : Operand) → values_in (xs ++ x ∷ []) ≡ values_in xs ++ values_in (x ∷ [])
values-append [] (operand.Value v) = refl
values-append [] (operand.Node id) = refl
values-append (operand.Value v ∷ xs) x = ap (λ ys. v ∷ ys) (values-append xs x)
values-append (operand.Node id ∷ xs) x = values-append xs x

-- one more is copied
pub values_stepped : (xs : List Operand) (i : ℕ) (x : Operand) → i < length xs → x ≡ get_or xs i x
    → values_in (take i xs) ++ values_in (x ∷ []) ≡ values_in (take (i + 1) xs)
values_stepped xs i x l is =
    sym (values-append (take i xs) x) ∙ ap values_in (ap (λ y. take i xs ++ y ∷ []) is ∙ sym (take_more xs i x l))
