-- What stands beside a number in a list, and what becomes of it where one is put in or taken out.
use Rattle.std.proofs.Common.{◌≡◌, ◌≢◌, ℕ, zero, suc, ◌+◌, ◌-◌, ◌<◌, ◌≤◌, ◌==◌, true, false, cond, List, [], ◌∷◌, ◌++◌, length, get_or, Option, Some, None, refl, sym, ap, subst, ◌∙◌, arith, eq-eqb, ⊎_elim, append_assoc, append-nil, add_assoc, zero-add}
use Rattle.std.proofs.lemmas.Bool.{cases_Bool, cond-true, cond-false, eqb-true, false≢true}
use Rattle.std.specs.List.{slice_get}
use Rattle.dom_tree.specs.Nodes.{is_one, times}
use Rattle.dom_tree.specs.Changes.{without, at_end, put_before}
use Rattle.dom_tree.specs.Order.{next_in, previous_in}
use Rattle.dom_tree.proofs.Kids.{unequal, stands, without_none, without_yes, without_no, before_yes, before_no, times_yes, times_no}

none_some : {P : Type 0} (x : ℕ) → None ≡ Some x → P
none_some x is = absurd cc

some_same : (x y : ℕ) → Some x ≡ Some y → x ≡ y
some_same x y is = cc

-- the last of a list, what stands behind a number, or first, and what stands in front of one, or last
abbrev pub last_of : List ℕ → Option ℕ
last_of xs = slice_get xs (length xs - 1)

abbrev pub next_from : List ℕ → Option ℕ → Option ℕ
next_from xs None = slice_get xs 0
next_from xs (Some x) = next_in x xs

abbrev pub previous_from : List ℕ → Option ℕ → Option ℕ
previous_from xs None = slice_get xs (length xs - 1)
previous_from xs (Some x) = previous_in x xs

-- ---- times

pub times_append : (y : ℕ) (xs ys : List ℕ) → times y (xs ++ ys) ≡ times y xs + times y ys
times_append y [] ys = sym (zero-add (times y ys))
times_append y (x ∷ xs) ys = ap (λ n. cond (x == y) 1 0 + n) (times_append y xs ys) ∙ sym (add_assoc (cond (x == y) 1 0) (times y xs) (times y ys))

-- where a number doesn't stand, it isn't the first
none_first : (c x : ℕ) (xs : List ℕ) → times c (x ∷ xs) ≡ 0 → (x == c) ≡ false
none_first c x xs none = ⊎_elim (λ hit. let e = times_yes c x xs hit in absurd (omega arith)) (λ miss. miss) (cases_Bool (x == c))

none_later : (c x : ℕ) (xs : List ℕ) → times c (x ∷ xs) ≡ 0 → times c xs ≡ 0
none_later c x xs none = sym (times_no c x xs (none_first c x xs none)) ∙ none

-- a number that stands once, and later, isn't the first
once_later : (c x : ℕ) (xs : List ℕ) → times c (x ∷ xs) ≡ 1 → 1 ≤ times c xs → ((x == c) ≡ false) × (times c xs ≡ 1)
once_later c x xs once later =
    ⊎_elim
    (λ hit. let e = times_yes c x xs hit in absurd (omega arith))
    (λ miss. (miss, sym (times_no c x xs miss) ∙ once))
    (cases_Bool (x == c))

-- ---- the last

last_more : (x y : ℕ) (ys : List ℕ) → last_of (x ∷ y ∷ ys) ≡ last_of (y ∷ ys)
last_more x y ys =
    let e : length (x ∷ y ∷ ys) - 1 ≡ suc (length (y ∷ ys) - 1) = omega arith in
    ap (slice_get (x ∷ y ∷ ys)) e

last_append : (xs : List ℕ) (y : ℕ) (ys : List ℕ) → last_of (xs ++ y ∷ ys) ≡ last_of (y ∷ ys)
last_append [] y ys = refl
last_append (x ∷ []) y ys = last_more x y ys
last_append (x ∷ z ∷ xs) y ys = last_more x z (xs ++ y ∷ ys) ∙ last_append (z ∷ xs) y ys

last_is : (x : ℕ) (xs : List ℕ) → (l : ℕ) × (last_of (x ∷ xs) ≡ Some l)
last_is x [] = (x, refl)
last_is x (y ∷ ys) = let more = last_is y ys in (more.0, last_more x y ys ∙ more.1)

pub last_stands : (xs : List ℕ) (l : ℕ) → last_of xs ≡ Some l → 1 ≤ times l xs
last_stands [] l is = none_some l is
last_stands (x ∷ []) l is = let e = times_yes l x [] (eq-eqb x l (some_same x l is)) in omega arith
last_stands (x ∷ y ∷ ys) l is =
    let more = last_stands (y ∷ ys) l (sym (last_more x y ys) ∙ is) in
    let e : times l (x ∷ y ∷ ys) ≡ cond (x == l) 1 0 + times l (y ∷ ys) = refl in
    omega arith

pub first_stands : (xs : List ℕ) (l : ℕ) → slice_get xs 0 ≡ Some l → 1 ≤ times l xs
first_stands [] l is = none_some l is
first_stands (x ∷ xs) l is = let e = times_yes l x xs (eq-eqb x l (some_same x l is)) in omega arith

-- ---- what stands behind

next_last : (xs ys : List ℕ) (l : ℕ) → last_of xs ≡ Some l → times l xs ≡ 1 → next_in l (xs ++ ys) ≡ slice_get ys 0
next_last [] ys l is once = none_some l is
next_last (x ∷ []) ys l is once = cond-true (x == l) (slice_get ys 0) (next_in l ys) (eq-eqb x l (some_same x l is))
next_last (x ∷ z ∷ xs) ys l is once =
    let is_later = sym (last_more x z xs) ∙ is in
    let later = once_later l x (z ∷ xs) once (last_stands (z ∷ xs) l is_later) in
    cond-false (x == l) (slice_get (z ∷ xs ++ ys) 0) (next_in l (z ∷ xs ++ ys)) later.0 ∙ next_last (z ∷ xs) ys l is_later later.1

next_here : (xs ys : List ℕ) (c : ℕ) → times c xs ≡ 0 → next_in c (xs ++ c ∷ ys) ≡ slice_get ys 0
next_here [] ys c none = cond-true (c == c) (slice_get ys 0) (next_in c ys) (eq-eqb c c refl)
next_here (x ∷ xs) ys c none =
    cond-false (x == c) (slice_get (xs ++ c ∷ ys) 0) (next_in c (xs ++ c ∷ ys)) (none_first c x xs none) ∙ next_here xs ys c (none_later c x xs none)

next_other : (xs ys : List ℕ) (c x : ℕ) → x ≢ c → (last_of xs ≡ Some x → ⊥) → next_in x (xs ++ c ∷ ys) ≡ next_in x (xs ++ ys)
next_other [] ys c x apart no_last = cond-false (c == x) (slice_get ys 0) (next_in x ys) (unequal c x (λ is. apart (sym is)))
next_other (y ∷ []) ys c x apart no_last =
    let miss : (y == x) ≡ false = unequal y x (λ is. no_last (ap Some is)) in
    cond-false (y == x) (Some c) (next_in x (c ∷ ys)) miss ∙ cond-false (c == x) (slice_get ys 0) (next_in x ys) (unequal c x (λ is. apart (sym is)))
    ∙ sym (cond-false (y == x) (slice_get ys 0) (next_in x ys) miss)
next_other (y ∷ z ∷ xs) ys c x apart no_last =
    ap (cond (y == x) (Some z)) (next_other (z ∷ xs) ys c x apart (λ is. no_last (last_more y z xs ∙ is)))

first_other : (xs ys : List ℕ) (c : ℕ) → (last_of xs ≡ None → ⊥) → slice_get (xs ++ c ∷ ys) 0 ≡ slice_get (xs ++ ys) 0
first_other [] ys c some = absurd (some refl)
first_other (x ∷ xs) ys c some = refl

pub next_at : (c : ℕ) (xs : List ℕ) (i : ℕ) → times c xs ≡ 1 → i < length xs → get_or xs i 0 ≡ c → next_in c xs ≡ slice_get xs (i + 1)
next_at c [] i once inside is = absurd (omega arith)
next_at c (x ∷ xs) zero once inside is = cond-true (x == c) (slice_get xs 0) (next_in c xs) (eq-eqb x c is)
next_at c (x ∷ xs) (suc i) once inside is =
    let later = once_later c x xs once (stands c xs i (omega arith) is) in
    let e : suc i + 1 ≡ suc (i + 1) = omega arith in
    cond-false (x == c) (slice_get xs 0) (next_in c xs) later.0 ∙ next_at c xs i later.1 (omega arith) is ∙ ap (slice_get (x ∷ xs)) (sym e)

-- ---- what stands in front

one_other : (x : ℕ) (o : Option ℕ) → (o ≡ Some x → ⊥) → is_one x o ≡ false
one_other x None other = refl
one_other x (Some y) other = unequal y x (λ is. other (ap Some is))

previous_none : (c : ℕ) (xs : List ℕ) → times c xs ≡ 0 → previous_in c xs ≡ None
previous_none c [] none = refl
previous_none c (x ∷ xs) none =
    let less = none_later c x xs none in
    cond-false (is_one c (slice_get xs 0)) (Some x) (previous_in c xs) (one_other c (slice_get xs 0) (λ is. let some = first_stands xs c is in absurd (omega arith)))
    ∙ previous_none c xs less

previous_here : (xs ys : List ℕ) (c : ℕ) → times c xs ≡ 0 → times c ys ≡ 0 → previous_in c (xs ++ c ∷ ys) ≡ last_of xs
previous_here [] ys c none none_behind =
    cond-false (is_one c (slice_get ys 0)) (Some c) (previous_in c ys) (one_other c (slice_get ys 0) (λ is. let some = first_stands ys c is in absurd (omega arith)))
    ∙ previous_none c ys none_behind
previous_here (x ∷ []) ys c none none_behind = cond-true (c == c) (Some x) (previous_in c (c ∷ ys)) (eq-eqb c c refl)
previous_here (x ∷ z ∷ xs) ys c none none_behind =
    let later = none_later c x (z ∷ xs) none in
    cond-false (z == c) (Some x) (previous_in c (z ∷ xs ++ c ∷ ys)) (none_first c z xs later) ∙ previous_here (z ∷ xs) ys c later none_behind ∙ sym (last_more x z xs)

previous_other : (xs ys : List ℕ) (c x : ℕ) → x ≢ c → (slice_get ys 0 ≡ Some x → ⊥) → previous_in x (xs ++ c ∷ ys) ≡ previous_in x (xs ++ ys)
previous_other [] ys c x apart no_first = cond-false (is_one x (slice_get ys 0)) (Some c) (previous_in x ys) (one_other x (slice_get ys 0) no_first)
previous_other (y ∷ []) ys c x apart no_first =
    cond-false (c == x) (Some y) (previous_in x (c ∷ ys)) (unequal c x (λ is. apart (sym is)))
    ∙ cond-false (is_one x (slice_get ys 0)) (Some c) (previous_in x ys) (one_other x (slice_get ys 0) no_first)
    ∙ sym (cond-false (is_one x (slice_get ys 0)) (Some y) (previous_in x ys) (one_other x (slice_get ys 0) no_first))
previous_other (y ∷ z ∷ xs) ys c x apart no_first = ap (cond (z == x) (Some y)) (previous_other (z ∷ xs) ys c x apart no_first)

last_other : (xs ys : List ℕ) (c : ℕ) → (slice_get ys 0 ≡ None → ⊥) → last_of (xs ++ c ∷ ys) ≡ last_of (xs ++ ys)
last_other xs [] c some = absurd (some refl)
last_other xs (y ∷ ys) c some = last_append xs c (y ∷ ys) ∙ last_more c y ys ∙ sym (last_append xs y ys)

-- ---- one is put in or taken out

-- the second list has another number in the place, or none: what stands beside the two that are around it, and all else as before
pub record Step (c : ℕ) (before behind next previous : Option ℕ) (xs ys : List ℕ) : Type 0 where
  pub next_is : next_from ys before ≡ next
  pub next_stays : (a : Option ℕ) → (before ≡ a → ⊥) → (a ≡ Some c → ⊥) → next_from ys a ≡ next_from xs a
  pub previous_is : previous_from ys behind ≡ previous
  pub previous_stays : (a : Option ℕ) → (behind ≡ a → ⊥) → (a ≡ Some c → ⊥) → previous_from ys a ≡ previous_from xs a

abbrev Once : List ℕ → Type 0
Once xs = (y : ℕ) → times y xs ≤ 1

one_of : (m n : ℕ) → 1 ≤ m → m + n ≤ 1 → m ≡ 1
one_of m n some few = omega arith

joined : (xs ys : List ℕ) → Once (xs ++ ys) → next_from (xs ++ ys) (last_of xs) ≡ slice_get ys 0
joined [] ys once = refl
joined (x ∷ xs) ys once =
    let l = last_is x xs in
    ap (next_from (x ∷ xs ++ ys)) l.1
    ∙ next_last (x ∷ xs) ys l.0 l.1 (one_of (times l.0 (x ∷ xs)) (times l.0 ys) (last_stands (x ∷ xs) l.0 l.1) (subst (λ n. n ≤ 1) (times_append l.0 (x ∷ xs) ys) (once l.0)))

none_around : (xs ys : List ℕ) (c : ℕ) → Once (xs ++ c ∷ ys) → (times c xs ≡ 0) × (times c ys ≡ 0)
none_around xs ys c once =
    let few = once c in
    let sum = times_append c xs (c ∷ ys) in
    let here = times_yes c c ys (eq-eqb c c refl) in
    (omega arith, omega arith)

joined_back : (xs ys : List ℕ) → Once (xs ++ ys) → previous_from (xs ++ ys) (slice_get ys 0) ≡ last_of xs
joined_back xs [] once = ap last_of (append-nil xs)
joined_back xs (y ∷ ys) once = let none = none_around xs ys y once in previous_here xs ys y none.0 none.1

next_both : (xs ys : List ℕ) (c : ℕ) (a : Option ℕ) → (last_of xs ≡ a → ⊥) → (a ≡ Some c → ⊥) → next_from (xs ++ c ∷ ys) a ≡ next_from (xs ++ ys) a
next_both xs ys c None other apart = first_other xs ys c other
next_both xs ys c (Some x) other apart = next_other xs ys c x (λ is. apart (ap Some is)) other

previous_both : (xs ys : List ℕ) (c : ℕ) (a : Option ℕ) → (slice_get ys 0 ≡ a → ⊥) → (a ≡ Some c → ⊥) → previous_from (xs ++ c ∷ ys) a ≡ previous_from (xs ++ ys) a
previous_both xs ys c None other apart = last_other xs ys c other
previous_both xs ys c (Some x) other apart = previous_other xs ys c x (λ is. apart (ap Some is)) other

module _ (xs ys : List ℕ) (c : ℕ) (once : (y : ℕ) → times y (xs ++ c ∷ ys) ≤ 1) where
  once_less : (y : ℕ) → times y (xs ++ ys) ≤ 1
  once_less y =
      let few = once y in
      let with_it = times_append y xs (c ∷ ys) in
      let without_it = times_append y xs ys in
      let more : times y (c ∷ ys) ≡ cond (c == y) 1 0 + times y ys = refl in
      omega arith

  pub next_of : next_in c (xs ++ c ∷ ys) ≡ slice_get ys 0
  next_of = next_here xs ys c (none_around xs ys c once).0

  pub previous_of : previous_in c (xs ++ c ∷ ys) ≡ last_of xs
  previous_of = let none = none_around xs ys c once in previous_here xs ys c none.0 none.1

  pub taken_step : Step c (last_of xs) (slice_get ys 0) (slice_get ys 0) (last_of xs) (xs ++ c ∷ ys) (xs ++ ys)
  taken_step = record {
    next_is = joined xs ys once_less;
    next_stays = λ a other apart. sym (next_both xs ys c a other apart);
    previous_is = joined_back xs ys once_less;
    previous_stays = λ a other apart. sym (previous_both xs ys c a other apart);
  }

  pub put_step : Step c (last_of xs) (slice_get ys 0) (Some c) (Some c) (xs ++ ys) (xs ++ c ∷ ys)
  put_step =
      let whole : (xs ++ c ∷ []) ++ ys ≡ xs ++ c ∷ ys = append_assoc xs (c ∷ []) ys in
      record {
        next_is = joined xs (c ∷ ys) once;
        next_stays = next_both xs ys c;
        previous_is = subst (λ l. previous_from l (slice_get ys 0) ≡ Some c) whole (joined_back (xs ++ c ∷ []) ys (λ y. subst (λ l. times y l ≤ 1) (sym whole) (once y)) ∙ last_append xs c []);
        previous_stays = previous_both xs ys c;
      }

-- ---- the places of numbers

-- a list cut at a number that stands in it once
pub record Cut (c : ℕ) (all : List ℕ) : Type 0 where
  pub front : List ℕ
  pub back : List ℕ
  pub is : all ≡ front ++ c ∷ back
  pub none_front : times c front ≡ 0
  pub none_back : times c back ≡ 0

pub cut : (c : ℕ) (xs : List ℕ) → times c xs ≡ 1 → Cut c xs
cut c [] once = absurd (omega arith)
cut c (x ∷ xs) once =
    ⊎_elim
    (λ hit.
    let e = times_yes c x xs hit in
    let same = eqb-true x c hit in
    record { front = []; back = xs; is = ap (λ y. y ∷ xs) same; none_front = refl; none_back = omega arith })
    (λ miss.
    let more = cut c xs (sym (times_no c x xs miss) ∙ once) in
    record { front = x ∷ more.front; back = more.back; is = ap (λ l. x ∷ l) more.is; none_front = times_no c x more.front miss ∙ more.none_front; none_back = more.none_back })
    (cases_Bool (x == c))

without_append : (c : ℕ) (xs ys : List ℕ) → times c xs ≡ 0 → without c (xs ++ ys) ≡ xs ++ without c ys
without_append c [] ys none = refl
without_append c (x ∷ xs) ys none = without_no c x (xs ++ ys) (none_first c x xs none) ∙ ap (λ l. x ∷ l) (without_append c xs ys (none_later c x xs none))

pub without_cut : (c : ℕ) (xs ys : List ℕ) → times c xs ≡ 0 → times c ys ≡ 0 → without c (xs ++ c ∷ ys) ≡ xs ++ ys
without_cut c xs ys none none_behind =
    without_append c xs (c ∷ ys) none ∙ ap (λ l. xs ++ l) (without_yes c c ys (eq-eqb c c refl) ∙ without_none c ys none_behind)

pub before_cut : (b c : ℕ) (xs ys : List ℕ) → times b xs ≡ 0 → put_before b c (xs ++ b ∷ ys) ≡ xs ++ c ∷ b ∷ ys
before_cut b c [] ys none = before_yes b c b ys (eq-eqb b b refl)
before_cut b c (x ∷ xs) ys none = before_no b c x (xs ++ b ∷ ys) (none_first b x xs none) ∙ ap (λ l. x ∷ l) (before_cut b c xs ys (none_later b x xs none))
