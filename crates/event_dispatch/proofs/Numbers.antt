-- Listeners that stand in the slots of their numbers.
use Rattle.std.proofs.Common.{◌≡◌, ℕ, zero, suc, ◌+◌, ◌<◌, ◌≤◌, Bool, true, false, not, cond, eqb, List, [], ◌∷◌, ◌++◌, length, set, map, filter, slice_get, Option, Some, None, refl, sym, ap, ◌∙◌, subst, arith}
use Rattle.std.proofs.lemmas.Bool.{eq-eqb, ne_eqb}
use Rattle.std.specs.Option.{ForSome, option_flatten}
use Rattle.js_value.specs.declared.callable.Callable.{Callable}
use Rattle.event_dispatch.specs.Listeners.{Listener, RiseWithin, listener_of, with_f}
use Rattle.event_dispatch.specs.inner.Places.{present, AreNumbered}

pub chosen : {X : Type 0} (b : Bool) (x y : X) → b ≡ true → cond b x y ≡ x
chosen b x y e = rw e refl

pub other : {X : Type 0} (b : Bool) (x y : X) → b ≡ false → cond b x y ≡ y
other b x y e = rw e refl

-- The listener of a number.

none-below : (n k : ℕ) (es : List (Option Listener)) → AreNumbered k es → n < k → listener_of n (present es) ≡ None
none-below n k [] h l = refl
none-below n k (None ∷ es) h l = none-below n (suc k) es h.1 (omega arith)
none-below n k (Some x ∷ es) h l =
    other (eqb x.number n) (Some x) (listener_of n (present es)) (ne_eqb x.number n (λ e. omega (arith, e, h.0 x refl))) ∙ none-below n (suc k) es h.1 (omega arith)

named-at : (k j : ℕ) (es : List (Option Listener)) → AreNumbered k es → listener_of (k + j) (present es) ≡ option_flatten (slice_get es j)
named-at k j [] h = refl
named-at k zero (None ∷ es) h = none-below (k + zero) (suc k) es h.1 (omega arith)
named-at k zero (Some x ∷ es) h = chosen (eqb x.number (k + zero)) (Some x) (listener_of (k + zero) (present es)) (eq-eqb x.number (k + zero) (omega (arith, h.0 x refl)))
named-at k (suc j) (None ∷ es) h =
    let e : k + suc j ≡ suc k + j = omega arith in
    ap (λ n. listener_of n (present es)) e ∙ named-at (suc k) j es h.1
named-at k (suc j) (Some x ∷ es) h =
    let e : k + suc j ≡ suc k + j = omega arith in
    other (eqb x.number (k + suc j)) (Some x) (listener_of (k + suc j) (present es)) (ne_eqb x.number (k + suc j) (λ f. omega (arith, f, h.0 x refl)))
    ∙ ap (λ n. listener_of n (present es)) e ∙ named-at (suc k) j es h.1

pub at_number : (es : List (Option Listener)) (n : ℕ) → AreNumbered 0 es → listener_of n (present es) ≡ option_flatten (slice_get es n)
at_number es n h =
    let e : n ≡ 0 + n = omega arith in
    ap (λ m. listener_of m (present es)) e ∙ named-at 0 n es h

-- What stays numbered.

numbered-push : (k : ℕ) (es : List (Option Listener)) (l : Listener) → AreNumbered k es → l.number ≡ k + length es → AreNumbered k (es ++ Some l ∷ [])
numbered-push k [] l h e = (λ x f. let same : l ≡ x = cc in let n : l.number ≡ k = omega (arith, e) in ap (λ (y : Listener). y.number) (sym same) ∙ n, tt)
numbered-push k (x ∷ es) l h e = (h.0, numbered-push (suc k) es l h.1 (omega (arith, e)))

pub numbered_push : (es : List (Option Listener)) (l : Listener) → AreNumbered 0 es → l.number ≡ length es → AreNumbered 0 (es ++ Some l ∷ [])
numbered_push es l h e = numbered-push 0 es l h (omega (arith, e))

numbered-set : (k j : ℕ) (es : List (Option Listener)) (x : Option Listener) → AreNumbered k es → ForSome x (λ l. l.number ≡ k + j) → AreNumbered k (set es j x)
numbered-set k j [] x h s = tt
numbered-set k zero (e ∷ es) x h s =
    let f : k + zero ≡ k = omega arith in
    (subst (λ n. ForSome x (λ l. l.number ≡ n)) f s, h.1)
numbered-set k (suc j) (e ∷ es) x h s =
    let f : k + suc j ≡ suc k + j = omega arith in
    (h.0, numbered-set (suc k) j es x h.1 (subst (λ n. ForSome x (λ l. l.number ≡ n)) f s))

pub numbered_removed : (es : List (Option Listener)) (j : ℕ) → AreNumbered 0 es → AreNumbered 0 (set es j None)
numbered_removed es j h = numbered-set 0 j es None h (λ x e. cc)

pub numbered_replaced : (es : List (Option Listener)) (j : ℕ) (l : Listener) → AreNumbered 0 es → l.number ≡ j → AreNumbered 0 (set es j (Some l))
numbered_replaced es j l h n =
    let m : l.number ≡ 0 + j = omega (arith, n) in
    numbered-set 0 j es (Some l) h (λ x e. let same : l ≡ x = cc in ap (λ (y : Listener). y.number) (sym same) ∙ m)

-- the listener in a slot has its number
number-at : (k j : ℕ) (es : List (Option Listener)) (l : Listener) → AreNumbered k es → slice_get es j ≡ Some (Some l) → l.number ≡ k + j
number-at k j [] l h e = cc
number-at k zero (x ∷ es) l h e = let same : x ≡ Some l = cc in let n : l.number ≡ k = h.0 l same in omega (arith, n)
number-at k (suc j) (x ∷ es) l h e = omega (arith, number-at (suc k) j es l h.1 e)

pub number_at : (es : List (Option Listener)) (j : ℕ) (l : Listener) → AreNumbered 0 es → slice_get es j ≡ Some (Some l) → l.number ≡ j
number_at es j l h e = omega (arith, number-at 0 j es l h e)

-- The list after a change.

pub present-push : (es : List (Option Listener)) (l : Listener) → present (es ++ Some l ∷ []) ≡ present es ++ l ∷ []
present-push [] l = refl
present-push (None ∷ es) l = present-push es l
present-push (Some x ∷ es) l = ap (λ r. x ∷ r) (present-push es l)

filter-below : (n k : ℕ) (es : List (Option Listener)) → AreNumbered k es → n < k → filter (λ l. not (eqb l.number n)) (present es) ≡ present es
filter-below n k [] h l = refl
filter-below n k (None ∷ es) h l = filter-below n (suc k) es h.1 (omega arith)
filter-below n k (Some x ∷ es) h l =
    chosen (not (eqb x.number n)) (x ∷ filter (λ y. not (eqb y.number n)) (present es)) (filter (λ y. not (eqb y.number n)) (present es)) (ap not (ne_eqb x.number n (λ e. omega (arith, e, h.0 x refl))))
    ∙ ap (λ r. x ∷ r) (filter-below n (suc k) es h.1 (omega arith))

present-removed : (k j : ℕ) (es : List (Option Listener)) → AreNumbered k es → present (set es j None) ≡ filter (λ l. not (eqb l.number (k + j))) (present es)
present-removed k j [] h = refl
present-removed k zero (None ∷ es) h = sym (filter-below (k + zero) (suc k) es h.1 (omega arith))
present-removed k zero (Some x ∷ es) h =
    let n : ℕ = k + zero in
    sym (other (not (eqb x.number n)) (x ∷ filter (λ y. not (eqb y.number n)) (present es)) (filter (λ y. not (eqb y.number n)) (present es)) (ap not (eq-eqb x.number n (omega (arith, h.0 x refl))))
    ∙ filter-below n (suc k) es h.1 (omega arith))
present-removed k (suc j) (None ∷ es) h =
    let e : suc k + j ≡ k + suc j = omega arith in
    present-removed (suc k) j es h.1 ∙ ap (λ n. filter (λ y. not (eqb y.number n)) (present es)) e
present-removed k (suc j) (Some x ∷ es) h =
    let e : suc k + j ≡ k + suc j = omega arith in
    let n : ℕ = k + suc j in
    ap (λ r. x ∷ r) (present-removed (suc k) j es h.1 ∙ ap (λ m. filter (λ y. not (eqb y.number m)) (present es)) e)
    ∙ sym (chosen (not (eqb x.number n)) (x ∷ filter (λ y. not (eqb y.number n)) (present es)) (filter (λ y. not (eqb y.number n)) (present es)) (ap not (ne_eqb x.number n (λ f. omega (arith, f, h.0 x refl)))))

pub present_removed : (es : List (Option Listener)) (j : ℕ) → AreNumbered 0 es → present (set es j None) ≡ filter (λ l. not (eqb l.number j)) (present es)
present_removed es j h =
    let e : 0 + j ≡ j = omega arith in
    present-removed 0 j es h ∙ ap (λ n. filter (λ y. not (eqb y.number n)) (present es)) e

replaced-below : (n k : ℕ) (f : Callable) (es : List (Option Listener)) → AreNumbered k es → n < k → map (λ l. cond (eqb l.number n) (with_f f l) l) (present es) ≡ present es
replaced-below n k f [] h l = refl
replaced-below n k f (None ∷ es) h l = replaced-below n (suc k) f es h.1 (omega arith)
replaced-below n k f (Some x ∷ es) h l =
    ap (λ y. y ∷ map (λ l. cond (eqb l.number n) (with_f f l) l) (present es)) (other (eqb x.number n) (with_f f x) x (ne_eqb x.number n (λ e. omega (arith, e, h.0 x refl))))
    ∙ ap (λ r. x ∷ r) (replaced-below n (suc k) f es h.1 (omega arith))

present-replaced : (k j : ℕ) (f : Callable) (es : List (Option Listener)) (x : Listener) → AreNumbered k es → slice_get es j ≡ Some (Some x) → present (set es j (Some (with_f f x))) ≡ map (λ l. cond (eqb l.number (k + j)) (with_f f l) l) (present es)
present-replaced k j f [] x h e = cc
present-replaced k zero f (None ∷ es) x h e = cc
present-replaced k zero f (Some y ∷ es) x h e =
    let same : x ≡ y = cc in
    let n : ℕ = k + zero in
    ap (λ z. with_f f z ∷ present es) same
    ∙ ap (λ z. z ∷ present es) (sym (chosen (eqb y.number n) (with_f f y) y (eq-eqb y.number n (omega (arith, h.0 y refl)))))
    ∙ ap (λ r. cond (eqb y.number n) (with_f f y) y ∷ r) (sym (replaced-below n (suc k) f es h.1 (omega arith)))
present-replaced k (suc j) f (None ∷ es) x h e =
    let g : suc k + j ≡ k + suc j = omega arith in
    present-replaced (suc k) j f es x h.1 e ∙ ap (λ n. map (λ l. cond (eqb l.number n) (with_f f l) l) (present es)) g
present-replaced k (suc j) f (Some y ∷ es) x h e =
    let g : suc k + j ≡ k + suc j = omega arith in
    let n : ℕ = k + suc j in
    ap (λ r. y ∷ r) (present-replaced (suc k) j f es x h.1 e ∙ ap (λ m. map (λ l. cond (eqb l.number m) (with_f f l) l) (present es)) g)
    ∙ ap (λ z. z ∷ map (λ l. cond (eqb l.number n) (with_f f l) l) (present es)) (sym (other (eqb y.number n) (with_f f y) y (ne_eqb y.number n (λ i. omega (arith, i, h.0 y refl)))))

pub present_replaced : (es : List (Option Listener)) (j : ℕ) (f : Callable) (x : Listener) → AreNumbered 0 es → slice_get es j ≡ Some (Some x) → present (set es j (Some (with_f f x))) ≡ map (λ l. cond (eqb l.number j) (with_f f l) l) (present es)
present_replaced es j f x h e =
    let g : 0 + j ≡ j = omega arith in
    present-replaced 0 j f es x h e ∙ ap (λ n. map (λ l. cond (eqb l.number n) (with_f f l) l) (present es)) g

-- where no listener has the number, nothing changes
pub replaced_none : (n : ℕ) (f : Callable) (ls : List Listener) → listener_of n ls ≡ None → map (λ l. cond (eqb l.number n) (with_f f l) l) ls ≡ ls
replaced_none n f [] h = refl
replaced_none n f (l ∷ ls) h = replaced_step n f l ls (eqb l.number n) h (replaced_none n f ls)
  where
    replaced_step : (n : ℕ) (f : Callable) (l : Listener) (ls : List Listener) (b : Bool) → cond b (Some l) (listener_of n ls) ≡ None → (listener_of n ls ≡ None → map (λ y. cond (eqb y.number n) (with_f f y) y) ls ≡ ls) → cond b (with_f f l) l ∷ map (λ y. cond (eqb y.number n) (with_f f y) y) ls ≡ l ∷ ls
    replaced_step n f l ls true e g = cc
    replaced_step n f l ls false e g = ap (λ r. l ∷ r) (g e)

-- The numbers rise.

rise : (k j end : ℕ) (es : List (Option Listener)) → AreNumbered k es → j ≤ k → k + length es ≡ end → RiseWithin j end (present es)
rise k j end [] h l e = omega (arith, l, e)
rise k j end (None ∷ es) h l e = rise (suc k) j end es h.1 (omega (arith, l)) (omega (arith, e))
rise k j end (Some x ∷ es) h l e = (omega (arith, l, h.0 x refl), rise (suc k) (suc x.number) end es h.1 (omega (arith, h.0 x refl)) (omega (arith, e)))

pub own_numbers : (es : List (Option Listener)) → AreNumbered 0 es → RiseWithin 0 (length es) (present es)
own_numbers es h = rise 0 0 (length es) es h (omega arith) (omega arith)
