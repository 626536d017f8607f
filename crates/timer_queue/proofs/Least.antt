-- The timer that is next.
use Rattle.std.proofs.Common.{◌≡◌, ℕ, zero, suc, ◌<◌, ◌≤◌, min, Bool, true, false, cond, eqb, ltb, leb, List, [], ◌∷◌, Option, Some, None, IfSome, IsSomeAnd, MatchOption, All, Contains, refl, sym, ap, ◌∙◌, subst, arith}
use Rattle.std.proofs.lemmas.Bool.{eq-eqb, ne_eqb, ltb-true, ltb-false, le-leb, lt-leb, leb-true, leb-false}
use Rattle.std.proofs.lemmas.Bool.Decides.{nat_tests}
use Rattle.std.proofs.lemmas.List.Elements.{All-cons, All-nil, All-weaker}
use Rattle.std.specs.Option.{option_map}
use Rattle.timer_queue.specs.Queue.{Queue, Timer, timer_of, comes_before, sooner, soonest, number_due, next_due, IsDueAmong, IsLeast, IsNextDue}
use Rattle.timer_queue.specs.declared.slots.TheConstants.{NEVER}
use Rattle.timer_queue.specs.inner.Slots.{present, Stands, AreNumbered, due_in, least_due, first_with}

-- The order of timers.

later : (t u : Timer) → t.due < u.due → comes_before u t ≡ false
later t u h = grind (arith, nat_tests)

asymmetric : (t u : Timer) → comes_before u t ≡ true → comes_before t u ≡ false
asymmetric t u h = grind (arith, nat_tests)

irreflexive : (t : Timer) → comes_before t t ≡ false
irreflexive t = grind (arith, nat_tests)

past_both : (t u w : Timer) → comes_before u t ≡ false → comes_before w u ≡ false → comes_before w t ≡ false
past_both t u w h k = grind (arith, nat_tests)

not_sooner : (w u : Timer) → comes_before w u ≡ false → u.due ≤ w.due
not_sooner w u h = grind (arith, nat_tests)

-- The soonest comes before all others.

contains_head : (t : Timer) (ts : List Timer) → Contains (t ∷ ts) t
contains_head t ts = (zero, omega arith, refl)

contains_tail : (t u : Timer) (ts : List Timer) → Contains ts u → Contains (t ∷ ts) u
contains_tail t u ts h = (suc h.0, omega (arith, h.1), h.2)

record IsSoonest (ts : List Timer) (t : Timer) : Type 0 where
  there : Contains ts t
  least : All (λ u. comes_before u t ≡ false) ts

chosen_soonest : (t u : Timer) (ts : List Timer) (b : Bool) → comes_before u t ≡ b → IsSoonest ts u → IsSoonest (t ∷ ts) (cond b u t)
chosen_soonest t u ts true e h = record {
  there = contains_tail t u ts h.there;
  least = All-cons (λ w. comes_before w u ≡ false) t ts (asymmetric t u e) h.least;
}
chosen_soonest t u ts false e h = record {
  there = contains_head t ts;
  least = All-cons (λ w. comes_before w t ≡ false) t ts (irreflexive t) (All-weaker (λ w. comes_before w u ≡ false) (λ w. comes_before w t ≡ false) (λ w k. past_both t u w e k) ts h.least);
}

next_soonest : (t : Timer) (ts : List Timer) (o : Option Timer) → (o ≡ None → ts ≡ []) → ((u : Timer) → o ≡ Some u → IsSoonest ts u) → IsSoonest (t ∷ ts) (sooner t o)
next_soonest t ts None h k = subst (λ us. IsSoonest (t ∷ us) t) (sym (h refl)) (record { there = contains_head t []; least = All-cons (λ w. comes_before w t ≡ false) t [] (irreflexive t) (All-nil (λ w. comes_before w t ≡ false)) })
next_soonest t ts (Some u) h k = chosen_soonest t u ts (comes_before u t) refl (k u refl)

none-nil : (ts : List Timer) → soonest ts ≡ None → ts ≡ []
none-nil [] e = refl
none-nil (t ∷ ts) e = cc

is_soonest : (ts : List Timer) (t : Timer) → soonest ts ≡ Some t → IsSoonest ts t
is_soonest [] t e = cc
is_soonest (v ∷ ts) t e =
    let same : sooner v (soonest ts) ≡ t = cc in
    subst (IsSoonest (v ∷ ts)) same (next_soonest v ts (soonest ts) (none-nil ts) (is_soonest ts))

next_of : (clock : ℕ) (ts : List Timer) (t : Timer) (b : Bool) → leb t.due clock ≡ b → IsSoonest ts t → MatchOption (cond b (Some t.id) None) (All (λ u. clock < u.due) ts) (λ id. (u : Timer) × IsLeast clock ts id u)
next_of clock ts t true e h = (t, record { number = refl; there = h.there; due = leb-true t.due clock e; least = h.least })
next_of clock ts t false e h = All-weaker (λ u. comes_before u t ≡ false) (λ u. clock < u.due) (λ u k. omega (arith, leb-false t.due clock e, not_sooner u t k)) ts h.least

next_from : (clock : ℕ) (ts : List Timer) (o : Option Timer) → soonest ts ≡ o → MatchOption (number_due clock o) (All (λ u. clock < u.due) ts) (λ id. (u : Timer) × IsLeast clock ts id u)
next_from clock ts None e = subst (λ us. All (λ (u : Timer). clock < u.due) us) (sym (none-nil ts e)) (All-nil (λ u. clock < u.due))
next_from clock ts (Some t) e = next_of clock ts t (leb t.due clock) refl (is_soonest ts t e)

pub is_next : (q : Queue) (clock : ℕ) → IsNextDue clock q (next_due clock q)
is_next q clock = next_from clock q.timers (soonest q.timers) refl

-- The soonest of the slots.

chosen_due : (t u : Timer) → (cond (comes_before u t) u t).due ≡ min t.due u.due
chosen_due t u = grind (arith, nat_tests)

sooner_due : (t : Timer) (o : Option Timer) → t.due < NEVER → (sooner t o).due ≡ min t.due (due_in o)
sooner_due t None h = omega arith
sooner_due t (Some u) h = chosen_due t u

bounded : (ts : List (Option Timer)) → least_due ts ≤ NEVER
bounded [] = omega arith
bounded (t ∷ ts) = omega (arith, bounded ts)

pub soonest_due : (k : ℕ) (ts : List (Option Timer)) → AreNumbered k ts → due_in (soonest (present ts)) ≡ least_due ts
soonest_due k [] h = refl
soonest_due k (None ∷ ts) h = soonest_due (suc k) ts h.1 ∙ omega (arith, bounded ts)
soonest_due k (Some t ∷ ts) h = sooner_due t (soonest (present ts)) (h.0 t refl).due ∙ ap (λ n. min t.due n) (soonest_due (suc k) ts h.1)

above_both : (k : ℕ) (t u : Timer) (b : Bool) → k < t.id → k < u.id → k < (cond b u t).id
above_both k t u true h l = l
above_both k t u false h l = h

soonest-above : (k : ℕ) (ts : List (Option Timer)) → AreNumbered k ts → IfSome (soonest (present ts)) (λ t. k < t.id)
soonest-above k [] h = tt
soonest-above k (None ∷ ts) h = weaker (soonest (present ts)) (soonest-above (suc k) ts h.1)
  where
    weaker : (o : Option Timer) → IfSome o (λ t. suc k < t.id) → IfSome o (λ t. k < t.id)
    weaker None l = tt
    weaker (Some t) l = omega (arith, l)
soonest-above k (Some t ∷ ts) h = both (soonest (present ts)) (soonest-above (suc k) ts h.1)
  where
    both : (o : Option Timer) → IfSome o (λ u. suc k < u.id) → k < (sooner t o).id
    both None l = omega (arith, (h.0 t refl).number)
    both (Some u) l = above_both k t u (comes_before u t) (omega (arith, (h.0 t refl).number)) (omega (arith, l))

-- the first timer of the least moment is the soonest, since the numbers rise
last_first : (t u : Timer) (least : ℕ) (o : Option Timer) (b : Bool) → ltb u.due t.due ≡ b → least ≡ u.due → t.id < u.id → (b ≡ true → o ≡ Some u) → cond (eqb t.due (min t.due least)) (Some t) o ≡ Some (cond (comes_before u t) u t)
last_first t u least o true f e a h =
    rw (ne_eqb t.due (min t.due least) (λ g. omega (arith, g, e, ltb-true u.due t.due f))) (h refl ∙ ap Some (sym (rw f refl)))
last_first t u least o false f e a h =
    rw (eq-eqb t.due (min t.due least) (omega (arith, e, ltb-false u.due t.due f))) (ap Some (grind (arith, nat_tests, f, a)))

first_step : (k : ℕ) (t : Timer) (ts : List (Option Timer)) (o : Option Timer) → soonest (present ts) ≡ o → Stands (suc k) t → due_in (soonest (present ts)) ≡ least_due ts → IfSome (soonest (present ts)) (λ u. suc k < u.id) → (least_due ts < NEVER → first_with (least_due ts) ts ≡ soonest (present ts)) → min t.due (least_due ts) < NEVER → cond (eqb t.due (min t.due (least_due ts))) (Some t) (first_with (min t.due (least_due ts)) ts) ≡ Some (sooner t o)
first_step k t ts None e s d a h l =
    let never : least_due ts ≡ NEVER = sym d ∙ ap due_in e in
    rw (eq-eqb t.due (min t.due (least_due ts)) (omega (arith, never, s.due))) refl
first_step k t ts (Some u) e s d a h l =
    let least : least_due ts ≡ u.due = sym d ∙ ap due_in e in
    let above : suc k < u.id = subst (λ o. IfSome o (λ v. suc k < v.id)) e a in
    let rest : ltb u.due t.due ≡ true → first_with (min t.due (least_due ts)) ts ≡ Some u = λ f.
    let same : min t.due (least_due ts) ≡ least_due ts = omega (arith, ltb-true u.due t.due f, least) in
    ap (λ n. first_with n ts) same ∙ h (omega (arith, least, l, ltb-true u.due t.due f)) ∙ e in
    last_first t u (least_due ts) (first_with (min t.due (least_due ts)) ts) (ltb u.due t.due) refl least (omega (arith, above, s.number)) rest

pub first-soonest : (k : ℕ) (ts : List (Option Timer)) → AreNumbered k ts → least_due ts < NEVER → first_with (least_due ts) ts ≡ soonest (present ts)
first-soonest k [] h l = absurd (omega (arith, l))
first-soonest k (None ∷ ts) h l =
    let same : min NEVER (least_due ts) ≡ least_due ts = omega (arith, l) in
    rw (ne_eqb NEVER (min NEVER (least_due ts)) (λ e. omega (arith, e, l))) (ap (λ n. first_with n ts) same ∙ first-soonest (suc k) ts h.1 (omega (arith, l)))
first-soonest k (Some t ∷ ts) h l =
    first_step k t ts (soonest (present ts)) refl (h.0 t refl) (soonest_due (suc k) ts h.1) (soonest-above (suc k) ts h.1) (first-soonest (suc k) ts h.1) l

-- the soonest is the timer of its number
named_head : (v w : Timer) (o : Option Timer) → w ≡ v → cond (eqb v.id w.id) (Some v) o ≡ Some w
named_head v w o f = rw (eq-eqb v.id w.id (ap (λ (x : Timer). x.id) (sym f))) (ap Some (sym f))

named_of_two : (k : ℕ) (v u t : Timer) (o : Option Timer) (b : Bool) → Stands (suc k) v → suc k < u.id → (u ≡ t → o ≡ Some t) → cond b u v ≡ t → cond (eqb v.id t.id) (Some v) o ≡ Some t
named_of_two k v u t o true s a h g = rw (ne_eqb v.id t.id (λ i. omega (arith, i, a, s.number, ap (λ (x : Timer). x.id) g))) (h g)
named_of_two k v u t o false s a h g = named_head v t o (sym g)

named_step : (k : ℕ) (v t : Timer) (o rest : Option Timer) → Stands (suc k) v → IfSome o (λ u. suc k < u.id) → (o ≡ Some t → rest ≡ Some t) → sooner v o ≡ t → cond (eqb v.id t.id) (Some v) rest ≡ Some t
named_step k v t None rest s a h g = named_head v t rest (sym g)
named_step k v t (Some u) rest s a h g = named_of_two k v u t rest (comes_before u v) s a (λ e. h (ap Some e)) g

pub soonest-named : (k : ℕ) (ts : List (Option Timer)) (t : Timer) → AreNumbered k ts → soonest (present ts) ≡ Some t → timer_of t.id (present ts) ≡ Some t
soonest-named k [] t h e = cc
soonest-named k (None ∷ ts) t h e = soonest-named (suc k) ts t h.1 e
soonest-named k (Some v ∷ ts) t h e =
    let same : sooner v (soonest (present ts)) ≡ t = cc in
    named_step k v t (soonest (present ts)) (timer_of t.id (present ts)) (h.0 v refl) (soonest-above (suc k) ts h.1) (soonest-named (suc k) ts t h.1) same

pub is_due : (clock : ℕ) (ts : List Timer) (t : Timer) → timer_of t.id ts ≡ Some t → t.due ≤ clock → IsSomeAnd (timer_of t.id ts) (λ u. u.due ≤ clock)
is_due clock ts t e h = subst (λ o. IsSomeAnd o (λ u. u.due ≤ clock)) (sym e) h

-- The next one by the least moment.

nobody : (k : ℕ) (ts : List (Option Timer)) → AreNumbered k ts → least_due ts ≡ NEVER → present ts ≡ []
nobody k [] h e = refl
nobody k (None ∷ ts) h e = nobody (suc k) ts h.1 (omega (arith, e, bounded ts))
nobody k (Some t ∷ ts) h e = absurd (omega (arith, e, (h.0 t refl).due))

pub never_due : (clock : ℕ) (ts : List (Option Timer)) → AreNumbered 0 ts → least_due ts ≡ NEVER → number_due clock (soonest (present ts)) ≡ None
never_due clock ts h e = ap (λ us. number_due clock (soonest us)) (nobody 0 ts h e)

late : (clock : ℕ) (o : Option Timer) → clock < due_in o → number_due clock o ≡ None
late clock None h = refl
late clock (Some t) h = rw (lt-leb t.due clock h) refl

pub not_yet : (clock : ℕ) (ts : List (Option Timer)) → AreNumbered 0 ts → clock < least_due ts → number_due clock (soonest (present ts)) ≡ None
not_yet clock ts h l = late clock (soonest (present ts)) (omega (arith, l, soonest_due 0 ts h))

on_time : (clock : ℕ) (o : Option Timer) → due_in o ≤ clock → option_map (λ (t : Timer). t.id) o ≡ number_due clock o
on_time clock None h = refl
on_time clock (Some t) h = sym (rw (le-leb t.due clock h) refl)

pub next_number : (clock least : ℕ) (ts : List (Option Timer)) → AreNumbered 0 ts → least ≡ least_due ts → (least ≡ NEVER → ⊥) → least ≤ clock → option_map (λ (t : Timer). t.id) (first_with least ts) ≡ number_due clock (soonest (present ts))
next_number clock least ts h e n l =
    let below : least_due ts < NEVER = omega (arith, e, n, bounded ts) in
    ap (λ m. option_map (λ (t : Timer). t.id) (first_with m ts)) e ∙ ap (option_map (λ (t : Timer). t.id)) (first-soonest 0 ts h below)
    ∙ on_time clock (soonest (present ts)) (omega (arith, l, e, soonest_due 0 ts h))

due_from : (clock : ℕ) (ts : List (Option Timer)) (o : Option Timer) → AreNumbered 0 ts → soonest (present ts) ≡ o → IfSome (number_due clock o) (λ id. IsDueAmong id clock (present ts))
due_from clock ts None h e = tt
due_from clock ts (Some t) h e = due_at (leb t.due clock) refl (soonest-named 0 ts t h e)
  where
    due_at : (b : Bool) → leb t.due clock ≡ b → timer_of t.id (present ts) ≡ Some t → IfSome (cond b (Some t.id) None) (λ id. IsDueAmong id clock (present ts))
    due_at true f g = is_due clock (present ts) t g (leb-true t.due clock f)
    due_at false f g = tt

pub next_is_due : (clock : ℕ) (ts : List (Option Timer)) → AreNumbered 0 ts → IfSome (number_due clock (soonest (present ts))) (λ id. IsDueAmong id clock (present ts))
next_is_due clock ts h = due_from clock ts (soonest (present ts)) h refl
