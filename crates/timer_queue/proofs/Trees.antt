-- Trees of slots: what their roots know.
use Rattle.std.proofs.Common.{◌≡◌, ℕ, zero, suc, ◌+◌, ◌-◌, ◌/◌, ◌<◌, ◌≤◌, min, Bool, true, false, cond, eqb, List, [], ◌∷◌, ◌++◌, length, get_or, set, take, drop, replicate, slice_get, Option, Some, None, refl, sym, ap, ◌∙◌, subst, arith}
use Rattle.std.proofs.lemmas.Bool.{eqb-false, eq-eqb, ne_eqb}
use Rattle.std.proofs.lemmas.List.{append-nil, drop_all, take_rest, get_or-replicate, take-replicate, drop-replicate, set_at, nil_from_length, length-take, length-drop, length-set, length-append, length-map, length-replicate, take-set, take_at, take-append-drop, drop_at, drop-set-lt, drop_more, get_or-set_same, get_or_at, map-append, set_split, set-append_left, set-append_right, map-set}
use Rattle.std.proofs.lemmas.Slice.{drop-append-drop}
use borrow.Rule.Slice.PartMut.{put_mid}
use Rattle.std.proofs.lemmas.Option.{slice_get-get_or}
use Rattle.timer_queue.specs.Queue.{Timer}
use Rattle.timer_queue.specs.declared.slots.Slot.{Slot}
use Rattle.timer_queue.specs.declared.slots.TheConstants.{NEVER}
use Rattle.timer_queue.specs.inner.Slots.{timers_in, due_in, least_due, first_with, middle, before, behind, least_at, kept, IsKept, AreHalvesKept}

-- However high a tree may be.

kept-nil : (n : ℕ) → kept n []
kept-nil zero = tt
kept-nil (suc n) = ((λ h. absurd (omega (arith, h))), kept-nil n, kept-nil n)

short_before : (ss : List Slot) (n : ℕ) → length ss ≤ suc n → length (before ss) ≤ n
short_before ss n h = omega (arith, length-take (length ss / 2) ss)

short_behind : (ss : List Slot) (n : ℕ) → length ss ≤ suc n → length (behind ss) ≤ n
short_behind ss n h = omega (arith, length-drop (length ss / 2 + 1) ss)

kept-same : (m n : ℕ) (ss : List Slot) → length ss ≤ m → length ss ≤ n → kept m ss → kept n ss
kept-same m zero ss h k t = tt
kept-same zero (suc n) ss h k t = subst (kept (suc n)) (sym (nil_from_length ss (omega arith))) (kept-nil (suc n))
kept-same (suc m) (suc n) ss h k t =
    (t.0, kept-same m n (before ss) (short_before ss m h) (short_before ss n k) t.1, kept-same m n (behind ss) (short_behind ss m h) (short_behind ss n k) t.2)

-- A tree and its halves.

opened : (ss : List Slot) → IsKept ss → kept (suc (length ss)) ss
opened ss k = kept-same (length ss) (suc (length ss)) ss (omega arith) (omega arith) k

pub root_knows : (ss : List Slot) → 0 < length ss → IsKept ss → least_at (slice_get ss (middle ss)) ≡ least_due (timers_in ss)
root_knows ss h k = (opened ss k).0 h

pub before_kept : (ss : List Slot) → IsKept ss → IsKept (before ss)
before_kept ss k = kept-same (length ss) (length (before ss)) (before ss) (short_before ss (length ss) (omega arith)) (omega arith) (opened ss k).1

pub behind_kept : (ss : List Slot) → IsKept ss → IsKept (behind ss)
behind_kept ss k = kept-same (length ss) (length (behind ss)) (behind ss) (short_behind ss (length ss) (omega arith)) (omega arith) (opened ss k).2

closed : (ss : List Slot) → (0 < length ss → least_at (slice_get ss (middle ss)) ≡ least_due (timers_in ss)) → IsKept (before ss) → IsKept (behind ss) → IsKept ss
closed ss h a b =
    let t : kept (suc (length ss)) ss =
    (h, kept-same (length (before ss)) (length ss) (before ss) (omega arith) (short_before ss (length ss) (omega arith)) a, kept-same (length (behind ss)) (length ss) (behind ss) (omega arith) (short_behind ss (length ss) (omega arith)) b) in
    kept-same (suc (length ss)) (length ss) ss (omega arith) (omega arith) t

-- the same, where the parts are known under other names
closed-as : (ss p q : List Slot) (m : ℕ) → m ≡ middle ss → take m ss ≡ p → drop (m + 1) ss ≡ q → (0 < length ss → least_at (slice_get ss m) ≡ least_due (timers_in ss)) → IsKept p → IsKept q → IsKept ss
closed-as ss p q m e f g h a b =
    closed ss (subst (λ k. 0 < length ss → least_at (slice_get ss k) ≡ least_due (timers_in ss)) e h) (subst IsKept (sym f ∙ ap (λ k. take k ss) e) a) (subst IsKept (sym g ∙ ap (λ k. drop (k + 1) ss) e) b)

halves-as : (ss p q : List Slot) (m : ℕ) → m ≡ middle ss → take m ss ≡ p → drop (m + 1) ss ≡ q → IsKept p → IsKept q → AreHalvesKept ss
halves-as ss p q m e f g a b = (subst IsKept (sym f ∙ ap (λ k. take k ss) e) a, subst IsKept (sym g ∙ ap (λ k. drop (k + 1) ss) e) b)

-- The least moment.

least-bounded : (ts : List (Option Timer)) → least_due ts ≤ NEVER
least-bounded [] = omega arith
least-bounded (t ∷ ts) = omega (arith, least-bounded ts)

least-around : (p q : List Slot) (x : Slot) → least_due (timers_in (p ++ x ∷ q)) ≡ min (min (due_in x.timer) (least_due (timers_in p))) (least_due (timers_in q))
least-around [] q x = omega (arith, least-bounded (timers_in q))
least-around (s ∷ p) q x = omega (arith, least-around p q x)

pub around : (ss : List Slot) (m : ℕ) (d : Slot) → m < length ss → ss ≡ take m ss ++ get_or ss m d ∷ drop (m + 1) ss
around ss m d h = sym (take-append-drop m ss) ∙ ap (λ r. take m ss ++ r) (drop_more ss m d h)

within : (ss : List Slot) → 0 < length ss → middle ss < length ss
within ss h = omega arith

pub least-parts : (ss : List Slot) (d : Slot) → 0 < length ss → least_due (timers_in ss) ≡ min (min (due_in (get_or ss (middle ss) d).timer) (least_due (timers_in (before ss)))) (least_due (timers_in (behind ss)))
least-parts ss d h = ap (λ r. least_due (timers_in r)) (around ss (middle ss) d (within ss h)) ∙ least-around (before ss) (behind ss) (get_or ss (middle ss) d)

pub root_least : (ss : List Slot) (d : Slot) → 0 < length ss → IsKept ss → (get_or ss (middle ss) d).least ≡ least_due (timers_in ss)
root_least ss d h k = sym (ap least_at (slice_get-get_or ss (middle ss) d (within ss h))) ∙ root_knows ss h k

-- A root learns what its halves know.

root_set : (ss : List Slot) (m : ℕ) (x : Slot) → m < length ss → least_at (slice_get (set ss m x) m) ≡ x.least
root_set ss m x h = ap least_at (slice_get-get_or (set ss m x) m x (omega (arith, length-set ss m x)) ∙ ap Some (get_or-set_same ss m x x h))

pub settled : (ss : List Slot) (w : ℕ) (t : Option Timer) → 0 < length ss → AreHalvesKept ss → w ≡ min (min (due_in t) (least_due (timers_in (before ss)))) (least_due (timers_in (behind ss))) → IsKept (set ss (middle ss) record { timer = t; least = w })
settled ss w t h k e =
    let x : Slot = record { timer = t; least = w } in
    let m : ℕ = middle ss in
    let i = within ss h in
    let next : suc m ≡ m + 1 = omega arith in
    let least : least_due (timers_in (set ss m x)) ≡ w = ap (λ r. least_due (timers_in r)) (set_split ss m x i ∙ ap (λ n. take m ss ++ x ∷ drop n ss) next) ∙ least-around (take m ss) (drop (m + 1) ss) x ∙ sym e in
    closed-as (set ss m x) (take m ss) (drop (m + 1) ss) m (ap (λ n. n / 2) (sym (length-set ss m x))) (take-set ss m x) (drop-set-lt (m + 1) ss m x (omega arith)) (λ _. root_set ss m x i ∙ sym least) k.0 k.1

pub timers-kept : (ss : List Slot) (m w : ℕ) (d : Slot) → timers_in (set ss m record { timer = (get_or ss m d).timer; least = w }) ≡ timers_in ss
timers-kept [] m w d = refl
timers-kept (s ∷ ss) zero w d = refl
timers-kept (s ∷ ss) (suc m) w d = ap (λ r. s.timer ∷ r) (timers-kept ss m w d)

-- A timer is put into one half, or into the root.

pub put_before : (ss ys zs : List Slot) (at : ℕ) (t : Option Timer) → zs ≡ ys ++ drop (middle ss) ss → at < middle ss → IsKept ss → IsKept ys → timers_in ys ≡ set (timers_in (before ss)) at t → AreHalvesKept zs × (timers_in zs ≡ set (timers_in ss) at t)
put_before ss ys zs at t e h k l f =
    let m : ℕ = middle ss in
    let n : length ys ≡ m = omega (arith, length-map ys (λ (s : Slot). s.timer), ap length f, length-set (timers_in (before ss)) at t, length-map (before ss) (λ (s : Slot). s.timer), length-take m ss) in
    let long : length zs ≡ length ss = ap length e ∙ omega (arith, length-append ys (drop m ss), length-drop m ss) in
    let timers : timers_in zs ≡ set (timers_in ss) at t =
    ap timers_in e ∙ map-append (λ (s : Slot). s.timer) ys (drop m ss) ∙ ap (λ r. r ++ timers_in (drop m ss)) f
    ∙ sym (set-append_left (timers_in (take m ss)) (timers_in (drop m ss)) at t (omega (arith, length-map (take m ss) (λ (s : Slot). s.timer), length-take m ss)))
    ∙ ap (λ r. set r at t) (sym (map-append (λ (s : Slot). s.timer) (take m ss) (drop m ss)) ∙ ap timers_in (take-append-drop m ss)) in
    (halves-as zs ys (drop (m + 1) ss) m (ap (λ n. n / 2) (sym long)) (ap (take m) e ∙ take_at ys (drop m ss) m n) (ap (drop (m + 1)) e ∙ drop-append-drop m ss ys (m + 1) (omega arith) n) l (behind_kept ss k), timers)

pub put_behind : (ss ys zs : List Slot) (at : ℕ) (t : Option Timer) → zs ≡ take (middle ss + 1) ss ++ ys → middle ss < at → at < length ss → IsKept ss → IsKept ys → timers_in ys ≡ set (timers_in (behind ss)) (at - middle ss - 1) t → AreHalvesKept zs × (timers_in zs ≡ set (timers_in ss) at t)
put_behind ss ys zs at t e h i k l f =
    let m : ℕ = middle ss in
    let d : ℕ = length (take (m + 1) ss) in
    let next : m + 1 ≡ suc m = omega arith in
    let dn : d ≡ m + 1 = omega (arith, length-take (m + 1) ss) in
    let n : length ys ≡ length ss - (m + 1) = omega (arith, length-map ys (λ (s : Slot). s.timer), ap length f, length-set (timers_in (behind ss)) (at - m - 1) t, length-map (behind ss) (λ (s : Slot). s.timer), length-drop (m + 1) ss) in
    let long : length zs ≡ length ss = ap length e ∙ omega (arith, length-append (take (m + 1) ss) ys) in
    let front : take m zs ≡ take m ss = ap (take m) e ∙ ap (λ n. take m (take n ss ++ ys)) next ∙ take_less m ss ys (omega arith) in
    let timers : timers_in zs ≡ set (timers_in ss) at t =
    ap timers_in e ∙ map-append (λ (s : Slot). s.timer) (take (m + 1) ss) ys ∙ ap (λ r. timers_in (take (m + 1) ss) ++ r) (f ∙ ap (λ j. set (timers_in (behind ss)) j t) (omega arith))
    ∙ sym (set-append_right (timers_in (take (m + 1) ss)) (timers_in (drop (m + 1) ss)) (m + 1) at t (length-map (take (m + 1) ss) (λ (s : Slot). s.timer) ∙ dn) (omega arith))
    ∙ ap (λ r. set r at t) (sym (map-append (λ (s : Slot). s.timer) (take (m + 1) ss) (drop (m + 1) ss)) ∙ ap timers_in (take-append-drop (m + 1) ss)) in
    (halves-as zs (take m ss) ys m (ap (λ n. n / 2) (sym long)) front (ap (drop (m + 1)) e ∙ drop_at (take (m + 1) ss) ys (m + 1) dn) (before_kept ss k) l, timers)
  where
    take_less : (m : ℕ) (xs ys : List Slot) → m < length xs → take m (take (suc m) xs ++ ys) ≡ take m xs
    take_less zero xs ys h = refl
    take_less (suc m) [] ys h = absurd (omega (arith, h))
    take_less (suc m) (x ∷ xs) ys h = ap (λ r. x ∷ r) (take_less m xs ys (omega (arith, h)))

pub put_root : (ss : List Slot) (x : Slot) → 0 < length ss → IsKept ss → AreHalvesKept (set ss (middle ss) x) × (timers_in (set ss (middle ss) x) ≡ set (timers_in ss) (middle ss) x.timer)
put_root ss x h k =
    let m : ℕ = middle ss in
    (halves-as (set ss m x) (take m ss) (drop (m + 1) ss) m (ap (λ n. n / 2) (sym (length-set ss m x))) (take-set ss m x) (drop-set-lt (m + 1) ss m x (omega arith)) (before_kept ss k) (behind_kept ss k), map-set (λ (s : Slot). s.timer) ss m x)

-- The first timer of a moment.

first_chosen : (b : Bool) (t x y : Option Timer) → (b ≡ false → x ≡ y) → cond b t x ≡ cond b t y
first_chosen true t x y h = refl
first_chosen false t x y h = h refl

first-front : (ts us : List (Option Timer)) (due : ℕ) → least_due ts ≡ due → due < NEVER → first_with due (ts ++ us) ≡ first_with due ts
first-front [] us due e h = absurd (omega arith)
first-front (t ∷ ts) us due e h = first_chosen (eqb (due_in t) due) t _ _ (λ f. first-front ts us due (omega (arith, eqb-false (due_in t) due f)) h)

first-past : (ts us : List (Option Timer)) (due : ℕ) → due < least_due ts → first_with due (ts ++ us) ≡ first_with due us
first-past [] us due h = refl
first-past (t ∷ ts) us due h = rw (ne_eqb (due_in t) due (λ e. omega (arith, e))) (first-past ts us due (omega arith))

first_root : (t : Option Timer) (us : List (Option Timer)) (due : ℕ) → due_in t ≡ due → first_with due (t ∷ us) ≡ t
first_root t us due e = rw (eq-eqb (due_in t) due e) refl

timers-around : (ss : List Slot) (d : Slot) → 0 < length ss → timers_in ss ≡ timers_in (before ss) ++ (get_or ss (middle ss) d).timer ∷ timers_in (behind ss)
timers-around ss d h = ap timers_in (around ss (middle ss) d (within ss h)) ∙ map-append (λ (s : Slot). s.timer) (before ss) (get_or ss (middle ss) d ∷ behind ss)

pub found_before : (ss : List Slot) (d : Slot) (due : ℕ) → 0 < length ss → due < NEVER → least_due (timers_in (before ss)) ≡ due → first_with due (timers_in ss) ≡ first_with due (timers_in (before ss))
found_before ss d due h n e = ap (first_with due) (timers-around ss d h) ∙ first-front (timers_in (before ss)) _ due e n

pub found_root : (ss : List Slot) (d : Slot) (due : ℕ) → 0 < length ss → due < least_due (timers_in (before ss)) → due_in (get_or ss (middle ss) d).timer ≡ due → first_with due (timers_in ss) ≡ (get_or ss (middle ss) d).timer
found_root ss d due h n e = ap (first_with due) (timers-around ss d h) ∙ first-past (timers_in (before ss)) _ due n ∙ first_root _ _ due e

pub found_behind : (ss : List Slot) (d : Slot) (due : ℕ) → 0 < length ss → due < least_due (timers_in (before ss)) → (due_in (get_or ss (middle ss) d).timer ≡ due → ⊥) → first_with due (timers_in ss) ≡ first_with due (timers_in (behind ss))
found_behind ss d due h n e = ap (first_with due) (timers-around ss d h) ∙ first-past (timers_in (before ss)) _ due n ∙ rw (ne_eqb (due_in (get_or ss (middle ss) d).timer) due e) refl

-- A tree that grows: the old tree stands before a new root, and slots without timers behind it.

timers-vacant : (n : ℕ) → timers_in (replicate n record { timer = None; least = NEVER }) ≡ replicate n None
timers-vacant zero = refl
timers-vacant (suc n) = ap (λ r. None ∷ r) (timers-vacant n)

least-vacant : (n : ℕ) → least_due (timers_in (replicate n record { timer = None; least = NEVER })) ≡ NEVER
least-vacant zero = refl
least-vacant (suc n) = omega (arith, least-vacant n)

kept-vacant : (m n : ℕ) → kept m (replicate n record { timer = None; least = NEVER })
kept-vacant zero n = tt
kept-vacant (suc m) n =
    let vs : List Slot = replicate n record { timer = None; least = NEVER } in
    let long : length vs ≡ n = length-replicate n _ in (
      λ h. ap least_at (slice_get-get_or vs (length vs / 2) record { timer = None; least = NEVER } (omega arith) ∙ ap Some (get_or-replicate n (length vs / 2) _ _ (omega arith))) ∙ sym (least-vacant n),
      subst (kept m) (sym (take-replicate (length vs / 2) n _ (omega arith))) (kept-vacant m (length vs / 2)),
      subst (kept m) (sym (drop-replicate (length vs / 2 + 1) n _)) (kept-vacant m (n - (length vs / 2 + 1))),
    )

-- the slots after they have grown, with what the old root knows in the new one
pub grown : (ss zs : List Slot) (w : ℕ) → IsKept ss → w ≡ least_due (timers_in ss) → zs ≡ set (ss ++ replicate (length ss + 1) record { timer = None; least = NEVER }) (length ss) record { timer = None; least = w } → IsKept zs × (timers_in zs ≡ timers_in ss ++ replicate (length ss + 1) None)
grown ss zs w k f e =
    let n : ℕ = length ss in
    let v : Slot = record { timer = None; least = NEVER } in
    let x : Slot = record { timer = None; least = w } in
    let next : n + 1 ≡ suc n = omega arith in
    let is : zs ≡ ss ++ x ∷ replicate n v = e ∙ ap (λ j. set (ss ++ replicate j v) n x) next ∙ set_at ss v (replicate n v) x n refl in
    let long : length zs ≡ n + suc n = ap length is ∙ omega (arith, length-append ss (x ∷ replicate n v), length-replicate n v) in
    let half : n ≡ middle zs = omega (arith, ap (λ j. j / 2) long) in
    let least : least_due (timers_in zs) ≡ w = ap (λ r. least_due (timers_in r)) is ∙ omega (arith, least-around ss (replicate n v) x, least-vacant n, least-bounded (timers_in ss)) in
    let root : least_at (slice_get zs n) ≡ w = ap least_at (ap (λ r. slice_get r n) is ∙ slice_get-get_or (ss ++ x ∷ replicate n v) n x (omega (arith, long, ap length is)) ∙ ap Some (get_or_at ss x (replicate n v) x n refl)) in (
      closed-as zs ss (replicate n v) n half (ap (take n) is ∙ take_at ss (x ∷ replicate n v) n refl) (ap (drop (n + 1)) is ∙ ap (λ j. drop j (ss ++ x ∷ replicate n v)) next ∙ past ss x (replicate n v)) (λ _. root ∙ sym least) k (kept-vacant _ n),
      ap timers_in is ∙ map-append (λ (s : Slot). s.timer) ss (x ∷ replicate n v) ∙ ap (λ r. timers_in ss ++ None ∷ r) (timers-vacant n) ∙ ap (λ j. timers_in ss ++ replicate j None) (sym next),
    )
  where
    past : (p : List Slot) (y : Slot) (q : List Slot) → drop (suc (length p)) (p ++ y ∷ q) ≡ q
    past [] y q = refl
    past (z ∷ p) y q = past p y q

-- Parts as the code has them.

pub rest_is : (ss : List Slot) → take (length ss - (middle ss + 1)) (drop (middle ss + 1) ss) ≡ behind ss
rest_is ss = take_rest ss (middle ss + 1)

pub mid_at_end : (a : ℕ) (ss ys : List Slot) → put_mid a (length ss - a) ss ys ≡ take a ss ++ ys
mid_at_end a ss ys =
    let none : drop (length ss - a) (drop a ss) ≡ [] = drop_all (length ss - a) (drop a ss) (omega (arith, length-drop a ss)) in
    ap (λ r. take a ss ++ (ys ++ r)) none ∙ ap (λ r. take a ss ++ r) (append-nil ys)

pub of_both : (w m r t l u v x : ℕ) → w ≡ min m r → m ≡ min t l → t ≡ u → l ≡ v → r ≡ x → w ≡ min (min u v) x
of_both w m r t l u v x a b c d e = a ∙ ap (λ n. min n r) (b ∙ ap (λ n. min n l) c ∙ ap (min u) d) ∙ ap (min (min u v)) e

pub some_from : (n : ℕ) (b : Bool) → b ≡ eqb n 0 → b ≡ false → 0 < n
some_from n b e f = let h : n ≡ 0 → ⊥ = eqb-false n 0 (sym e ∙ f) in omega (arith, h)
