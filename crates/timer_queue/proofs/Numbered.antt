-- Timers that stand in the slots of their numbers.
use Rattle.std.proofs.Common.{◌≡◌, ℕ, zero, suc, ◌+◌, ◌-◌, ◌<◌, ◌≤◌, max, Bool, true, false, cond, eqb, List, [], ◌∷◌, ◌++◌, length, get_or, set, drop, replicate, slice_get, Option, Some, None, IfSome, refl, sym, ap, ◌∙◌, subst, arith}
use Rattle.std.proofs.lemmas.Bool.{eq-eqb, ne_eqb}
use Rattle.std.proofs.lemmas.List.{drop-append-le, drop-set-lt, length-map, length-set}
use Rattle.std.proofs.lemmas.Option.{slice_get-map, slice_get-get_or, slice_get_past}
use Rattle.std.specs.List.{cons_option}
use Rattle.std.specs.Option.{ForSome, option_map, option_and_then, option_flatten}
use Rattle.mug_text.specs.declared.limits.TheConstants.{SAFE_END}
use Rattle.timer_queue.specs.Queue.{Timer, timer_of, changed, set_anew}
use Rattle.timer_queue.specs.declared.fault.TheConstants.{TIMER_LIMIT}
use Rattle.timer_queue.specs.declared.slots.Slot.{Slot}
use Rattle.timer_queue.specs.inner.Slots.{timers_in, present, Stands, AreNumbered, IsKept, IsLonger, Holds}

chosen : {X : Type 0} (b : Bool) (x y : X) → b ≡ true → cond b x y ≡ x
chosen b x y e = rw e refl

other : {X : Type 0} (b : Bool) (x y : X) → b ≡ false → cond b x y ≡ y
other b x y e = rw e refl

unlike : (t : Timer) (k n : ℕ) → Stands (suc k) t → (suc k ≡ n → ⊥) → eqb t.id n ≡ false
unlike t k n s h = ne_eqb t.id n (λ e. h (sym s.number ∙ e))

-- The timer of a number.

pub none-below : (n k : ℕ) (ts : List (Option Timer)) → AreNumbered k ts → n ≤ k → timer_of n (present ts) ≡ None
none-below n k [] h l = refl
none-below n k (None ∷ ts) h l = none-below n (suc k) ts h.1 (omega arith)
none-below n k (Some t ∷ ts) h l =
    other (eqb t.id n) (Some t) (timer_of n (present ts)) (unlike t k n (h.0 t refl) (λ e. omega (arith, e))) ∙ none-below n (suc k) ts h.1 (omega arith)

named-at : (k j : ℕ) (ts : List (Option Timer)) → AreNumbered k ts → timer_of (suc (k + j)) (present ts) ≡ option_flatten (slice_get ts j)
named-at k j [] h = refl
named-at k zero (None ∷ ts) h = none-below (suc (k + zero)) (suc k) ts h.1 (omega arith)
named-at k zero (Some t ∷ ts) h = let s = h.0 t refl in chosen (eqb t.id (suc (k + zero))) (Some t) (timer_of (suc (k + zero)) (present ts)) (eq-eqb t.id (suc (k + zero)) (omega (arith, s.number)))
named-at k (suc j) (None ∷ ts) h =
    let e : suc (k + suc j) ≡ suc (suc k + j) = omega arith in
    ap (λ n. timer_of n (present ts)) e ∙ named-at (suc k) j ts h.1
named-at k (suc j) (Some t ∷ ts) h =
    let e : suc (k + suc j) ≡ suc (suc k + j) = omega arith in
    other (eqb t.id (suc (k + suc j))) (Some t) (timer_of (suc (k + suc j)) (present ts)) (unlike t k (suc (k + suc j)) (h.0 t refl) (λ f. omega (arith, f)))
    ∙ ap (λ n. timer_of n (present ts)) e ∙ named-at (suc k) j ts h.1

-- of number id is the timer in the slot before that place
pub found_at : (ts : List (Option Timer)) (id : ℕ) → AreNumbered 0 ts → 0 < id → timer_of id (present ts) ≡ option_flatten (slice_get ts (id - 1))
found_at ts id h l =
    let e : id ≡ suc (0 + (id - 1)) = omega arith in
    ap (λ n. timer_of n (present ts)) e ∙ named-at 0 (id - 1) ts h

pub none-past : (ss : List Slot) (id : ℕ) → AreNumbered 0 (timers_in ss) → 0 < id → length ss ≤ id - 1 → timer_of id (present (timers_in ss)) ≡ None
none-past ss id h l p = found_at (timers_in ss) id h l ∙ ap option_flatten (slice_get_past (timers_in ss) (id - 1) (omega (arith, length-map ss (λ (s : Slot). s.timer))))

pub slot_timer : (ss : List Slot) (id : ℕ) (d : Slot) → AreNumbered 0 (timers_in ss) → 0 < id → id - 1 < length ss → timer_of id (present (timers_in ss)) ≡ (get_or ss (id - 1) d).timer
slot_timer ss id d h l p =
    found_at (timers_in ss) id h l
    ∙ ap option_flatten (slice_get-map (λ (s : Slot). s.timer) ss (id - 1) ∙ ap (option_map (λ (s : Slot). s.timer)) (slice_get-get_or ss (id - 1) d p))

some_stands : (t : Option Timer) (n : ℕ) → ForSome t (Stands n) → IfSome t (Stands n)
some_stands None n h = tt
some_stands (Some t) n h = h t refl

stands-at : (k j : ℕ) (ts : List (Option Timer)) → AreNumbered k ts → IfSome (option_flatten (slice_get ts j)) (Stands (suc (k + j)))
stands-at k j [] h = tt
stands-at k zero (t ∷ ts) h =
    let e : suc k ≡ suc (k + zero) = omega arith in
    subst (λ n. IfSome t (Stands n)) e (some_stands t (suc k) h.0)
stands-at k (suc j) (t ∷ ts) h =
    let e : suc (suc k + j) ≡ suc (k + suc j) = omega arith in
    subst (λ n. IfSome (option_flatten (slice_get ts j)) (Stands n)) e (stands-at (suc k) j ts h.1)

pub timer_stands : (ts : List (Option Timer)) (id : ℕ) → AreNumbered 0 ts → 0 < id → IfSome (timer_of id (present ts)) (Stands id)
timer_stands ts id h l =
    let e : suc (0 + (id - 1)) ≡ id = omega arith in
    subst (λ t. IfSome t (Stands id)) (sym (found_at ts id h l)) (subst (λ n. IfSome (option_flatten (slice_get ts (id - 1))) (Stands n)) e (stands-at 0 (id - 1) ts h))

-- A timer that changes.

present-cons : (t : Option Timer) (ts : List (Option Timer)) → present (t ∷ ts) ≡ cons_option t (present ts)
present-cons None ts = refl
present-cons (Some t) ts = refl

unnamed_step : (t : Timer) (y : Option Timer) (b : Bool) (o : Option Timer) (cs ts : List Timer) → (o ≡ None → cs ≡ ts) → cond b (Some t) o ≡ None → cons_option (cond b y (Some t)) cs ≡ t ∷ ts
unnamed_step t y true o cs ts h e = cc
unnamed_step t y false o cs ts h e = ap (λ r. t ∷ r) (h e)

pub changed-unnamed : (n : ℕ) (change : Timer → Option Timer) (ts : List Timer) → timer_of n ts ≡ None → changed n change ts ≡ ts
changed-unnamed n change [] h = refl
changed-unnamed n change (t ∷ ts) h = unnamed_step t (change t) (eqb t.id n) (timer_of n ts) (changed n change ts) ts (changed-unnamed n change ts) h

changed-at : (k j : ℕ) (ts : List (Option Timer)) (change : Timer → Option Timer) (x : Option Timer) → AreNumbered k ts → j < length ts → x ≡ option_and_then change (option_flatten (slice_get ts j)) → present (set ts j x) ≡ changed (suc (k + j)) change (present ts)
changed-at k j [] change x h l e = absurd (omega (arith, l))
changed-at k zero (None ∷ ts) change x h l e =
    ap (λ y. present (y ∷ ts)) e ∙ sym (changed-unnamed (suc (k + zero)) change (present ts) (none-below (suc (k + zero)) (suc k) ts h.1 (omega arith)))
changed-at k zero (Some t ∷ ts) change x h l e =
    let s = h.0 t refl in
    let n : ℕ = suc (k + zero) in
    let named = eq-eqb t.id n (omega (arith, s.number)) in
    ap (λ y. present (y ∷ ts)) e ∙ present-cons (change t) ts
    ∙ ap (λ r. cons_option (change t) r) (sym (changed-unnamed n change (present ts) (none-below n (suc k) ts h.1 (omega arith))))
    ∙ ap (λ y. cons_option y (changed n change (present ts))) (sym (chosen (eqb t.id n) (change t) (Some t) named))
changed-at k (suc j) (None ∷ ts) change x h l e =
    let f : suc (suc k + j) ≡ suc (k + suc j) = omega arith in
    changed-at (suc k) j ts change x h.1 (omega (arith, l)) e ∙ ap (λ n. changed n change (present ts)) f
changed-at k (suc j) (Some t ∷ ts) change x h l e =
    let f : suc (suc k + j) ≡ suc (k + suc j) = omega arith in
    let n : ℕ = suc (k + suc j) in
    ap (λ r. t ∷ r) (changed-at (suc k) j ts change x h.1 (omega (arith, l)) e ∙ ap (λ m. changed m change (present ts)) f)
    ∙ ap (λ y. cons_option y (changed n change (present ts))) (sym (other (eqb t.id n) (change t) (Some t) (unlike t k n (h.0 t refl) (λ g. omega (arith, g)))))

-- the timer of number id is changed in its slot
pub changed_in : (ts : List (Option Timer)) (id : ℕ) (change : Timer → Option Timer) (t : Timer) → AreNumbered 0 ts → 0 < id → id - 1 < length ts → timer_of id (present ts) ≡ Some t → present (set ts (id - 1) (change t)) ≡ changed id change (present ts)
changed_in ts id change t h l p e =
    let f : suc (0 + (id - 1)) ≡ id = omega arith in
    changed-at 0 (id - 1) ts change (change t) h p (sym (ap (option_and_then change) (sym (found_at ts id h l) ∙ e))) ∙ ap (λ n. changed n change (present ts)) f

numbered-set : (k j : ℕ) (ts : List (Option Timer)) (x : Option Timer) → AreNumbered k ts → ForSome x (Stands (suc (k + j))) → AreNumbered k (set ts j x)
numbered-set k j [] x h s = tt
numbered-set k zero (t ∷ ts) x h s =
    let e : suc (k + zero) ≡ suc k = omega arith in
    (subst (λ n. ForSome x (Stands n)) e s, h.1)
numbered-set k (suc j) (t ∷ ts) x h s =
    let e : suc (k + suc j) ≡ suc (suc k + j) = omega arith in
    (h.0, numbered-set (suc k) j ts x h.1 (subst (λ n. ForSome x (Stands n)) e s))

pub numbered_in : (ts : List (Option Timer)) (id : ℕ) (x : Option Timer) → AreNumbered 0 ts → 0 < id → ForSome x (Stands id) → AreNumbered 0 (set ts (id - 1) x)
numbered_in ts id x h l s =
    let e : id ≡ suc (0 + (id - 1)) = omega arith in
    numbered-set 0 (id - 1) ts x h (subst (λ n. ForSome x (Stands n)) e s)

-- Slots without timers behind the others.

numbered-vacant : (k n : ℕ) → AreNumbered k (replicate n None)
numbered-vacant k zero = tt
numbered-vacant k (suc n) = (λ t e. cc, numbered-vacant (suc k) n)

pub numbered-longer : (k n : ℕ) (ts : List (Option Timer)) → AreNumbered k ts → AreNumbered k (ts ++ replicate n None)
numbered-longer k n [] h = numbered-vacant k n
numbered-longer k n (t ∷ ts) h = (h.0, numbered-longer (suc k) n ts h.1)

present-vacant : (n : ℕ) → present (replicate n None) ≡ []
present-vacant zero = refl
present-vacant (suc n) = present-vacant n

pub present-longer : (n : ℕ) (ts : List (Option Timer)) → present (ts ++ replicate n None) ≡ present ts
present-longer n [] = present-vacant n
present-longer n (None ∷ ts) = present-longer n ts
present-longer n (Some t ∷ ts) = ap (λ r. t ∷ r) (present-longer n ts)

pub vacant-longer : (g n : ℕ) (ts : List (Option Timer)) → g ≤ length ts → present (drop g ts) ≡ [] → present (drop g (ts ++ replicate n None)) ≡ []
vacant-longer g n ts l h = ap present (drop-append-le g ts (replicate n None) l) ∙ present-longer n (drop g ts) ∙ h

vacant-tail : (t : Option Timer) (ts : List (Option Timer)) → present (t ∷ ts) ≡ [] → present ts ≡ []
vacant-tail None ts h = h
vacant-tail (Some t) ts h = cc

vacant-next : (g : ℕ) (ts : List (Option Timer)) → present (drop g ts) ≡ [] → present (drop (suc g) ts) ≡ []
vacant-next zero [] h = refl
vacant-next (suc g) [] h = refl
vacant-next zero (t ∷ ts) h = vacant-tail t ts h
vacant-next (suc g) (t ∷ ts) h = vacant-next g ts h

-- a timer is put into the first slot that no number had yet
pub present-put : (g : ℕ) (ts : List (Option Timer)) (t : Timer) → g < length ts → present (drop g ts) ≡ [] → present (set ts g (Some t)) ≡ present ts ++ t ∷ []
present-put g [] t l h = absurd (omega (arith, l))
present-put zero (None ∷ ts) t l h = ap (λ r. t ∷ r) h ∙ ap (λ r. r ++ t ∷ []) (sym h)
present-put zero (Some u ∷ ts) t l h = cc
present-put (suc g) (None ∷ ts) t l h = present-put g ts t (omega (arith, l)) h
present-put (suc g) (Some u ∷ ts) t l h = ap (λ r. u ∷ r) (present-put g ts t (omega (arith, l)) h)

pub vacant-put : (g : ℕ) (ts : List (Option Timer)) (x : Option Timer) → present (drop g ts) ≡ [] → present (drop (g + 1) (set ts g x)) ≡ []
vacant-put g ts x h =
    let e : g + 1 ≡ suc g = omega arith in
    ap present (drop-set-lt (g + 1) ts g x (omega arith) ∙ ap (λ n. drop n ts) e) ∙ vacant-next g ts h

given-at : (g j : ℕ) (ts : List (Option Timer)) (t : Timer) → present (drop g ts) ≡ [] → option_flatten (slice_get ts j) ≡ Some t → j < g
given-at g j [] t h e = cc
given-at zero zero (None ∷ ts) t h e = cc
given-at zero zero (Some u ∷ ts) t h e = cc
given-at zero (suc j) (x ∷ ts) t h e = absurd (omega (arith, given-at zero j ts t (vacant-tail x ts h) e))
given-at (suc g) zero (x ∷ ts) t h e = omega arith
given-at (suc g) (suc j) (x ∷ ts) t h e = omega (arith, given-at g j ts t h e)

-- a number that has a timer was given
pub was_given : (g : ℕ) (ts : List (Option Timer)) (id : ℕ) (t : Timer) → AreNumbered 0 ts → 0 < id → present (drop g ts) ≡ [] → timer_of id (present ts) ≡ Some t → id - 1 < g
was_given g ts id t h l v e = given-at g (id - 1) ts t v (sym (found_at ts id h l) ∙ e)

pub vacant_in : (g : ℕ) (ts : List (Option Timer)) (j : ℕ) (x : Option Timer) → j < g → present (drop g ts) ≡ [] → present (drop g (set ts j x)) ≡ []
vacant_in g ts j x l h = ap present (drop-set-lt g ts j x l) ∙ h

-- What a change leaves of what is kept.

timers-length : (ss : List Slot) → length (timers_in ss) ≡ length ss
timers-length ss = length-map ss (λ (s : Slot). s.timer)

one_stands : (t : Timer) (n : ℕ) → Stands n t → ForSome (Some t) (Stands n)
one_stands t n s = λ x e. let same : t ≡ x = cc in subst (Stands n) same s

-- after one more timer
pub added_holds : (g : ℕ) (ss xs zs : List Slot) (t : Timer) → Holds g ss → IsLonger (timers_in ss) (timers_in xs) → g < length xs → IsKept zs → timers_in zs ≡ set (timers_in xs) g (Some t) → Stands (g + 1) t → g < TIMER_LIMIT → Holds (g + 1) zs × (present (timers_in zs) ≡ present (timers_in ss) ++ t ∷ [])
added_holds g ss xs zs t h l r k e s few =
    let room : g ≤ length (timers_in ss) = omega (arith, h.room, timers-length ss) in
    let numbered : AreNumbered 0 (timers_in xs) = subst (AreNumbered 0) (sym l.is) (numbered-longer 0 l.more (timers_in ss) h.numbered) in
    let vacant : present (drop g (timers_in xs)) ≡ [] = ap (λ ts. present (drop g ts)) l.is ∙ vacant-longer g l.more (timers_in ss) room h.vacant in
    let next : g + 1 ≡ suc (0 + g) = omega arith in
    let stands : ForSome (Some t) (Stands (suc (0 + g))) = one_stands t (suc (0 + g)) (subst (λ n. Stands n t) next s) in
    let long : length zs ≡ length xs = sym (timers-length zs) ∙ ap length e ∙ length-set (timers_in xs) g (Some t) ∙ timers-length xs in (
      record {
        kept = k;
        numbered = subst (AreNumbered 0) (sym e) (numbered-set 0 g (timers_in xs) (Some t) numbered stands);
        room = omega (arith, long, r);
        vacant = ap (λ ts. present (drop (g + 1) ts)) e ∙ vacant-put g (timers_in xs) (Some t) vacant;
        few = omega (arith, few);
      },
      ap present e ∙ present-put g (timers_in xs) t (omega (arith, timers-length xs, r)) vacant ∙ ap (λ ts. ts ++ t ∷ []) (ap present l.is ∙ present-longer l.more (timers_in ss)),
    )

-- after a timer has changed, or was taken away
pub changed_holds : (g : ℕ) (ss zs : List Slot) (id : ℕ) (change : Timer → Option Timer) (t : Timer) → Holds g ss → 0 < id → timer_of id (present (timers_in ss)) ≡ Some t → IsKept zs → timers_in zs ≡ set (timers_in ss) (id - 1) (change t) → ForSome (change t) (Stands id) → Holds g zs × (present (timers_in zs) ≡ changed id change (present (timers_in ss)))
changed_holds g ss zs id change t h l f k e s =
    let given : id - 1 < g = was_given g (timers_in ss) id t h.numbered l h.vacant f in
    let within : id - 1 < length (timers_in ss) = omega (arith, given, h.room, timers-length ss) in
    let long : length zs ≡ length ss = sym (timers-length zs) ∙ ap length e ∙ length-set (timers_in ss) (id - 1) (change t) ∙ timers-length ss in (
      record {
        kept = k;
        numbered = subst (AreNumbered 0) (sym e) (numbered_in (timers_in ss) id (change t) h.numbered l s);
        room = omega (arith, long, h.room);
        vacant = ap (λ ts. present (drop g ts)) e ∙ vacant_in g (timers_in ss) (id - 1) (change t) given h.vacant;
        few = h.few;
      },
      ap present e ∙ changed_in (timers_in ss) id change t h.numbered l within f,
    )

pub none_stands : (n : ℕ) → ForSome None (Stands n)
none_stands n = λ x e. cc

anew_from : (clock n : ℕ) (t : Timer) (o : Option ℕ) → clock < SAFE_END → Stands n t → t.every ≡ o → (x : Timer) → option_map (λ delay. record t { due = clock + max delay 1 }) o ≡ Some x → Stands n x
anew_from clock n t None h s f x e = cc
anew_from clock n t (Some delay) h s f x e =
    let same : record t { due = clock + max delay 1 } ≡ x = cc in
    let small : delay < SAFE_END = s.every delay f in
    subst (Stands n) same (record { number = s.number; due = omega (arith, small, h); every = s.every })

pub anew_stands : (clock n : ℕ) (t : Timer) → clock < SAFE_END → Stands n t → ForSome (set_anew clock t) (Stands n)
anew_stands clock n t h s = anew_from clock n t t.every h s refl
