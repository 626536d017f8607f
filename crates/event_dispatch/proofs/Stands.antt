-- The places of an object's listeners.
use Rattle.std.proofs.Common.{◌≡◌, ℕ, zero, suc, ◌+◌, ◌<◌, Bool, true, false, not, ◌&&◌, cond, eqb, List, [], ◌∷◌, ◌++◌, length, set, filter, find, slice_get, Option, Some, None, refl, sym, ap, ◌∙◌, arith}
use Rattle.std.proofs.lemmas.Bool.{eq-eqb, ne_eqb}
use Rattle.std.proofs.lemmas.List.{append_assoc, length_push}
use Rattle.std.specs.List.{cons_option}
use Rattle.std.specs.Option.{option_flatten}
use Rattle.js_value.specs.declared.value.ObjId.{ObjId}
use Rattle.event_dispatch.specs.Listeners.{Listener, is_own}
use Rattle.event_dispatch.specs.inner.Places.{present, is_owned, places_of, at_places}
use Rattle.event_dispatch.proofs.Numbers.{chosen, other}

-- Where another listener comes behind the others.

push_step : (c b : Bool) (k m : ℕ) (xs ys : List ℕ) → xs ≡ cond b (ys ++ m ∷ []) ys → cond c (k ∷ xs) xs ≡ cond b (cond c (k ∷ ys) ys ++ m ∷ []) (cond c (k ∷ ys) ys)
push_step true true k m xs ys e = ap (λ r. k ∷ r) e
push_step true false k m xs ys e = ap (λ r. k ∷ r) e
push_step false true k m xs ys e = e
push_step false false k m xs ys e = e

places-push : (o k : ℕ) (es : List (Option Listener)) (l : Listener) → places_of o k (es ++ Some l ∷ []) ≡ cond (eqb l.owner.number o) (places_of o k es ++ (k + length es) ∷ []) (places_of o k es)
places-push o k [] l = let e : k ≡ k + zero = omega arith in ap (λ n. cond (eqb l.owner.number o) (n ∷ []) []) e
places-push o k (x ∷ es) l =
    let e : suc k + length es ≡ k + suc (length es) = omega arith in
    push_step (is_owned o x) (eqb l.owner.number o) k (suc k + length es) _ (places_of o (suc k) es) (places-push o (suc k) es l)
    ∙ ap (λ n. cond (eqb l.owner.number o) (places_of o k (x ∷ es) ++ n ∷ []) (places_of o k (x ∷ es))) e

pub places_push : (o : ℕ) (es : List (Option Listener)) (l : Listener) → places_of o 0 (es ++ Some l ∷ []) ≡ cond (eqb l.owner.number o) (places_of o 0 es ++ length es ∷ []) (places_of o 0 es)
places_push o es l =
    let e : 0 + length es ≡ length es = omega arith in
    places-push o 0 es l ∙ ap (λ n. cond (eqb l.owner.number o) (places_of o 0 es ++ n ∷ []) (places_of o 0 es)) e

-- Where a listener is taken away.

above_step : (c : Bool) (k n : ℕ) (xs : List ℕ) → eqb k n ≡ false → filter (λ p. not (eqb p n)) xs ≡ xs → filter (λ p. not (eqb p n)) (cond c (k ∷ xs) xs) ≡ cond c (k ∷ xs) xs
above_step true k n xs e f = chosen (not (eqb k n)) (k ∷ filter (λ p. not (eqb p n)) xs) (filter (λ p. not (eqb p n)) xs) (ap not e) ∙ ap (λ r. k ∷ r) f
above_step false k n xs e f = f

places-above : (o k n : ℕ) (es : List (Option Listener)) → n < k → filter (λ p. not (eqb p n)) (places_of o k es) ≡ places_of o k es
places-above o k n [] h = refl
places-above o k n (x ∷ es) h = above_step (is_owned o x) k n (places_of o (suc k) es) (ne_eqb k n (λ e. omega (arith, e))) (places-above o (suc k) n es (omega arith))

taken_here : (c : Bool) (k n : ℕ) (xs : List ℕ) → eqb k n ≡ true → filter (λ p. not (eqb p n)) xs ≡ xs → xs ≡ filter (λ p. not (eqb p n)) (cond c (k ∷ xs) xs)
taken_here true k n xs e f = sym (other (not (eqb k n)) (k ∷ filter (λ p. not (eqb p n)) xs) (filter (λ p. not (eqb p n)) xs) (ap not e) ∙ f)
taken_here false k n xs e f = sym f

taken_there : (c : Bool) (k n : ℕ) (xs ys : List ℕ) → eqb k n ≡ false → ys ≡ filter (λ p. not (eqb p n)) xs → cond c (k ∷ ys) ys ≡ filter (λ p. not (eqb p n)) (cond c (k ∷ xs) xs)
taken_there true k n xs ys e f = ap (λ r. k ∷ r) f ∙ sym (chosen (not (eqb k n)) (k ∷ filter (λ p. not (eqb p n)) xs) (filter (λ p. not (eqb p n)) xs) (ap not e))
taken_there false k n xs ys e f = f

places-removed : (o k j : ℕ) (es : List (Option Listener)) → places_of o k (set es j None) ≡ filter (λ p. not (eqb p (k + j))) (places_of o k es)
places-removed o k j [] = refl
places-removed o k zero (x ∷ es) = taken_here (is_owned o x) k (k + zero) (places_of o (suc k) es) (eq-eqb k (k + zero) (omega arith)) (places-above o (suc k) (k + zero) es (omega arith))
places-removed o k (suc j) (x ∷ es) =
    let e : suc k + j ≡ k + suc j = omega arith in
    taken_there (is_owned o x) k (k + suc j) (places_of o (suc k) es) _ (ne_eqb k (k + suc j) (λ f. omega (arith, f))) (places-removed o (suc k) j es ∙ ap (λ n. filter (λ p. not (eqb p n)) (places_of o (suc k) es)) e)

pub places_removed : (o j : ℕ) (es : List (Option Listener)) → places_of o 0 (set es j None) ≡ filter (λ p. not (eqb p j)) (places_of o 0 es)
places_removed o j es =
    let e : 0 + j ≡ j = omega arith in
    places-removed o 0 j es ∙ ap (λ n. filter (λ p. not (eqb p n)) (places_of o 0 es)) e

pub places_kept : (o k j : ℕ) (es : List (Option Listener)) (y : Option Listener) → is_owned o y ≡ is_owned o (option_flatten (slice_get es j)) → places_of o k (set es j y) ≡ places_of o k es
places_kept o k j [] y h = refl
places_kept o k zero (x ∷ es) y h = ap (λ c. cond c (k ∷ places_of o (suc k) es) (places_of o (suc k) es)) h
places_kept o k (suc j) (x ∷ es) y h = ap (λ r. cond (is_owned o x) (k ∷ r) r) (places_kept o (suc k) j es y h)

-- The listeners at an object's places are its own.

at_length : (pre : List (Option Listener)) (e : Option Listener) (es : List (Option Listener)) → slice_get (pre ++ e ∷ es) (length pre) ≡ Some e
at_length [] e es = refl
at_length (x ∷ pre) e es = at_length pre e es

own_step : (c : Bool) (l : Listener) (xs : List (Option Listener)) (n : ℕ) (ps : List ℕ) (ls : List Listener) → option_flatten (slice_get xs n) ≡ Some l → at_places xs ps ≡ ls → at_places xs (cond c (n ∷ ps) ps) ≡ cond c (l ∷ ls) ls
own_step true l xs n ps ls e f = ap (λ o. cons_option o (at_places xs ps)) e ∙ ap (λ r. l ∷ r) f
own_step false l xs n ps ls e f = f

at_places-own : (pre es : List (Option Listener)) (o : ObjId) → at_places (pre ++ es) (places_of o.number (length pre) es) ≡ filter (is_own o) (present es)
at_places-own pre [] o = refl
at_places-own pre (None ∷ es) o =
    let long : suc (length pre) ≡ length (pre ++ None ∷ []) = omega (arith, length_push pre None) in
    ap (λ n. at_places (pre ++ None ∷ es) (places_of o.number n es)) long ∙ ap (λ xs. at_places xs (places_of o.number (length (pre ++ None ∷ [])) es)) (sym (append_assoc pre (None ∷ []) es))
    ∙ at_places-own (pre ++ None ∷ []) es o
at_places-own pre (Some l ∷ es) o =
    let long : suc (length pre) ≡ length (pre ++ Some l ∷ []) = omega (arith, length_push pre (Some l)) in
    let rest : at_places (pre ++ Some l ∷ es) (places_of o.number (suc (length pre)) es) ≡ filter (is_own o) (present es) =
    ap (λ n. at_places (pre ++ Some l ∷ es) (places_of o.number n es)) long ∙ ap (λ xs. at_places xs (places_of o.number (length (pre ++ Some l ∷ [])) es)) (sym (append_assoc pre (Some l ∷ []) es))
    ∙ at_places-own (pre ++ Some l ∷ []) es o in
    own_step (eqb l.owner.number o.number) l (pre ++ Some l ∷ es) (length pre) (places_of o.number (suc (length pre)) es) (filter (is_own o) (present es)) (ap option_flatten (at_length pre (Some l) es)) rest

pub own_places : (es : List (Option Listener)) (o : ObjId) → at_places es (places_of o.number 0 es) ≡ filter (is_own o) (present es)
own_places es o = at_places-own [] es o

-- Two tests, one after the other.

both_filter : (a b : Bool) (t : Listener → Bool) (l : Listener) (xs ys : List Listener) → t l ≡ b → filter t xs ≡ ys → filter t (cond a (l ∷ xs) xs) ≡ cond (a && b) (l ∷ ys) ys
both_filter true b t l xs ys e f = ap (λ c. cond c (l ∷ filter t xs) (filter t xs)) e ∙ ap (λ r. cond b (l ∷ r) r) f
both_filter false b t l xs ys e f = f

pub filter_twice : (s t : Listener → Bool) (ls : List Listener) → filter t (filter s ls) ≡ filter (λ l. s l && t l) ls
filter_twice s t [] = refl
filter_twice s t (l ∷ ls) = both_filter (s l) (t l) t l (filter s ls) (filter (λ x. s x && t x) ls) refl (filter_twice s t ls)

both_find : (a b : Bool) (t : Listener → Bool) (l : Listener) (xs : List Listener) (o : Option Listener) → t l ≡ b → find t xs ≡ o → find t (cond a (l ∷ xs) xs) ≡ cond (a && b) (Some l) o
both_find true b t l xs o e f = ap (λ c. cond c (Some l) (find t xs)) e ∙ ap (λ r. cond b (Some l) r) f
both_find false b t l xs o e f = f

pub find_filtered : (s t : Listener → Bool) (ls : List Listener) → find t (filter s ls) ≡ find (λ l. s l && t l) ls
find_filtered s t [] = refl
find_filtered s t (l ∷ ls) = both_find (s l) (t l) t l (filter s ls) (find (λ x. s x && t x) ls) refl (find_filtered s t ls)
