-- Steps of the loops over places, copied lists and turns.
use Rattle.std.proofs.Common.{◌≡◌, ℕ, zero, suc, ◌+◌, ◌<◌, Bool, true, false, cond, List, [], ◌∷◌, ◌++◌, length, get_or, take, drop, map, filter, find, slice_get, Option, Some, None, is_some, Bor, refl, sym, ap, ◌∙◌, arith}
use Rattle.std.proofs.lemmas.List.{take_more, drop_more, take-append-drop, map-append}
use Rattle.std.proofs.lemmas.List.Elements.{filter_map-append, filter-append}
use Rattle.std.specs.List.{cons_option}
use Rattle.std.specs.Option.{option_copied, option_flatten, option_to_list}
use Rattle.event_dispatch.specs.Listeners.{Listener}
use Rattle.event_dispatch.specs.Dispatch.{Call, Pending, Turn, call_in, chosen_first, come, copied, first_call, step_with}
use Rattle.event_dispatch.specs.inner.Places.{at_places}

-- Listeners at places.

one_place : (es : List (Option Listener)) (p : ℕ) → at_places es (p ∷ []) ≡ option_to_list (option_flatten (slice_get es p))
one_place es p = of_option (option_flatten (slice_get es p))
  where
    of_option : (o : Option Listener) → cons_option o [] ≡ option_to_list o
    of_option None = refl
    of_option (Some l) = refl

pub at_more : (es : List (Option Listener)) (ps : List ℕ) (i : ℕ) → i < length ps → at_places es (take (i + 1) ps) ≡ at_places es (take i ps) ++ option_to_list (option_flatten (slice_get es (get_or ps i 0)))
at_more es ps i h =
    ap (at_places es) (take_more ps i 0 h) ∙ filter_map-append (λ p. option_flatten (slice_get es p)) (take i ps) (get_or ps i 0 ∷ [])
    ∙ ap (λ r. at_places es (take i ps) ++ r) (one_place es (get_or ps i 0))

at_all : (es : List (Option Listener)) (ps : List ℕ) (i : ℕ) → at_places es ps ≡ at_places es (take i ps) ++ at_places es (drop i ps)
at_all es ps i = ap (at_places es) (sym (take-append-drop i ps)) ∙ filter_map-append (λ p. option_flatten (slice_get es p)) (take i ps) (drop i ps)

find_past : (t : Listener → Bool) (xs ys : List Listener) → find t xs ≡ None → find t (xs ++ ys) ≡ find t ys
find_past t [] ys h = refl
find_past t (x ∷ xs) ys h = past_step (t x) x (find t xs) (find t (xs ++ ys)) (find t ys) h (find_past t xs ys)
  where
    past_step : (b : Bool) (l : Listener) (o p q : Option Listener) → cond b (Some l) o ≡ None → (o ≡ None → p ≡ q) → cond b (Some l) p ≡ q
    past_step true l o p q e f = cc
    past_step false l o p q e f = f e

find_front : (t : Listener → Bool) (xs ys : List Listener) (l : Listener) → find t xs ≡ Some l → find t (xs ++ ys) ≡ Some l
find_front t [] ys l h = cc
find_front t (x ∷ xs) ys l h = front_step (t x) x l (find t xs) (find t (xs ++ ys)) h (find_front t xs ys l)
  where
    front_step : (b : Bool) (x l : Listener) (o p : Option Listener) → cond b (Some x) o ≡ Some l → (o ≡ Some l → p ≡ Some l) → cond b (Some x) p ≡ Some l
    front_step true x l o p e f = e
    front_step false x l o p e f = f e

pub none_more : (t : Listener → Bool) (es : List (Option Listener)) (ps : List ℕ) (i : ℕ) → i < length ps → find t (at_places es (take i ps)) ≡ None → find t (option_to_list (option_flatten (slice_get es (get_or ps i 0)))) ≡ None → find t (at_places es (take (i + 1) ps)) ≡ None
none_more t es ps i h a b = ap (find t) (at_more es ps i h) ∙ find_past t (at_places es (take i ps)) (option_to_list (option_flatten (slice_get es (get_or ps i 0)))) a ∙ b

found_some : (t : Listener → Bool) (es : List (Option Listener)) (ps : List ℕ) (i : ℕ) (l : Listener) → i < length ps → find t (at_places es (take i ps)) ≡ None → find t (option_to_list (option_flatten (slice_get es (get_or ps i 0)))) ≡ Some l → find t (at_places es ps) ≡ Some l
found_some t es ps i l h a b =
    let here : at_places es (drop i ps) ≡ option_to_list (option_flatten (slice_get es (get_or ps i 0))) ++ at_places es (drop (i + 1) ps) =
    ap (at_places es) (drop_more ps i 0 h) ∙ filter_map-append (λ p. option_flatten (slice_get es p)) (get_or ps i 0 ∷ []) (drop (i + 1) ps) ∙ ap (λ r. r ++ at_places es (drop (i + 1) ps)) (one_place es (get_or ps i 0)) in
    ap (find t) (at_all es ps i) ∙ find_past t (at_places es (take i ps)) (at_places es (drop i ps)) a ∙ ap (find t) here
    ∙ find_front t (option_to_list (option_flatten (slice_get es (get_or ps i 0)))) (at_places es (drop (i + 1) ps)) l b

pub found_more : (t : Listener → Bool) (es : List (Option Listener)) (ps : List ℕ) (i : ℕ) (o : Option Listener) → i < length ps → find t (at_places es (take i ps)) ≡ None → o ≡ find t (option_to_list (option_flatten (slice_get es (get_or ps i 0)))) → is_some o ≡ true → o ≡ find t (at_places es ps)
found_more t es ps i None h a b c = cc
found_more t es ps i (Some l) h a b c = sym (found_some t es ps i l h a (sym b))

pub none_found : (t : Listener → Bool) (o : Option Listener) (xs : List Listener) → o ≡ find t xs → is_some o ≡ false → find t xs ≡ None
none_found t None xs e f = sym e
none_found t (Some l) xs e f = cc

pub pended_more : {P : Type 0} (f : Listener → P) (t : Listener → Bool) (es : List (Option Listener)) (ps : List ℕ) (i : ℕ) → i < length ps → map f (filter t (at_places es (take (i + 1) ps))) ≡ map f (filter t (at_places es (take i ps))) ++ map f (filter t (option_to_list (option_flatten (slice_get es (get_or ps i 0)))))
pended_more f t es ps i h =
    let one = option_to_list (option_flatten (slice_get es (get_or ps i 0))) in
    ap (λ xs. map f (filter t xs)) (at_more es ps i h) ∙ ap (map f) (filter-append t (at_places es (take i ps)) one) ∙ map-append f (filter t (at_places es (take i ps))) (filter t one)

-- Copied lists.

pub call_none : (ls : List Listener) (ps : List Pending) (i : ℕ) (d : Pending) → i < length ps → call_in ls (get_or ps i d) ≡ None → first_call ls (drop i ps) ≡ first_call ls (drop (i + 1) ps)
call_none ls ps i d h e =
    ap (first_call ls) (drop_more ps i d h) ∙ ap (λ o. chosen_first o (drop (i + 1) ps) (first_call ls (drop (i + 1) ps))) e

pub call_some : (ls : List Listener) (ps : List Pending) (i : ℕ) (d : Pending) (c : Call) → i < length ps → call_in ls (get_or ps i d) ≡ Some c → first_call ls (drop i ps) ≡ Some (c, drop (i + 1) ps)
call_some ls ps i d c h e =
    ap (first_call ls) (drop_more ps i d h) ∙ ap (λ o. chosen_first o (drop (i + 1) ps) (first_call ls (drop (i + 1) ps))) e

-- Turns.

pub drop_turn : (ts : List Turn) (i : ℕ) (t : Turn) → slice_get ts i ≡ Some t → drop i ts ≡ t ∷ drop (i + 1) ts
drop_turn [] i t e = cc
drop_turn (x ∷ ts) zero t e = let same : x ≡ t = cc in ap (λ y. y ∷ ts) same
drop_turn (x ∷ ts) (suc i) t e =
    let one : suc (i + 1) ≡ suc i + 1 = omega arith in
    drop_turn ts i t e ∙ ap (λ n. t ∷ drop n (x ∷ ts)) one

pub come_none : (ls : List Listener) (kind : List ℕ) (ts : List Turn) (i : ℕ) (t : Turn) → slice_get ts i ≡ Some t → first_call ls (copied kind t ls) ≡ None → come ls kind (drop i ts) ≡ come ls kind (drop (i + 1) ts)
come_none ls kind ts i t e f = ap (come ls kind) (drop_turn ts i t e) ∙ ap (λ o. step_with o kind (drop (i + 1) ts) (come ls kind (drop (i + 1) ts))) f

pub come_some : (ls : List Listener) (kind : List ℕ) (ts : List Turn) (i : ℕ) (t : Turn) (c : Call) (ps : List Pending) → slice_get ts i ≡ Some t → first_call ls (copied kind t ls) ≡ Some (c, ps) → come ls kind (drop i ts) ≡ record { call = Some c; after = record { kind = kind; left = ps; turns = drop (i + 1) ts } }
come_some ls kind ts i t c ps e f = ap (come ls kind) (drop_turn ts i t e) ∙ ap (λ o. step_with o kind (drop (i + 1) ts) (come ls kind (drop (i + 1) ts))) f

-- References.

pub same_some : {X : Type 0} (r : Option (Bor X)) → is_some (option_copied r) ≡ is_some r
same_some None = refl
same_some (Some x) = refl
