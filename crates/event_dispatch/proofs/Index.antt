-- What the index of places is there for, and that it stays right.
use Rattle.std.proofs.Common.{◌≡◌, ℕ, Bool, true, false, not, ◌&&◌, cond, eqb, List, [], ◌∷◌, ◌++◌, length, set, filter, find, slice_get, Option, Some, None, refl, sym, ap, ◌∙◌, arith}
use Rattle.std.proofs.lemmas.Bool.Decides.{nat_tests}
use Rattle.std.specs.BTreeMap.{BTreeMap}
use Rattle.std.specs.Option.{option_flatten}
use Rattle.js_value.specs.declared.callable.Callable.{Callable}
use Rattle.js_value.specs.declared.value.ObjId.{ObjId}
use Rattle.event_dispatch.specs.Listeners.{Listener, is_own, listener_of, with_f}
use Rattle.event_dispatch.specs.inner.Places.{Holds, IsForgotten, IsNoted, at_places, is_owned, places_at, places_of, present}
use Rattle.event_dispatch.proofs.Numbers.{number_at, numbered_push, numbered_removed, numbered_replaced}
use Rattle.event_dispatch.proofs.Stands.{filter_twice, find_filtered, own_places, places_kept, places_push, places_removed}

same_places : (es : List (Option Listener)) (m : BTreeMap ℕ (List ℕ)) (o : ObjId) (ps : List ℕ) → Holds es m → ps ≡ places_at m o.number → at_places es ps ≡ filter (is_own o) (present es)
same_places es m o ps h e = ap (at_places es) (e ∙ h.indexed o.number) ∙ own_places es o

pub own_find : (es : List (Option Listener)) (m : BTreeMap ℕ (List ℕ)) (o : ObjId) (t : Listener → Bool) (ps : List ℕ) → Holds es m → ps ≡ places_at m o.number → find t (at_places es ps) ≡ find (λ l. is_own o l && t l) (present es)
own_find es m o t ps h e = ap (find t) (same_places es m o ps h e) ∙ find_filtered (is_own o) t (present es)

pub own_called : (es : List (Option Listener)) (m : BTreeMap ℕ (List ℕ)) (o : ObjId) (t : Listener → Bool) (ps : List ℕ) → Holds es m → ps ≡ places_at m o.number → filter t (at_places es ps) ≡ filter (λ l. is_own o l && t l) (present es)
own_called es m o t ps h e = ap (filter t) (same_places es m o ps h e) ∙ filter_twice (is_own o) t (present es)

eqb-comm : (a b : ℕ) → eqb a b ≡ eqb b a
eqb-comm a b = grind (arith, nat_tests)

pub append_holds : (es : List (Option Listener)) (m n : BTreeMap ℕ (List ℕ)) (l : Listener) → Holds es m → l.number ≡ length es → IsNoted l.owner.number (length es) m n → Holds (es ++ Some l ∷ []) n
append_holds es m n l h e f = record {
  numbered = numbered_push es l h.numbered e;
  indexed = λ o. f o ∙ ap (λ xs. cond (eqb o l.owner.number) (xs ++ length es ∷ []) xs) (h.indexed o) ∙ ap (λ b. cond b (places_of o 0 es ++ length es ∷ []) (places_of o 0 es)) (eqb-comm o l.owner.number) ∙ sym (places_push o es l);
}

removed_at : (es : List (Option Listener)) (o p : ℕ) (l : Listener) (b : Bool) → slice_get es p ≡ Some (Some l) → eqb o l.owner.number ≡ b → cond b (filter (λ q. not (eqb q p)) (places_of o 0 es)) (places_of o 0 es) ≡ places_of o 0 (set es p None)
removed_at es o p l true g e = sym (places_removed o p es)
removed_at es o p l false g e = sym (places_kept o 0 p es None (sym (ap (λ x. is_owned o (option_flatten x)) g ∙ eqb-comm l.owner.number o ∙ e)))

pub removed_holds : (es : List (Option Listener)) (m n : BTreeMap ℕ (List ℕ)) (p : ℕ) (l : Listener) → Holds es m → slice_get es p ≡ Some (Some l) → IsForgotten l.owner.number p m n → Holds (set es p None) n
removed_holds es m n p l h g f = record {
  numbered = numbered_removed es p h.numbered;
  indexed = λ o. f o ∙ ap (λ xs. cond (eqb o l.owner.number) (filter (λ q. not (eqb q p)) xs) xs) (h.indexed o) ∙ removed_at es o p l (eqb o l.owner.number) g refl;
}

pub replaced_holds : (es : List (Option Listener)) (m : BTreeMap ℕ (List ℕ)) (p : ℕ) (l : Listener) (f : Callable) → Holds es m → slice_get es p ≡ Some (Some l) → Holds (set es p (Some (with_f f l))) m
replaced_holds es m p l f h g = record {
  numbered = numbered_replaced es p (with_f f l) h.numbered (number_at es p l h.numbered g);
  indexed = λ o. h.indexed o ∙ sym (places_kept o 0 p es (Some (with_f f l)) (sym (ap (λ x. is_owned o (option_flatten x)) g)));
}

none_step : (b : Bool) (l : Listener) (o : Option Listener) (xs ls : List Listener) → (o ≡ None → xs ≡ ls) → cond b (Some l) o ≡ None → cond (not b) (l ∷ xs) xs ≡ l ∷ ls
none_step true l o xs ls h e = cc
none_step false l o xs ls h e = ap (λ r. l ∷ r) (h e)

-- where no listener has the number, none is taken away
pub filter_none : (n : ℕ) (ls : List Listener) → listener_of n ls ≡ None → filter (λ l. not (eqb l.number n)) ls ≡ ls
filter_none n [] h = refl
filter_none n (l ∷ ls) h = none_step (eqb l.number n) l (listener_of n ls) (filter (λ x. not (eqb x.number n)) ls) ls (filter_none n ls) h
