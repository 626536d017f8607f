-- What the slots come to, as a list of listeners.
use Rattle.std.proofs.Common.{◌≡◌, ℕ, suc, zero, ◌+◌, Bool, not, cond, eqb, List, [], ◌∷◌, ◌++◌, length, set, map, filter, slice_get, Option, Some, None, refl, sym, ap, ◌∙◌}
use Rattle.std.proofs.lemmas.List.{append-nil, length_push}
use Rattle.std.proofs.Math.ListN.{length-set}
use Rattle.std.specs.BTreeMap.{BTreeMap}
use Rattle.std.specs.List.{flat_map}
use Rattle.std.specs.Option.{option_flatten}
use Rattle.js_value.specs.declared.callable.Callable.{Callable}
use Rattle.js_value.specs.declared.value.ObjId.{ObjId}
use Rattle.event_dispatch.specs.Dispatch.{Turn, copied, half, halves, pending}
use Rattle.event_dispatch.specs.Listeners.{Listener, ListenerList, Role, appended, is_called, replaced, with_f, without}
use Rattle.event_dispatch.specs.inner.Places.{Holds, at_places, listed, pended, places_at, present, with_function, with_function_in}
use Rattle.event_dispatch.proofs.Index.{own_called, replaced_holds}
use Rattle.event_dispatch.proofs.Numbers.{at_number, present-push, present_replaced, replaced_none}

abbrev list_of : ℕ → List Listener → ListenerList
list_of n ls = record { given = n; listeners = ls }

list_same : (a b : ℕ) (xs ys : List Listener) → a ≡ b → xs ≡ ys → list_of a xs ≡ list_of b ys
list_same a b xs ys e f = ap (λ n. list_of n xs) e ∙ ap (list_of b) f

-- A slot.

pub flat_some : (o : Option (Option Listener)) (l : Listener) → option_flatten o ≡ Some l → o ≡ Some (Some l)
flat_some None l e = cc
flat_some (Some None) l e = cc
flat_some (Some (Some x)) l e = ap Some e

pub set_own : (es : List (Option Listener)) (p : ℕ) (x : Option Listener) → slice_get es p ≡ Some x → set es p x ≡ es
set_own [] p x e = refl
set_own (y ∷ es) zero x e = let same : y ≡ x = cc in ap (λ z. z ∷ es) (sym same)
set_own (y ∷ es) (suc p) x e = ap (λ r. y ∷ r) (set_own es p x e)

pub listener_at : (es fs : List (Option Listener)) (p : ℕ) (o : Option Listener) → o ≡ option_flatten (slice_get fs p) → fs ≡ es → option_flatten (slice_get es p) ≡ o
listener_at es fs p o e f = ap (λ xs. option_flatten (slice_get xs p)) (sym f) ∙ sym e

-- One more listener.

pub append_listed : (es : List (Option Listener)) (l : Listener) (o : ObjId) (kind : List ℕ) (f : Callable) (role : Role)
    → l ≡ record { number = length es; owner = o; kind = kind; f = f; role = role }
    → listed (es ++ Some l ∷ []) ≡ appended o kind f role (listed es)
append_listed es l o kind f role e =
    list_same (length (es ++ Some l ∷ [])) (length es + 1) (present (es ++ Some l ∷ [])) _ (length_push es (Some l))
    (present-push es l ∙ ap (λ x. present es ++ x ∷ []) e)

-- A listener fewer.

pub removed_listed : (es fs : List (Option Listener)) (p : ℕ) → length fs ≡ length es → present fs ≡ filter (λ l. not (eqb l.number p)) (present es) → listed fs ≡ without p (listed es)
removed_listed es fs p e f = list_same (length fs) (length es) (present fs) _ e f

-- Another function to call.

function_holds : (es : List (Option Listener)) (m : BTreeMap ℕ (List ℕ)) (p : ℕ) (f : Callable) (o : Option Listener) → Holds es m → option_flatten (slice_get es p) ≡ o → Holds (with_function_in o p f es) m
function_holds es m p f None h g = h
function_holds es m p f (Some l) h g = replaced_holds es m p l f h (flat_some (slice_get es p) l g)

function_length : (es : List (Option Listener)) (p : ℕ) (f : Callable) (o : Option Listener) → length (with_function_in o p f es) ≡ length es
function_length es p f None = refl
function_length es p f (Some l) = length-set es p (Some (with_f f l))

function_present : (es : List (Option Listener)) (m : BTreeMap ℕ (List ℕ)) (p : ℕ) (f : Callable) (o : Option Listener) → Holds es m → option_flatten (slice_get es p) ≡ o → present (with_function_in o p f es) ≡ map (λ l. cond (eqb l.number p) (with_f f l) l) (present es)
function_present es m p f None h g = sym (replaced_none p f (present es) (at_number es p h.numbered ∙ g))
function_present es m p f (Some l) h g = present_replaced es p f l h.numbered (flat_some (slice_get es p) l g)

pub function_kept : (es : List (Option Listener)) (m : BTreeMap ℕ (List ℕ)) (p : ℕ) (f : Callable) → Holds es m → Holds (with_function p f es) m
function_kept es m p f h = function_holds es m p f (option_flatten (slice_get es p)) h refl

pub function_listed : (es : List (Option Listener)) (m : BTreeMap ℕ (List ℕ)) (p : ℕ) (f : Callable) → Holds es m → listed (with_function p f es) ≡ replaced p f (listed es)
function_listed es m p f h =
    list_same (length (with_function p f es)) (length es) (present (with_function p f es)) _ (function_length es p f (option_flatten (slice_get es p))) (function_present es m p f (option_flatten (slice_get es p)) h refl)

-- Copied lists.

pub half_own : (es : List (Option Listener)) (m : BTreeMap ℕ (List ℕ)) (kind : List ℕ) (t : Turn) (ps : List ℕ) (down : Bool) → Holds es m → ps ≡ places_at m t.owner.number → pended t.phase kind down (at_places es ps) ≡ half kind t (present es) down
half_own es m kind t ps down h e = ap (map (pending t.phase)) (own_called es m t.owner (is_called kind down) ps h e)

pub copied_one : (kind : List ℕ) (t : Turn) (ls : List Listener) (b : Bool) → halves t.phase ≡ b ∷ [] → half kind t ls b ≡ copied kind t ls
copied_one kind t ls b e = sym (ap (flat_map (half kind t ls)) e ∙ append-nil (half kind t ls b))

pub copied_two : (kind : List ℕ) (t : Turn) (ls : List Listener) (a b : Bool) → halves t.phase ≡ a ∷ b ∷ [] → half kind t ls a ++ half kind t ls b ≡ copied kind t ls
copied_two kind t ls a b e = sym (ap (flat_map (half kind t ls)) e ∙ ap (λ r. half kind t ls a ++ r) (append-nil (half kind t ls b)))
