-- One more value of a literal is put.
use Rattle.std.proofs.Common.{◌≡◌, ℕ, zero, suc, ◌+◌, ◌<◌, Bool, true, false, List, [], ◌∷◌}
use Rattle.std.proofs.Common.{Option, Some, None, decimal, drop, get_or, is_some, length, map}
use Rattle.std.proofs.Common.{slice_get, slice_set, refl, ap, arith, subst, sym, ◌∙◌, drop-cons}
use Rattle.std.proofs.Math.ListN.{length-set}
use Rattle.std.specs.Option.{option_map, option_map_or}
use Rattle.js_value.specs.declared.value.ObjId.{ObjId}
use Rattle.js_value.specs.declared.value.Value.{Value}
use Rattle.js_heap.specs.Closed.{Each, IsAmong}
use Rattle.js_heap.specs.Objects.{class_of}
use Rattle.js_heap.specs.Puts.{object_with, put}
use Rattle.js_heap.specs.World.{World}
use Rattle.js_heap.specs.declared.object.Object.{Object}
use Rattle.js_tree.specs.declared.node.Entry.{Entry}
use Rattle.js_tree.specs.declared.node.NodeId.{NodeId}
use Rattle.js_host.specs.There.{AreThere}
use Rattle.js_reference.specs.Callables.{class_at}
use Rattle.js_reference.specs.Functions.{is_array, is_array_at}
use Rattle.js_operations.specs.Literals.{with_elements, with_entries}

-- an element that is there takes the first value
pub element_put : (w : World) (a : ObjId) (i : ℕ) (es : List (Option NodeId)) (v : Value)
    (vs : List Value) → i < length es → is_some (get_or es i None) ≡ true
    → with_elements w a i (map is_some (drop i es)) (v ∷ vs)
    ≡ with_elements (put w a (decimal i) v true) a (i + 1) (map is_some (drop (i + 1) es)) vs
element_put w a i es v vs inside there =
    let next : suc i ≡ i + 1 = omega arith in
    let first : drop i es ≡ get_or es i None ∷ drop (suc i) es = drop-cons es i None inside in
    ap (λ xs. with_elements w a i (map is_some xs) (v ∷ vs)) first
    ∙ ap (λ b. with_elements w a i (b ∷ map is_some (drop (suc i) es)) (v ∷ vs)) there
    ∙ ap (λ k. with_elements (put w a (decimal i) v true) a k (map is_some (drop k es)) vs) next

abbrev key_of : Entry → List ℕ
key_of e = e.key

-- an entry takes the first value
pub entry_put : (w : World) (o : ObjId) (i : ℕ) (es : List Entry) (e : Entry) (v : Value)
    (vs : List Value) → i < length es → get_or es i e ≡ e
    → with_entries w o (map (λ x. x.key) (drop i es)) (v ∷ vs)
    ≡ with_entries (put w o e.key v true) o (map (λ x. x.key) (drop (i + 1) es)) vs
entry_put w o i es e v vs inside at =
    let next : suc i ≡ i + 1 = omega arith in
    let first : drop i es ≡ e ∷ drop (suc i) es =
    drop-cons es i e inside ∙ ap (λ x. x ∷ drop (suc i) es) at in
    ap (λ xs. with_entries w o (map key_of xs) (v ∷ vs)) first
    ∙ ap (λ k. with_entries (put w o e.key v true) o (map key_of (drop k es)) vs) next

set_gives : {X : Type 0} (xs : List X) (n : ℕ) (x y : X) → slice_get xs n ≡ Some y
    → slice_get (slice_set xs n x) n ≡ Some x
set_gives [] n x y e = cc
set_gives (z ∷ xs) zero x y e = refl
set_gives (z ∷ xs) (suc n) x y e = set_gives xs n x y e

module _ (os : List Object) (n : ℕ) (f : Object → Object) where
  abbrev changed_by : Option Object → List Object
  changed_by r = option_map_or (λ o. slice_set os n (f o)) r os

  length_by : (r : Option Object) → length (changed_by r) ≡ length os
  length_by None = refl
  length_by (Some o) = length-set os n (f o)

  class_by : ((o : Object) → (f o).class ≡ o.class) → (r : Option Object)
      → slice_get os n ≡ r
      → option_map class_of (slice_get (changed_by r) n) ≡ option_map class_of (slice_get os n)
  class_by keeps None e = refl
  class_by keeps (Some o) e =
      ap (option_map class_of) (set_gives os n (f o) o e)
      ∙ ap Some (keeps o) ∙ sym (ap (option_map class_of) e)

-- a put leaves the count of objects, and their classes
pub put_length : (w : World) (o : ObjId) (x : List ℕ) (v : Value) (b : Bool)
    → length (put w o x v b).objects ≡ length w.objects
put_length w o x v b =
    length_by w.objects o.number (object_with x v b) (slice_get w.objects o.number)

pub put_class : (w : World) (o : ObjId) (x : List ℕ) (v : Value) (b : Bool)
    → class_at (put w o x v b) o ≡ class_at w o
put_class w o x v b =
    class_by w.objects o.number (object_with x v b) (λ k. refl)
    (slice_get w.objects o.number) refl

-- the values behind are there after a put
pub behind_there : (w w' : World) (v : Value) (vs all : List Value)
    → length w'.objects ≡ length w.objects → all ≡ v ∷ vs → AreThere w all → AreThere w' vs
behind_there w w' v vs all same is t =
    let each : AreThere w (v ∷ vs) = subst (λ us. AreThere w us) is t in
    subst (λ n. Each (λ u. IsAmong n u) vs) (sym same) each.1

-- a put leaves whether an object is an array
array_by : (os : List Object) (n : ℕ) (f : Object → Object)
    → ((o : Object) → (f o).class ≡ o.class) → (r : Option Object) → slice_get os n ≡ r
    → option_map_or (λ k. is_array k.class) (slice_get (changed_by os n f r) n) false
    ≡ option_map_or (λ k. is_array k.class) (slice_get os n) false
array_by os n f keeps None e = refl
array_by os n f keeps (Some o) e =
    let of = λ (q : Option Object). option_map_or (λ k. is_array k.class) q false in
    ap of (set_gives os n (f o) o e) ∙ ap is_array (keeps o) ∙ sym (ap of e)

pub array_stays : (w : World) (o : ObjId) (x : List ℕ) (v : Value) (b : Bool)
    → is_array_at (put w o x v b) o ≡ is_array_at w o
array_stays w o x v b =
    array_by w.objects o.number (object_with x v b) (λ k. refl)
    (slice_get w.objects o.number) refl
