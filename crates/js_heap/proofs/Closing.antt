-- What is there stays there.
use Rattle.std.proofs.Common.{◌≡◌, ℕ, zero, suc, ◌+◌, ◌<◌, ◌≤◌, ◌⊎◌, inl, inr, Bool, true, false, not, ◌&&◌, nat_lt, nat_le, cond, List, [], ◌∷◌, ◌++◌, length, set, filter, Option, Some, None, Bor, Result, Ok, Err, OnOk, OnErr, IfSome, is_some, codes, decimal, pos, slice_get, refl, sym, ap, subst, ◌∙◌, arith, length-append}
use Rattle.std.proofs.Math.ListN.{length-set}
use Rattle.std.proofs.lemmas.Bool.Decides.{nat_tests}
use Rattle.std.specs.Option.{option_map, option_map_or, option_copied}
use Rattle.std.specs.Fmt.{digits}
use Rattle.std.specs.Str.Parse.{digits_value}
use borrow.Author.Tests.{ltb-true}
use Rattle.js_value.specs.Same.{text_equal}
use Rattle.js_value.specs.declared.number.Num.TheVariants.{Whole}
use Rattle.js_value.specs.declared.value.ObjId.{ObjId}
use Rattle.js_value.specs.declared.value.Value.{Value}
use Rattle.js_value.specs.declared.value.Value.TheVariants as value
use Rattle.js_table.specs.Indices.{index_of, is_within, without_elements}
use Rattle.js_table.specs.Properties.{property_named, value_named, with_property, with_value, without}
use Rattle.js_heap.specs.Chains.{IsBelow, LeadsBack, chain, first_some, or_else}
use Rattle.js_heap.specs.Closed.{BeginsWithLength, BindingIsAmong, ClassIsAmong, Each, HasLength, IsAmong, IsClosed, IsThere, ObjectIsAmong, PropertyIsAmong, ScopeIsAmong, object_named}
use Rattle.js_heap.specs.Elements.{cut, length_in, length_of, raised, with_element, with_length}
use Rattle.js_heap.specs.Names.{value_bound, with_binding}
use Rattle.js_heap.specs.Objects as objects
use Rattle.js_heap.specs.Puts as puts
use Rattle.js_heap.specs.Scopes as scopes
use Rattle.js_heap.specs.World.{Binding, Object, Property, Scope, World}
use Rattle.js_heap.specs.declared.class.Class.{Class}
use Rattle.js_heap.specs.declared.class.Class.TheVariants as class
use Rattle.js_heap.specs.inner.Kept.{IsKept, world_of}

-- Lists.

module _ {X : Type 0} where
  pub each-map : (P Q : X → Type 0) → ((x : X) → P x → Q x) → (xs : List X) → Each P xs → Each Q xs
  each-map P Q f [] h = tt
  each-map P Q f (x ∷ xs) h = (f x h.0, each-map P Q f xs h.1)

  pub each-snoc : (P : X → Type 0) (xs : List X) (x : X) → Each P xs → P x → Each P (xs ++ x ∷ [])
  each-snoc P [] x h p = (p, tt)
  each-snoc P (y ∷ xs) x h p = (h.0, each-snoc P xs x h.1 p)

  pub each-at : (P : X → Type 0) (xs : List X) (n : ℕ) (x : X) → Each P xs → slice_get xs n ≡ Some x → P x
  each-at P [] n x h e = cc
  each-at P (y ∷ xs) zero x h e = let same : y ≡ x = cc in subst P same h.0
  each-at P (y ∷ xs) (suc n) x h e = each-at P xs n x h.1 e

  pub each-set : (P : X → Type 0) (xs : List X) (n : ℕ) (x : X) → Each P xs → P x → Each P (set xs n x)
  each-set P [] n x h p = tt
  each-set P (y ∷ xs) zero x h p = (p, h.1)
  each-set P (y ∷ xs) (suc n) x h p = (h.0, each-set P xs n x h.1 p)

  each-cond : (P : X → Type 0) (b : Bool) (xs ys : List X) → Each P xs → Each P ys → Each P (cond b xs ys)
  each-cond P true xs ys h k = h
  each-cond P false xs ys h k = k

  pub each-filter : (P : X → Type 0) (t : X → Bool) (xs : List X) → Each P xs → Each P (filter t xs)
  each-filter P t [] h = tt
  each-filter P t (x ∷ xs) h = each-cond P (t x) (x ∷ filter t xs) (filter t xs) (h.0, each-filter P t xs h.1) (each-filter P t xs h.1)

  snoc-get : (xs : List X) (x : X) (n : ℕ) (y : X) → slice_get (xs ++ x ∷ []) n ≡ Some y → (slice_get xs n ≡ Some y) ⊎ ((n ≡ length xs) × (x ≡ y))
  snoc-get [] x zero y e = inr (refl, cc)
  snoc-get [] x (suc n) y e = cc
  snoc-get (z ∷ xs) x zero y e = inl e
  snoc-get (z ∷ xs) x (suc n) y e = elim (snoc-get xs x n y e) [ inl h ↦ inl h | inr h ↦ inr (ap suc h.0, h.1) ]

  set-get : (xs : List X) (x : X) (n m : ℕ) (y : X) → slice_get (set xs n x) m ≡ Some y → (slice_get xs m ≡ Some y) ⊎ ((m ≡ n) × (x ≡ y))
  set-get [] x n m y e = inl e
  set-get (z ∷ xs) x zero zero y e = inr (refl, cc)
  set-get (z ∷ xs) x zero (suc m) y e = inl e
  set-get (z ∷ xs) x (suc n) zero y e = inl e
  set-get (z ∷ xs) x (suc n) (suc m) y e = elim (set-get xs x n m y e) [ inl h ↦ inl h | inr h ↦ inr (ap suc h.0, h.1) ]

  module _ (next : X → Option ℕ) where
    pub back-snoc : (xs : List X) (x : X) → LeadsBack next xs → IsBelow (length xs) (next x) → LeadsBack next (xs ++ x ∷ [])
    back-snoc xs x back h n y e = elim (snoc-get xs x n y e) [
      | inl g ↦ back n y g
      | inr g ↦ let P : ℕ → Type 0 = λ k. IsBelow k (next x) in let Q : X → Type 0 = λ z. IsBelow n (next z) in subst Q g.1 (subst P (sym g.0) h)
    ]

    pub back-set : (xs : List X) (n : ℕ) (old x : X) → LeadsBack next xs → slice_get xs n ≡ Some old → next x ≡ next old → LeadsBack next (set xs n x)
    back-set xs n old x back g same m y e = elim (set-get xs x n m y e) [
      | inl h ↦ back m y h
      | inr h ↦
          let P : ℕ → Type 0 = λ k. IsBelow k (next old) in let Q : Option ℕ → Type 0 = λ o. IsBelow m o in
          subst Q (sym same ∙ ap next h.1) (subst P (sym h.0) (back n old g))
    ]

-- Values and classes.

below-more : (m n : ℕ) (o : Option ℕ) → m ≤ n → IsBelow m o → IsBelow n o
below-more m n None h b = tt
below-more m n (Some k) h b = omega arith

pub among-more : (m n : ℕ) → m ≤ n → (v : Value) → IsAmong m v → IsAmong n v
among-more m n h v b = below-more m n (object_named v) h b

class-more : (m n s t : ℕ) → m ≤ n → s ≤ t → (c : Class) → ClassIsAmong m s c → ClassIsAmong n t c
class-more m n s t h k (class.Function f) b = below-more s t (option_map scopes.scope_number f.scope) k b
class-more m n s t h k (class.Bound f) b = (among-more m n h f.f b.0, among-more m n h f.this b.1, each-map (IsAmong m) (IsAmong n) (among-more m n h) f.args b.2)
class-more m n s t h k c b = tt

object-more : (m n s t : ℕ) → m ≤ n → s ≤ t → (o : Object) → ObjectIsAmong m s o → ObjectIsAmong n t o
object-more m n s t h k o b = record {
  named = class-more m n s t h k o.class b.named;
  values = each-map (PropertyIsAmong m) (PropertyIsAmong n) (λ p. among-more m n h p.value) o.properties b.values;
  begins = b.begins;
}

scope-more : (m n : ℕ) → m ≤ n → (s : Scope) → ScopeIsAmong m s → ScopeIsAmong n s
scope-more m n h s b = each-map (BindingIsAmong m) (BindingIsAmong n) (λ p. among-more m n h p.value) s.names b

-- Properties.

module _ (n : ℕ) where
  values-with_property : (x : List ℕ) (v : Value) (l : Bool) (ps : List Property) → Each (PropertyIsAmong n) ps → IsAmong n v → Each (PropertyIsAmong n) (with_property x v l ps)
  values-with_property x v l [] h k = (k, tt)
  values-with_property x v l (p ∷ ps) h k =
      each-cond (PropertyIsAmong n) (text_equal x p.name) (record { name = p.name; value = v; listed = p.listed } ∷ ps) (p ∷ with_property x v l ps) (k, h.1) (h.0, values-with_property x v l ps h.1 k)

  values-with_value : (x : List ℕ) (v : Value) (ps : List Property) → Each (PropertyIsAmong n) ps → IsAmong n v → Each (PropertyIsAmong n) (with_value x v ps)
  values-with_value x v [] h k = tt
  values-with_value x v (p ∷ ps) h k =
      each-cond (PropertyIsAmong n) (text_equal x p.name) (record { name = p.name; value = v; listed = p.listed } ∷ ps) (p ∷ with_value x v ps) (k, h.1) (h.0, values-with_value x v ps h.1 k)

  values-with_length : (m : ℕ) (ps : List Property) → Each (PropertyIsAmong n) ps → Each (PropertyIsAmong n) (with_length m ps)
  values-with_length m ps h = values-with_value (codes "length") (value.Num (Whole (pos m))) ps h tt

  values-cut : (m : ℕ) (ps : List Property) → Each (PropertyIsAmong n) ps → Each (PropertyIsAmong n) (cut m ps)
  values-cut m ps h = values-with_length m (without_elements m (length_of ps) ps) (each-filter (PropertyIsAmong n) (λ p. not (is_within m (length_of ps) p.name)) ps h)

  values-raised : (o : Option ℕ) (ps : List Property) → Each (PropertyIsAmong n) ps → Each (PropertyIsAmong n) (raised o ps)
  values-raised None ps h = h
  values-raised (Some i) ps h = each-cond (PropertyIsAmong n) (nat_lt i (length_of ps)) ps (with_length (i + 1) ps) h (values-with_length (i + 1) ps h)

  values-given : (o : Option ℕ) (ps : List Property) → Each (PropertyIsAmong n) ps → Each (PropertyIsAmong n) (option_map_or (λ m. cut m ps) o ps)
  values-given None ps h = h
  values-given (Some m) ps h = values-cut m ps h

  values-with_put : (c : Class) (x : List ℕ) (v : Value) (l : Bool) (ps : List Property) → Each (PropertyIsAmong n) ps → IsAmong n v → Each (PropertyIsAmong n) (puts.with_put c x v l ps)
  values-with_put class.Array x v l ps h k =
      each-cond (PropertyIsAmong n) (text_equal x (codes "length")) (option_map_or (λ m. cut m ps) (length_in v) ps) (raised (index_of x) (with_property x v l ps))
      (values-given (length_in v) ps h) (values-raised (index_of x) (with_property x v l ps) (values-with_property x v l ps h k))
  values-with_put c x v l ps h k = values-with_property x v l ps h k

  value_named-each : (x : List ℕ) (ps : List Property) (v : Value) → Each (PropertyIsAmong n) ps → value_named x ps ≡ Some v → IsAmong n v
  value_named-each x [] v h e = cc
  value_named-each x (p ∷ ps) v h e = named (text_equal x p.name) p (property_named x ps) h.0 (value_named-each x ps v h.1) e
    where
      named : (b : Bool) (q : Property) (o : Option Property) → IsAmong n q.value → (option_map (λ r. r.value) o ≡ Some v → IsAmong n v) → option_map (λ r. r.value) (cond b (Some q) o) ≡ Some v → IsAmong n v
      named true q o k f g = let same : q.value ≡ v = cc in subst (IsAmong n) same k
      named false q o k f g = f g

-- An array's length.

small : (i : ℕ) → i < 0xFFFF_FFFF → nat_le (i + 1) 0xFFFF_FFFF ≡ true
small i h = grind (arith, nat_tests)

at_most : (m : ℕ) → m ≤ 0xFFFF_FFFF → nat_le m 0xFFFF_FFFF ≡ true
at_most m h = grind (arith, nat_tests)

is_length : (m : ℕ) → nat_le m 0xFFFF_FFFF ≡ true → is_some (length_in (value.Num (Whole (pos m)))) ≡ true
is_length m e = rw e refl

begins-with_value : (m : ℕ) (ps : List Property) → nat_le m 0xFFFF_FFFF ≡ true → BeginsWithLength ps → BeginsWithLength (with_length m ps)
begins-with_value m [] e h = h
begins-with_value m (p ∷ ps) e h = either (text_equal (codes "length") p.name)
  where
    either : (b : Bool) → BeginsWithLength (cond b (record { name = p.name; value = value.Num (Whole (pos m)); listed = p.listed } ∷ ps) (p ∷ with_length m ps))
    either true = (h.0, is_length m e)
    either false = h

begins-unequal : (x : List ℕ) (v : Value) (l : Bool) (ps : List Property) → text_equal x (codes "length") ≡ false → BeginsWithLength ps → BeginsWithLength (with_property x v l ps)
begins-unequal x v l [] e h = absurd h
begins-unequal x v l (p ∷ ps) e h = other (text_equal x p.name) (ap (text_equal x) h.0 ∙ e)
  where
    other : (b : Bool) → b ≡ false → BeginsWithLength (cond b (record { name = p.name; value = v; listed = p.listed } ∷ ps) (p ∷ with_property x v l ps))
    other true f = cc
    other false f = h

begins-without : (x : List ℕ) (ps : List Property) → text_equal x (codes "length") ≡ false → BeginsWithLength ps → BeginsWithLength (without x ps)
begins-without x [] e h = h
begins-without x (p ∷ ps) e h = other (text_equal x p.name) (ap (text_equal x) h.0 ∙ e)
  where
    other : (b : Bool) → b ≡ false → BeginsWithLength (cond (not b) (p ∷ without x ps) (without x ps))
    other true f = cc
    other false f = h

no_element : (low high : ℕ) → is_within low high (codes "length") ≡ false
unfolding digits
no_element low high = refl

begins-without_elements : (low high : ℕ) (ps : List Property) → BeginsWithLength ps → BeginsWithLength (without_elements low high ps)
begins-without_elements low high [] h = h
begins-without_elements low high (p ∷ ps) h = other (is_within low high p.name) (ap (is_within low high) h.0 ∙ no_element low high)
  where
    other : (b : Bool) → b ≡ false → BeginsWithLength (cond (not b) (p ∷ without_elements low high ps) (without_elements low high ps))
    other true f = cc
    other false f = h

begins-cut : (m : ℕ) (ps : List Property) → nat_le m 0xFFFF_FFFF ≡ true → BeginsWithLength ps → BeginsWithLength (cut m ps)
begins-cut m ps e h = begins-with_value m (without_elements m (length_of ps) ps) e (begins-without_elements m (length_of ps) ps h)

begins-raised : (o : Option ℕ) (ps : List Property) → ((i : ℕ) → o ≡ Some i → i < 0xFFFF_FFFF) → BeginsWithLength ps → BeginsWithLength (raised o ps)
begins-raised None ps f h = h
begins-raised (Some i) ps f h = either (nat_lt i (length_of ps))
  where
    either : (b : Bool) → BeginsWithLength (cond b ps (with_length (i + 1) ps))
    either true = h
    either false = begins-with_value (i + 1) ps (small i (f i refl)) h

both_first : (b c : Bool) → b && c ≡ true → b ≡ true
both_first true c e = refl
both_first false c e = cc

index-small : (x : List ℕ) (i : ℕ) → index_of x ≡ Some i → i < 0xFFFF_FFFF
index-small x i e = chosen (nat_lt (digits_value 10 x) 0xFFFF_FFFF && text_equal x (decimal (digits_value 10 x))) refl e
  where
    chosen : (b : Bool) → nat_lt (digits_value 10 x) 0xFFFF_FFFF && text_equal x (decimal (digits_value 10 x)) ≡ b → cond b (Some (digits_value 10 x)) None ≡ Some i → i < 0xFFFF_FFFF
    chosen true f g =
        let same : digits_value 10 x ≡ i = cc in
        let P : ℕ → Type 0 = λ k. k < 0xFFFF_FFFF in
        subst P same (ltb-true (digits_value 10 x) 0xFFFF_FFFF (both_first (nat_lt (digits_value 10 x) 0xFFFF_FFFF) (text_equal x (decimal (digits_value 10 x))) f))
    chosen false f g = cc

length-small : (v : Value) (m : ℕ) → length_in v ≡ Some m → nat_le m 0xFFFF_FFFF ≡ true
length-small (value.Num (Whole (pos k))) m e = chosen (nat_le k 0xFFFF_FFFF) refl e
  where
    chosen : (b : Bool) → nat_le k 0xFFFF_FFFF ≡ b → cond b (Some k) None ≡ Some m → nat_le m 0xFFFF_FFFF ≡ true
    chosen true f g = let same : k ≡ m = cc in ap (λ j. nat_le j 0xFFFF_FFFF) (sym same) ∙ f
    chosen false f g = cc
length-small v m e = cc

begins-given : (o : Option ℕ) (ps : List Property) → ((m : ℕ) → o ≡ Some m → nat_le m 0xFFFF_FFFF ≡ true) → BeginsWithLength ps → BeginsWithLength (option_map_or (λ m. cut m ps) o ps)
begins-given None ps f h = h
begins-given (Some m) ps f h = begins-cut m ps (f m refl) h

begins-with_element : (x : List ℕ) (v : Value) (l : Bool) (ps : List Property) → BeginsWithLength ps → BeginsWithLength (with_element x v l ps)
begins-with_element x v l ps h = chosen (text_equal x (codes "length")) refl
  where
    chosen : (b : Bool) → text_equal x (codes "length") ≡ b → BeginsWithLength (cond b (option_map_or (λ n. cut n ps) (length_in v) ps) (raised (index_of x) (with_property x v l ps)))
    chosen true e = begins-given (length_in v) ps (length-small v) h
    chosen false e = begins-raised (index_of x) (with_property x v l ps) (index-small x) (begins-unequal x v l ps e h)

length-with_put : (c : Class) (x : List ℕ) (v : Value) (l : Bool) (ps : List Property) → HasLength c ps → HasLength c (puts.with_put c x v l ps)
length-with_put class.Array x v l ps h = begins-with_element x v l ps h
length-with_put c x v l ps h = tt

length-cut : (c : Class) (m : ℕ) (ps : List Property) → m ≤ 0xFFFF_FFFF → HasLength c ps → HasLength c (cut m ps)
length-cut class.Array m ps k h = begins-cut m ps (at_most m k) h
length-cut c m ps k h = tt

length-removed : (c : Class) (x : List ℕ) (ps : List Property) → HasLength c ps → HasLength c (cond (objects.is_length c x) ps (without x ps))
length-removed class.Array x ps h = chosen (text_equal x (codes "length")) refl
  where
    chosen : (b : Bool) → text_equal x (codes "length") ≡ b → BeginsWithLength (cond b ps (without x ps))
    chosen true e = h
    chosen false e = begins-without x ps e h
length-removed c x ps h = tt

-- Objects.

module _ (n s : ℕ) where
  pub object-put : (x : List ℕ) (v : Value) (l : Bool) → IsAmong n v → (o : Object) → ObjectIsAmong n s o → ObjectIsAmong n s (puts.object_with x v l o)
  object-put x v l k o h = record {
    named = h.named;
    values = values-with_put n o.class x v l o.properties h.values k;
    begins = length-with_put o.class x v l o.properties h.begins;
  }

  pub object-cut : (m : ℕ) → m ≤ 0xFFFF_FFFF → (o : Object) → ObjectIsAmong n s o → ObjectIsAmong n s (puts.object_cut m o)
  object-cut m k o h = record { named = h.named; values = values-cut n m o.properties h.values; begins = length-cut o.class m o.properties k h.begins }

  pub object-removed : (x : List ℕ) (o : Object) → ObjectIsAmong n s o → ObjectIsAmong n s (objects.object_without x o)
  object-removed x o h = record {
    named = h.named;
    values = each-cond (PropertyIsAmong n) (objects.is_length o.class x) o.properties (without x o.properties) h.values (each-filter (PropertyIsAmong n) (λ p. not (text_equal x p.name)) o.properties h.values);
    begins = length-removed o.class x o.properties h.begins;
  }

  first-closed : (c : Class) (p : Option ObjId) → ClassIsAmong n s c → ObjectIsAmong n s (record { class = c; prototype = p; properties = objects.first_properties c })
  first-closed class.Array p k = record { named = k; values = (tt, tt); begins = (refl, refl) }
  first-closed c p k = record { named = k; values = tt; begins = tt }

-- Worlds.

closed_from : (os : List Object) (ss : List Scope) (n s : ℕ) → length os ≡ n → length ss ≡ s → LeadsBack objects.prototype_number os → LeadsBack scopes.parent_number ss
    → Each (ObjectIsAmong n s) os → Each (ScopeIsAmong n) ss → IsClosed (world_of os ss)
closed_from os ss n s e f b c h k = record {
  prototypes = b;
  parents = c;
  each_object = (let P : ℕ → Type 0 = λ m. Each (ObjectIsAmong m (length ss)) os in let Q : ℕ → Type 0 = λ t. Each (ObjectIsAmong n t) os in subst P (sym e) (subst Q (sym f) h));
  each_scope = (let P : ℕ → Type 0 = λ m. Each (ScopeIsAmong m) ss in subst P (sym e) k);
}

pub kept-object : (os : List Object) (ss : List Scope) (c : Class) (p : Option ObjId) → IsKept os ss → ClassIsAmong (length os) (length ss) c → IsBelow (length os) (option_map objects.id_number p)
    → IsKept (objects.with_object (world_of os ss) c p).objects ss
kept-object os ss c p h k b =
    let o : Object = record { class = c; prototype = p; properties = objects.first_properties c } in
    let n = length os in
    let s = length ss in
    let long : length (os ++ o ∷ []) ≡ n + 1 = length-append os (o ∷ []) in
    record {
      closed = closed_from (os ++ o ∷ []) ss (n + 1) s long refl (back-snoc objects.prototype_number os o h.closed.prototypes b) h.closed.parents
          (each-snoc (ObjectIsAmong (n + 1) s) os o (each-map (ObjectIsAmong n s) (ObjectIsAmong (n + 1) s) (object-more n (n + 1) s s (omega arith) (omega arith)) os h.closed.each_object)
          (first-closed (n + 1) s c p (class-more n (n + 1) s s (omega arith) (omega arith) c k)))
          (each-map (ScopeIsAmong n) (ScopeIsAmong (n + 1)) (scope-more n (n + 1) (omega arith)) ss h.closed.each_scope);
      roots = omega (arith, long, h.roots);
    }

pub kept-scope : (os : List Object) (ss : List Scope) (x : Scope) → IsKept os ss → IsBelow (length ss) (scopes.parent_number x) → x.names ≡ [] → IsKept os (ss ++ x ∷ [])
kept-scope os ss x h b e =
    let n = length os in
    let s = length ss in
    let none : ScopeIsAmong n x = (let P : List Binding → Type 0 = λ ns. Each (BindingIsAmong n) ns in subst P (sym e) tt) in
    record {
      closed = closed_from os (ss ++ x ∷ []) n (s + 1) refl (length-append ss (x ∷ [])) h.closed.prototypes (back-snoc scopes.parent_number ss x h.closed.parents b)
          (each-map (ObjectIsAmong n s) (ObjectIsAmong n (s + 1)) (object-more n n s (s + 1) (omega arith) (omega arith)) os h.closed.each_object)
          (each-snoc (ScopeIsAmong n) ss x h.closed.each_scope none);
      roots = h.roots;
    }

-- an object is changed, which keeps its prototype
pub kept-changed : (os : List Object) (ss : List Scope) (i : ℕ) (f : Object → Object) → IsKept os ss → ((o : Object) → objects.prototype_number (f o) ≡ objects.prototype_number o)
    → ((o : Object) → ObjectIsAmong (length os) (length ss) o → ObjectIsAmong (length os) (length ss) (f o)) → IsKept (objects.changed_at os i f) ss
kept-changed os ss i f h same keeps = at (slice_get os i) refl
  where
    at : (g : Option Object) → slice_get os i ≡ g → IsKept (option_map_or (λ o. set os i (f o)) g os) ss
    at None e = h
    at (Some o) e =
        let n = length os in
        let s = length ss in
        let long : length (set os i (f o)) ≡ n = length-set os i (f o) in
        record {
          closed = closed_from (set os i (f o)) ss n s long refl (back-set objects.prototype_number os i o (f o) h.closed.prototypes e (same o)) h.closed.parents
              (each-set (ObjectIsAmong n s) os i (f o) h.closed.each_object (keeps o (each-at (ObjectIsAmong n s) os i o h.closed.each_object e)))
              h.closed.each_scope;
          roots = omega (arith, long, h.roots);
        }

names-bound : (n : ℕ) (x : List ℕ) (v : Value) (bs : List Binding) → Each (BindingIsAmong n) bs → IsAmong n v → Each (BindingIsAmong n) (with_binding x v bs)
names-bound n x v [] h k = (k, tt)
names-bound n x v (b ∷ bs) h k =
    each-cond (BindingIsAmong n) (text_equal x b.name) (record { name = b.name; value = v } ∷ bs) (b ∷ with_binding x v bs) (k, h.1) (h.0, names-bound n x v bs h.1 k)

-- a scope gives a name a value
pub kept-named : (os : List Object) (ss : List Scope) (i : ℕ) (x : List ℕ) (v : Value) → IsKept os ss → IsAmong (length os) v → IsKept os (scopes.named_in ss i x v)
kept-named os ss i x v h k = at (slice_get ss i) refl
  where
    at : (g : Option Scope) → slice_get ss i ≡ g → IsKept os (option_map_or (λ s. set ss i (scopes.named_scope x v s)) g ss)
    at None e = h
    at (Some t) e =
        let n = length os in
        let s = length ss in
        let u = scopes.named_scope x v t in
        record {
          closed = closed_from os (set ss i u) n s refl (length-set ss i u) h.closed.prototypes (back-set scopes.parent_number ss i t u h.closed.parents e refl)
              h.closed.each_object
              (each-set (ScopeIsAmong n) ss i u h.closed.each_scope (names-bound n x v t.names (each-at (ScopeIsAmong n) ss i t h.closed.each_scope e) k));
          roots = h.roots;
        }

-- What is found is there.

first_some-each : {A B : Type 0} (P : B → Type 0) (f : A → Option B) → ((a : A) (b : B) → f a ≡ Some b → P b) → (xs : List A) (b : B) → first_some f xs ≡ Some b → P b
first_some-each P f h [] b e = cc
first_some-each {A} {B} P f h (x ∷ xs) b e = first (f x) refl (first_some-each P f h xs b) e
  where
    first : (o : Option B) → f x ≡ o → (first_some f xs ≡ Some b → P b) → or_else o (first_some f xs) ≡ Some b → P b
    first None g m k = m k
    first (Some c) g m k = let same : c ≡ b = cc in subst P same (h x c g)

own-there : (w : World) (n : ℕ) (x : List ℕ) (v : Value) → IsClosed w → value_named x (objects.properties_in w.objects n) ≡ Some v → IsThere w v
own-there w n x v h e = at (slice_get w.objects n) refl e
  where
    at : (g : Option Object) → slice_get w.objects n ≡ g → value_named x (option_map_or (λ o. o.properties) g []) ≡ Some v → IsThere w v
    at None f k = cc
    at (Some o) f k = value_named-each (length w.objects) x o.properties v (each-at (ObjectIsAmong (length w.objects) (length w.scopes)) w.objects n o h.each_object f).values k

pub get_own-there : (w : World) (o : ObjId) (x : List ℕ) (v : Value) → IsClosed w → objects.get_own w o x ≡ Some v → IsThere w v
get_own-there w o x v h e = own-there w o.number x v h e

pub get-there : (w : World) (o : ObjId) (x : List ℕ) (v : Value) → IsClosed w → objects.get w o x ≡ Some v → IsThere w v
get-there w o x v h e =
    first_some-each (IsThere w) (λ n. value_named x (objects.properties_in w.objects n)) (λ n u f. own-there w n x u h f) (chain objects.prototype_number w.objects (Some o.number)) v e

value_bound-each : (n : ℕ) (x : List ℕ) (bs : List Binding) (v : Value) → Each (BindingIsAmong n) bs → value_bound x bs ≡ Some v → IsAmong n v
value_bound-each n x [] v h e = cc
value_bound-each n x (b ∷ bs) v h e = named (text_equal x b.name) (value_bound-each n x bs v h.1) e
  where
    named : (c : Bool) → (value_bound x bs ≡ Some v → IsAmong n v) → cond c (Some b.value) (value_bound x bs) ≡ Some v → IsAmong n v
    named true f g = let same : b.value ≡ v = cc in subst (IsAmong n) same h.0
    named false f g = f g

bound-there : (w : World) (n : ℕ) (x : List ℕ) (v : Value) → IsClosed w → value_bound x (scopes.names_in w.scopes n) ≡ Some v → IsThere w v
bound-there w n x v h e = at (slice_get w.scopes n) refl e
  where
    at : (g : Option Scope) → slice_get w.scopes n ≡ g → value_bound x (option_map_or (λ s. s.names) g []) ≡ Some v → IsThere w v
    at None f k = cc
    at (Some s) f k = value_bound-each (length w.objects) x s.names v (each-at (ScopeIsAmong (length w.objects)) w.scopes n s h.each_scope f) k

pub look_up-there : (w : World) (n : ℕ) (x : List ℕ) (v : Value) → IsClosed w → scopes.value_along w.scopes (Some n) x ≡ Some v → IsThere w v
look_up-there w n x v h e =
    first_some-each (IsThere w) (λ m. value_bound x (scopes.names_in w.scopes m)) (λ m u f. bound-there w m x u h f) (chain scopes.parent_number w.scopes (Some n)) v e

pub class-there : (w : World) (n : ℕ) (c : Class) → IsClosed w → option_map objects.class_of (slice_get w.objects n) ≡ Some c → ClassIsAmong (length w.objects) (length w.scopes) c
class-there w n c h e = at (slice_get w.objects n) refl e
  where
    at : (g : Option Object) → slice_get w.objects n ≡ g → option_map objects.class_of g ≡ Some c → ClassIsAmong (length w.objects) (length w.scopes) c
    at None f k = cc
    at (Some o) f k =
        let same : o.class ≡ c = cc in
        subst (ClassIsAmong (length w.objects) (length w.scopes)) same (each-at (ObjectIsAmong (length w.objects) (length w.scopes)) w.objects n o h.each_object f).named

-- Answers.

pub on_either : {A E X : Type 0} (P : X → Type 0) (r : Result A E) (old after new : X) → OnOk r (new ≡ after) → OnErr r (new ≡ old) → P old → P after → P new
on_either P (Ok a) old after new e f p q = subst P (sym e) q
on_either P (Err x) old after new e f p q = subst P (sym f) p

-- a world that a heap is seen as
pub closed_seen : (os : List Object) (ss : List Scope) (w : World) → world_of os ss ≡ w → IsKept os ss → IsClosed w
closed_seen os ss w e h = subst IsClosed e h.closed

there_inside : (os : List Object) (ss : List Scope) (w : World) (v : Value) → world_of os ss ≡ w → IsThere w v → IsAmong (length os) v
there_inside os ss w v e h = let P : World → Type 0 = λ u. IsThere u v in subst P (sym e) h

pub kept-put : {A E : Type 0} (r : Result A E) (os new : List Object) (ss : List Scope) (w : World) (i : ℕ) (x : List ℕ) (v : Value) (l : Bool) → world_of os ss ≡ w → IsKept os ss → IsThere w v
    → OnOk r (new ≡ objects.changed_at os i (puts.object_with x v l)) → OnErr r (new ≡ os) → IsKept new ss
kept-put r os new ss w i x v l e h k f g =
    on_either (λ xs. IsKept xs ss) r os (objects.changed_at os i (puts.object_with x v l)) new f g h
    (kept-changed os ss i (puts.object_with x v l) h (λ o. refl) (object-put (length os) (length ss) x v l (there_inside os ss w v e k)))

pub kept-cut : (os new : List Object) (ss : List Scope) (i m : ℕ) → m ≤ 0xFFFF_FFFF → IsKept os ss → new ≡ objects.changed_at os i (puts.object_cut m) → IsKept new ss
kept-cut os new ss i m k h e = let P : List Object → Type 0 = λ xs. IsKept xs ss in subst P (sym e) (kept-changed os ss i (puts.object_cut m) h (λ o. refl) (object-cut (length os) (length ss) m k))

pub kept-removed : (os new : List Object) (ss : List Scope) (i : ℕ) (x : List ℕ) → IsKept os ss → new ≡ objects.changed_at os i (objects.object_without x) → IsKept new ss
kept-removed os new ss i x h e = let P : List Object → Type 0 = λ xs. IsKept xs ss in subst P (sym e) (kept-changed os ss i (objects.object_without x) h (λ o. refl) (object-removed (length os) (length ss) x))

pub kept-declared : {A E : Type 0} (r : Result A E) (os : List Object) (ss new : List Scope) (w : World) (i : ℕ) (x : List ℕ) (v : Value) → world_of os ss ≡ w → IsKept os ss → IsThere w v
    → OnOk r (new ≡ scopes.named_in ss i x v) → OnErr r (new ≡ ss) → IsKept os new
kept-declared r os ss new w i x v e h k f g =
    on_either (λ xs. IsKept os xs) r ss (scopes.named_in ss i x v) new f g h (kept-named os ss i x v h (there_inside os ss w v e k))

pub kept-assigned : (os : List Object) (ss new : List Scope) (w : World) (i : ℕ) (x : List ℕ) (v : Value) → world_of os ss ≡ w → IsKept os ss → IsThere w v → new ≡ scopes.named_in ss i x v → IsKept os new
kept-assigned os ss new w i x v e h k f = let P : List Scope → Type 0 = λ xs. IsKept os xs in subst P (sym f) (kept-named os ss i x v h (there_inside os ss w v e k))

pub found-there : (w : World) (r : Option (Bor Value)) (g : Option Value) → option_copied r ≡ g → ((v : Value) → g ≡ Some v → IsThere w v) → IfSome r (λ v. IsThere w v.now)
found-there w None g e h = tt
found-there w (Some b) g e h = h b.now (sym e)

pub kept-made : (os new : List Object) (ss : List Scope) (w : World) (c : Class) (p : Option ObjId) (ps : List Property) → world_of os ss ≡ w → IsKept os ss → ClassIsAmong (length w.objects) (length w.scopes) c → IsBelow (length w.objects) (option_map objects.id_number p)
    → ps ≡ objects.first_properties c → new ≡ os ++ record { class = c; prototype = p; properties = ps } ∷ [] → IsKept new ss
kept-made os new ss w c p ps e h k b f g =
    let P : List Object → Type 0 = λ xs. IsKept xs ss in
    let Q : World → Type 0 = λ u. ClassIsAmong (length u.objects) (length u.scopes) c in
    let R : World → Type 0 = λ u. IsBelow (length u.objects) (option_map objects.id_number p) in
    let one : List Property → List Object = λ qs. os ++ record { class = c; prototype = p; properties = qs } ∷ [] in
    subst P (sym (g ∙ ap one f)) (kept-object os ss c p h (subst Q (sym e) k) (subst R (sym e) b))
