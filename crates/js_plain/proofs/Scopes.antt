-- Scopes and their names commute with the plain image.
use Rattle.std.proofs.Common.{◌≡◌, ℕ, List, [], ◌∷◌, Option, Some, is_some, map}
use Rattle.std.proofs.Common.{slice_get}
use Rattle.std.proofs.Common.{slice_set, if◌then◌else◌, refl, ap, sym, ◌∙◌}
use Rattle.std.specs.Option.{option_map, option_map_or}
use Rattle.std.proofs.lemmas.List.{map-append}
use Rattle.js_value.specs.Image.{image}
use Rattle.js_value.specs.Same.{text_equal}
use Rattle.js_value.specs.declared.value.Value.{Value}
use Rattle.js_heap.specs.Binding.{Binding}
use Rattle.js_heap.specs.Chains.{chain, first_some}
use Rattle.js_heap.specs.Names.{value_bound, with_binding}
use Rattle.js_heap.specs.Scopes.{assign, holder, look_up, named_in, named_scope, names_in}
use Rattle.js_heap.specs.Scopes.{number_if, parent_number, with_name, with_scope}
use Rattle.js_heap.specs.World.{World}
use Rattle.js_heap.specs.declared.class.ScopeId.{ScopeId}
use Rattle.js_heap.specs.declared.scope.Scope.{Scope}
use Rattle.js_host.specs.Images.{plain_binding, plain_scope, plain_world}
use Rattle.js_plain.specs.Heaps.{ScopesCommute}
use Rattle.js_plain.proofs.Common.{chain-same, first-map, first-same, get-map, if-ap, is_some-map}
use Rattle.js_plain.proofs.Common.{option-same, option-twice, or-along, set-map}

value_bound-plain : (x : List ℕ) (bs : List Binding)
    → value_bound x (map plain_binding bs) ≡ option_map image (value_bound x bs)
value_bound-plain x [] = refl
value_bound-plain x (b ∷ bs) =
    ap (λ o. if text_equal x b.name then Some (image b.value) else o) (value_bound-plain x bs)
    ∙ if-ap (option_map image) (text_equal x b.name) (Some b.value) (value_bound x bs)

abbrev with : Binding → Value → Binding
with b v = record { name = b.name; value = v }

with_binding-plain : (x : List ℕ) (v : Value) (bs : List Binding)
    → with_binding x (image v) (map plain_binding bs) ≡ map plain_binding (with_binding x v bs)
with_binding-plain x v [] = refl
with_binding-plain x v (b ∷ bs) =
    ap (λ l. if text_equal x b.name then with (plain_binding b)
    (image v) ∷ map plain_binding bs else plain_binding b ∷ l)
    (with_binding-plain x v bs)
    ∙ if-ap (map plain_binding) (text_equal x b.name) (with b v ∷ bs)
    (b ∷ with_binding x v bs)

abbrev plains : List Scope → List Scope
plains ss = map plain_scope ss

abbrev with_scopes : World → List Scope → World
with_scopes w ss = record { objects = (plain_world w).objects; scopes = ss }

with_scope-plain : (w : World) (p : Option ScopeId)
    → with_scope (plain_world w) p ≡ plain_world (with_scope w p)
with_scope-plain w p =
    ap (with_scopes w) (sym (map-append plain_scope w.scopes
    (record { parent = p; names = [] } ∷ [])))

scope : Option ScopeId → List Binding → Scope
scope p bs = record { parent = p; names = bs }

named_scope-plain : (x : List ℕ) (v : Value) (s : Scope)
    → named_scope x (image v) (plain_scope s) ≡ plain_scope (named_scope x v s)
named_scope-plain x v s = ap (λ bs. let t : Scope = record { parent = s.parent; names = bs } in t)
    (with_binding-plain x v s.names)

named_in-plain : (ss : List Scope) (n : ℕ) (x : List ℕ) (v : Value)
    → named_in (plains ss) n x (image v) ≡ plains (named_in ss n x v)
named_in-plain ss n x v =
    ap (λ o. option_map_or (λ s. slice_set (plains ss) n (named_scope x (image v) s)) o
    (plains ss))
    (get-map plain_scope ss n)
    ∙ or-along plain_scope (λ s. slice_set (plains ss) n (named_scope x (image v) s))
    (λ s. slice_set ss n (named_scope x v s)) plains ss
    (λ s. ap (slice_set (plains ss) n) (named_scope-plain x v s) ∙ set-map plain_scope ss n
    (named_scope x v s)) (slice_get ss n)

with_name-plain : (w : World) (n : ℕ) (x : List ℕ) (v : Value)
    → with_name (plain_world w) n x (image v) ≡ plain_world (with_name w n x v)
with_name-plain w n x v = ap (with_scopes w) (named_in-plain w.scopes n x v)

names_in-plain : (ss : List Scope) (n : ℕ) → names_in (plains ss) n ≡ map plain_binding
    (names_in ss n)
names_in-plain ss n =
    ap (λ o. option_map_or (λ s. s.names) o []) (get-map plain_scope ss n)
    ∙ or-along plain_scope (λ s. s.names) (λ s. s.names) (map plain_binding) [] (λ s. refl)
    (slice_get ss n)

bound_in-plain : (x : List ℕ) (ss : List Scope) (n : ℕ)
    → value_bound x (names_in (plains ss) n) ≡ option_map image (value_bound x (names_in ss n))
bound_in-plain x ss n = ap (value_bound x) (names_in-plain ss n) ∙ value_bound-plain x
    (names_in ss n)

parents-plain : (ss : List Scope) (p : Option ℕ)
    → chain parent_number (plains ss) p ≡ chain parent_number ss p
parents-plain ss p = chain-same plain_scope parent_number parent_number (λ s. refl) ss p

look_up-plain : (w : World) (s : ScopeId) (x : List ℕ)
    → look_up (plain_world w) s x ≡ option_map image (look_up w s x)
look_up-plain w s x =
    ap (first_some (λ n. value_bound x (names_in (plains w.scopes) n))) (parents-plain w.scopes
    (Some s.number))
    ∙ first-map image (λ n. value_bound x (names_in (plains w.scopes) n)) (λ n. value_bound x
    (names_in w.scopes n))
    (bound_in-plain x w.scopes) (chain parent_number w.scopes (Some s.number))

has-plain : (x : List ℕ) (ss : List Scope) (n : ℕ)
    → number_if (is_some (value_bound x (names_in (plains ss) n))) n
    ≡ number_if (is_some (value_bound x (names_in ss n))) n
has-plain x ss n =
    ap (λ o. number_if (is_some o) n) (bound_in-plain x ss n)
    ∙ ap (λ b. number_if b n) (is_some-map image (value_bound x (names_in ss n)))

holder-plain : (ss : List Scope) (p : Option ℕ) (x : List ℕ) → holder
    (plains ss) p x ≡ holder ss p x
holder-plain ss p x =
    ap (first_some (λ n. number_if (is_some (value_bound x (names_in (plains ss) n))) n))
    (parents-plain ss p)
    ∙ first-same (λ n. number_if (is_some (value_bound x (names_in (plains ss) n))) n)
    (λ n. number_if (is_some (value_bound x (names_in ss n))) n) (has-plain x ss)
    (chain parent_number ss p)

assign-plain : (w : World) (s : ScopeId) (x : List ℕ) (v : Value)
    → assign (plain_world w) s x (image v) ≡ option_map plain_world (assign w s x v)
assign-plain w s x v =
    ap (option_map (λ n. with_name (plain_world w) n x (image v))) (holder-plain w.scopes
    (Some s.number) x)
    ∙ (option-same (λ n. with_name (plain_world w) n x (image v)) (λ n. plain_world
    (with_name w n x v))
    (λ n. with_name-plain w n x v) (holder w.scopes (Some s.number) x)
    ∙ sym (option-twice (λ n. with_name w n x v) plain_world (holder w.scopes
    (Some s.number) x)))

pub scopes-plain : ScopesCommute
scopes-plain = record {
  with_scope = with_scope-plain;
  declare = λ w s x v. with_name-plain w s.number x v;
  look_up = look_up-plain;
  assign = assign-plain;
}
