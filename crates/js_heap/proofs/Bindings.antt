-- The names of a scope, kept as a table of properties.
use Rattle.std.proofs.Common.{◌≡◌, ℕ, Bool, true, false, cond, List, [], ◌∷◌, Option, Some, None, is_some, refl, ap}
use Rattle.std.specs.Option.{option_map}
use Rattle.js_value.specs.Same.{text_equal}
use Rattle.js_value.specs.declared.value.Value.{Value}
use Rattle.js_heap.specs.Binding.{Binding}
use Rattle.js_heap.specs.Names.{binding_of, bindings, value_bound, with_binding}
use Rattle.js_table.specs.Properties.{property_named, value_named, with_property}
use Rattle.js_table.specs.declared.property.Property.{Property}

value-cond : (b : Bool) (p : Property) (o : Option Property) → cond b (Some p.value) (option_map (λ q. q.value) o) ≡ option_map (λ q. q.value) (cond b (Some p) o)
value-cond true p o = refl
value-cond false p o = refl

pub value_bound-bindings : (x : List ℕ) (ps : List Property) → value_bound x (bindings ps) ≡ value_named x ps
value_bound-bindings x [] = refl
value_bound-bindings x (p ∷ ps) = rw (value_bound-bindings x ps) (value-cond (text_equal x p.name) p (property_named x ps))

bindings-cond : (b : Bool) (p q : Property) (ps qs : List Property) (bs : List Binding) → bs ≡ bindings qs → cond b (binding_of q ∷ bindings ps) (binding_of p ∷ bs) ≡ bindings (cond b (q ∷ ps) (p ∷ qs))
bindings-cond true p q ps qs bs e = refl
bindings-cond false p q ps qs bs e = ap (λ rs. binding_of p ∷ rs) e

pub with_binding-bindings : (x : List ℕ) (v : Value) (listed : Bool) (ps : List Property) → with_binding x v (bindings ps) ≡ bindings (with_property x v listed ps)
with_binding-bindings x v l [] = refl
with_binding-bindings x v l (p ∷ ps) =
    bindings-cond (text_equal x p.name) p (record { name = p.name; value = v; listed = p.listed }) ps (with_property x v l ps) (with_binding x v (bindings ps)) (with_binding-bindings x v l ps)

is_some-map : (o : Option Property) → is_some (option_map (λ q. q.value) o) ≡ is_some o
is_some-map None = refl
is_some-map (Some p) = refl

pub is_some-value : (x : List ℕ) (ps : List Property) → is_some (value_bound x (bindings ps)) ≡ is_some (property_named x ps)
is_some-value x ps = rw (value_bound-bindings x ps) (is_some-map (property_named x ps))
