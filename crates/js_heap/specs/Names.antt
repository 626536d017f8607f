-- The names of a scope, in their order.
use Rattle.std.specs.Prelude.{ℕ, List, [], ◌∷◌, Option, Some, None, map, if◌then◌else◌}
use Rattle.js_value.specs.Same.{text_equal}
use Rattle.js_value.specs.declared.value.Value.{Value}
use Rattle.js_heap.specs.Binding.{Binding}
use Rattle.js_table.specs.declared.property.Property.{Property}

-- the value of this name
abbrev pub value_bound : List ℕ → List Binding → Option Value
value_bound x [] = None
value_bound x (b ∷ bs) = if text_equal x b.name then Some b.value else value_bound x bs

-- after a value is given to the name: in its place, or as the last name
abbrev pub with_binding : List ℕ → Value → List Binding → List Binding
with_binding x v [] = record { name = x; value = v } ∷ []
with_binding x v (b ∷ bs) =
    if text_equal x b.name then record { name = b.name; value = v } ∷ bs
    else b ∷ with_binding x v bs

abbrev pub binding_of : Property → Binding
binding_of p = record { name = p.name; value = p.value }

abbrev pub bindings : List Property → List Binding
bindings ps = map binding_of ps
