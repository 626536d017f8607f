-- The properties of an object, in their order. Names are compared unit by unit.
use Rattle.std.specs.Prelude.{ℕ, Bool, not, List, [], ◌∷◌, Option, Some, None, filter, if◌then◌else◌}
use Rattle.std.specs.Option.{option_map}
use Rattle.js_value.specs.Same.{text_equal}
use Rattle.js_value.specs.declared.value.Value.{Value}
use Rattle.js_table.specs.declared.property.Property.{Property}

-- the property of this name
abbrev pub property_named : List ℕ → List Property → Option Property
property_named x [] = None
property_named x (p ∷ ps) = if text_equal x p.name then Some p else property_named x ps

abbrev pub value_named : List ℕ → List Property → Option Value
value_named x ps = option_map (λ p. p.value) (property_named x ps)

-- after a value is given to the name: in its place and as listed as before, or as the last property
abbrev pub with_property : List ℕ → Value → Bool → List Property → List Property
with_property x v listed [] = record { name = x; value = v; listed = listed } ∷ []
with_property x v listed (p ∷ ps) =
    if text_equal x p.name then record { name = p.name; value = v; listed = p.listed } ∷ ps
    else p ∷ with_property x v listed ps

-- after the property of this name, if there is one, is given another value
abbrev pub with_value : List ℕ → Value → List Property → List Property
with_value x v [] = []
with_value x v (p ∷ ps) =
    if text_equal x p.name then record { name = p.name; value = v; listed = p.listed } ∷ ps
    else p ∷ with_value x v ps

-- without the property of this name
abbrev pub without : List ℕ → List Property → List Property
without x ps = filter (λ p. not (text_equal x p.name)) ps
