-- The names that for-in goes through (ECMA-262 edition 5.1, 12.6.4).
use Rattle.std.specs.Prelude.{ℕ, List, [], ◌∷◌, filter, map}
use Rattle.js_table.specs.Properties.{without}
use Rattle.js_table.specs.declared.property.Property.{Property}

-- the first property of each name, which hides the others of the name, listed or not
abbrev pub first_named : List Property → List Property
first_named [] = []
first_named (p ∷ ps) = p ∷ without p.name (first_named ps)

-- the names of those that are listed
abbrev pub listed_names : List Property → List (List ℕ)
listed_names ps = map (λ p. p.name) (filter (λ p. p.listed) (first_named ps))
