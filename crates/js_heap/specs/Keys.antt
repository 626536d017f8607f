-- The names that for-in goes through (ECMA-262 edition 5.1, 12.6.4).
use Rattle.std.specs.Prelude.{ℕ, List, Option, Some}
use Rattle.std.specs.List.{flat_map}
use Rattle.js_value.specs.declared.value.ObjId.{ObjId}
use Rattle.js_table.specs.Listing.{listed_names}
use Rattle.js_heap.specs.Chains.{chain}
use Rattle.js_heap.specs.Objects.{properties_in, prototype_number}
use Rattle.js_heap.specs.World.{Object, Property, World}

-- the properties of the object, then those of its prototype, and so on
abbrev pub properties_along : List Object → Option ℕ → List Property
properties_along os p = flat_map (λ n. properties_in os n) (chain prototype_number os p)

-- the first property of each name hides the others of the name; the names of those that are listed,
-- in their order
abbrev pub keys : World → ObjId → List (List ℕ)
keys w o = listed_names (properties_along w.objects (Some o.number))
