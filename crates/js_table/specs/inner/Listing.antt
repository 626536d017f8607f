-- How the names that for-in goes through are found: property by property, with the names that were
-- seen.
use Rattle.std.specs.Prelude.{◌≡◌, ℕ, List, [], ◌∷◌, ◌++◌, if◌then◌else◌}
use Rattle.std.specs.List.{list_any}
use Rattle.js_value.specs.Same.{text_equal}
use Rattle.js_table.specs.declared.property.Property.{Property}

abbrev pub name_if_listed : Property → List (List ℕ)
name_if_listed p = if p.listed then p.name ∷ [] else []

-- the names that the properties add, after these were seen
abbrev pub names_after : List (List ℕ) → List Property → List (List ℕ)
names_after seen [] = []
names_after seen (p ∷ ps) =
    if list_any (text_equal p.name) seen then names_after seen ps
    else name_if_listed p ++ names_after (seen ++ p.name ∷ []) ps

-- from here on the remaining properties lead to the same names
abbrev pub ListsMore : List (List ℕ) → List (List ℕ) → List Property
    → List (List ℕ) → List (List ℕ) → List Property → Type 0
ListsMore seen names ps seen' names' rest =
    names' ++ names_after seen' rest ≡ names ++ names_after seen ps
