-- How a table keeps its properties: in slots, in their order, with gaps where some were removed,
-- and, where they are many, with their places by name.
use Rattle.std.specs.Prelude.{◌≡◌, ℕ, zero, suc, Bool, true, false, not, List, [], ◌∷◌, Option, Some, None, slice_get, if◌then◌else◌}
use Rattle.std.specs.HashMap.{get}
use Rattle.js_value.specs.Same.{text_equal}
use Rattle.js_table.specs.Indices.{is_within}
use Rattle.js_table.specs.Properties.{property_named}
use Rattle.js_table.specs.declared.index.Index.{Index}
use Rattle.js_table.specs.declared.property.Property.{Property}
use Rattle.std.specs.declared.boxed.Box.{Box}

abbrev pub is_named : List ℕ → Option Property → Bool
is_named x None = false
is_named x (Some p) = text_equal x p.name

-- the properties without the gaps
abbrev pub present : List (Option Property) → List Property
present [] = []
present (None ∷ ss) = present ss
present (Some p ∷ ss) = p ∷ present ss

abbrev pub later : Option ℕ → Option ℕ
later None = None
later (Some n) = Some (suc n)

-- the place of the property of this name
abbrev pub place_of : List ℕ → List (Option Property) → Option ℕ
place_of x [] = None
place_of x (s ∷ ss) = if is_named x s then Some zero else later (place_of x ss)

-- the place of the name among the slots, or in the one behind them
abbrev pub or_at : Option ℕ → Bool → ℕ → Option ℕ
or_at (Some n) b k = Some n
or_at None b k = if b then Some k else None

-- no name stands twice
abbrev pub AreDistinct : List (Option Property) → Type 0
AreDistinct [] = Unit {0}
AreDistinct (None ∷ ss) = AreDistinct ss
AreDistinct (Some p ∷ ss) = (place_of p.name ss ≡ None) × AreDistinct ss

-- the index, where there is one, has the place of each name
abbrev pub IsIndexOf : {A : Type 0} → Option (Box Index A) → List (Option Property) → Type 0
IsIndexOf None ss = Unit {0}
IsIndexOf (Some b) ss = (x : List ℕ) → get text_equal b.value.places x ≡ place_of x ss

-- a place that is known, or the old one
abbrev pub or_old : Option ℕ → Option ℕ → Option ℕ
or_old (Some n) old = Some n
or_old None old = old

-- the property of this name stands at this place
pub record Stands (x : List ℕ) (ss : List (Option Property)) (i : ℕ) : Type 0 where
  pub property : Property
  pub at : slice_get ss i ≡ Some (Some property)
  pub named : text_equal x property.name ≡ true
  pub found : property_named x (present ss) ≡ Some property

-- the slot has a property that is no element from `low` on, below `high`
abbrev pub is_kept : ℕ → ℕ → Option Property → Bool
is_kept low high None = false
is_kept low high (Some p) = not (is_within low high p.name)
