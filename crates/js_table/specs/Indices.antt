-- The names that are array indices (ECMA-262 edition 5.1, 15.4).
use Rattle.std.specs.Prelude.{ℕ, Bool, false, not, ◌&&◌, nat_lt, nat_le, List, Option, Some, None, filter, decimal, if◌then◌else◌}
use Rattle.std.specs.Option.{option_map_or}
use Rattle.std.specs.Str.Parse.{digits_value}
use Rattle.mug_text.specs.declared.limits.TheConstants.{INDEX_END}
use Rattle.js_value.specs.Same.{text_equal}
use Rattle.js_table.specs.declared.property.Property.{Property}

-- the array index whose decimal spelling the name is
abbrev pub index_of : List ℕ → Option ℕ
index_of x =
    if nat_lt (digits_value 10 x) INDEX_END && text_equal x (decimal (digits_value 10 x))
    then Some (digits_value 10 x) else None

-- the name is an index from `low` on, below `high`
abbrev pub is_within : ℕ → ℕ → List ℕ → Bool
is_within low high x = option_map_or (λ i. nat_le low i && nat_lt i high) (index_of x) false

-- without the elements from `low` on, below `high`
abbrev pub without_elements : ℕ → ℕ → List Property → List Property
without_elements low high ps = filter (λ p. not (is_within low high p.name)) ps
