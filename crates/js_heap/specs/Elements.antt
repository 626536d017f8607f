-- The elements of an array and its `length` (ECMA-262 edition 5.1, 15.4).
use Rattle.std.specs.Prelude.{ℕ, ◌+◌, Bool, nat_lt, nat_le, List, Option, Some, None, codes, pos, unwrap_or, if◌then◌else◌}
use Rattle.std.specs.Option.{option_and_then, option_map_or}
use Rattle.mug_text.specs.declared.limits.TheConstants.{INDEX_END}
use Rattle.js_value.specs.Same.{text_equal}
use Rattle.js_value.specs.declared.number.Num.TheVariants.{Whole}
use Rattle.js_value.specs.declared.value.Value.{Value}
use Rattle.js_value.specs.declared.value.Value.TheVariants as value
pub use Rattle.js_table.specs.Indices.{index_of, without_elements}
use Rattle.js_table.specs.Properties.{value_named, with_property, with_value}
use Rattle.js_table.specs.declared.property.Property.{Property}

-- the length that a value is: a whole number from 0 to 2^32 - 1
abbrev pub length_in : Value → Option ℕ
length_in (value.Num (Whole (pos n))) = if nat_le n INDEX_END then Some n else None
length_in v = None

-- an array's length
abbrev pub length_of : List Property → ℕ
length_of ps = unwrap_or (option_and_then length_in (value_named (codes "length") ps)) 0

abbrev pub with_length : ℕ → List Property → List Property
with_length n ps = with_value (codes "length") (value.Num (Whole (pos n))) ps

-- after `length` is given: a lower one takes the elements from it on away (15.4.5.1, step 3)
abbrev pub cut : ℕ → List Property → List Property
cut n ps = with_length n (without_elements n (length_of ps) ps)

-- an index at or above `length` raises it (15.4.5.1, step 4)
abbrev pub raised : Option ℕ → List Property → List Property
raised None ps = ps
raised (Some i) ps = if nat_lt i (length_of ps) then ps else with_length (i + 1) ps

-- after a name of an array is given a value
abbrev pub with_element : List ℕ → Value → Bool → List Property → List Property
with_element x v listed ps =
    if text_equal x (codes "length") then option_map_or (λ n. cut n ps) (length_in v) ps
    else raised (index_of x) (with_property x v listed ps)
