-- Tables of properties commute with the plain image.
use Rattle.std.proofs.Common.{◌≡◌, ℕ, pos, ◌+◌, List, [], ◌∷◌, Bool, not, codes}
use Rattle.std.proofs.Common.{Option, Some, None}
use Rattle.std.proofs.Common.{filter, map, nat_lt, unwrap_or, if◌then◌else◌, refl, ap}
use Rattle.std.proofs.Common.{◌∙◌}
use Rattle.std.specs.Option.{option_and_then, option_map, option_map_or}
use Rattle.js_value.specs.Image.{image}
use Rattle.js_value.specs.Same.{text_equal}
use Rattle.js_value.specs.declared.number.Num.TheVariants.{Whole}
use Rattle.js_value.specs.declared.value.Callee.TheVariants as callee
use Rattle.js_value.specs.declared.value.Value.{Value}
use Rattle.js_value.specs.declared.value.Value.TheVariants as value
use Rattle.js_table.specs.Indices.{index_of, is_within, without_elements}
use Rattle.js_table.specs.Listing.{first_named, listed_names}
use Rattle.js_table.specs.Properties.{property_named, value_named, with_property, with_value}
use Rattle.js_table.specs.Properties.{without}
use Rattle.js_table.specs.declared.property.Property.{Property}
use Rattle.js_heap.specs.Elements.{cut, length_in, length_of, raised, with_element, with_length}
use Rattle.js_heap.specs.Objects.{is_length}
use Rattle.js_heap.specs.Puts.{with_put}
use Rattle.js_heap.specs.declared.class.Class.{Class}
use Rattle.js_heap.specs.declared.class.Class.TheVariants as class
use Rattle.js_host.specs.Images.{plain_class, plain_property}
use Rattle.js_plain.proofs.Common.{filter-map, if-ap, map-same}

abbrev pub plain : List Property → List Property
plain ps = map plain_property ps

pub property_named-plain : (x : List ℕ) (ps : List Property)
    → property_named x (plain ps) ≡ option_map plain_property (property_named x ps)
property_named-plain x [] = refl
property_named-plain x (p ∷ ps) =
    ap (λ o. if text_equal x p.name then Some (plain_property p) else o)
    (property_named-plain x ps)
    ∙ if-ap (option_map plain_property) (text_equal x p.name) (Some p) (property_named x ps)

value-plain : (o : Option Property)
    → option_map (λ p. p.value) (option_map plain_property o)
    ≡ option_map image (option_map (λ p. p.value) o)
value-plain None = refl
value-plain (Some p) = refl

pub value_named-plain : (x : List ℕ) (ps : List Property)
    → value_named x (plain ps) ≡ option_map image (value_named x ps)
value_named-plain x ps =
    ap (option_map (λ p. p.value)) (property_named-plain x ps) ∙ value-plain
    (property_named x ps)

abbrev with : Property → Value → Property
with p v = record { name = p.name; value = v; listed = p.listed }

pub with_property-plain : (x : List ℕ) (v : Value) (b : Bool) (ps : List Property)
    → with_property x (image v) b (plain ps) ≡ plain (with_property x v b ps)
with_property-plain x v b [] = refl
with_property-plain x v b (p ∷ ps) =
    ap (λ l. if text_equal x p.name then with (plain_property p)
    (image v) ∷ plain ps else plain_property p ∷ l)
    (with_property-plain x v b ps)
    ∙ if-ap plain (text_equal x p.name) (with p v ∷ ps) (p ∷ with_property x v b ps)

pub with_value-plain : (x : List ℕ) (v : Value) (ps : List Property)
    → with_value x (image v) (plain ps) ≡ plain (with_value x v ps)
with_value-plain x v [] = refl
with_value-plain x v (p ∷ ps) =
    ap (λ l. if text_equal x p.name then with (plain_property p)
    (image v) ∷ plain ps else plain_property p ∷ l)
    (with_value-plain x v ps)
    ∙ if-ap plain (text_equal x p.name) (with p v ∷ ps) (p ∷ with_value x v ps)

pub without-plain : (x : List ℕ) (ps : List Property) → without x (plain ps) ≡ plain
    (without x ps)
without-plain x ps =
    filter-map plain_property (λ p. not (text_equal x p.name)) (λ p. not (text_equal x p.name))
    (λ p. refl) ps

pub without_elements-plain : (low high : ℕ) (ps : List Property)
    → without_elements low high (plain ps) ≡ plain (without_elements low high ps)
without_elements-plain low high ps =
    filter-map plain_property (λ p. not (is_within low high p.name)) (λ p. not
    (is_within low high p.name))
    (λ p. refl) ps

first_named-plain : (ps : List Property) → first_named (plain ps) ≡ plain (first_named ps)
first_named-plain [] = refl
first_named-plain (p ∷ ps) =
    ap (λ l. plain_property p ∷ without p.name l) (first_named-plain ps)
    ∙ ap (λ l. plain_property p ∷ l) (without-plain p.name (first_named ps))

pub listed_names-plain : (ps : List Property) → listed_names (plain ps) ≡ listed_names ps
listed_names-plain ps =
    ap (λ l. map (λ p. p.name) (filter (λ p. p.listed) l)) (first_named-plain ps)
    ∙ (ap (map (λ p. p.name)) (filter-map plain_property (λ p. p.listed) (λ p. p.listed)
    (λ p. refl)
    (first_named ps))
    ∙ map-same plain_property (λ p. p.name) (λ p. p.name) (λ p. refl) (filter (λ p. p.listed)
    (first_named ps)))

-- Lengths are numbers, which are their own images.
pub length_in-plain : (v : Value) → length_in (image v) ≡ length_in v
length_in-plain value.Undefined = refl
length_in-plain value.Null = refl
length_in-plain (value.Bool b) = refl
length_in-plain (value.Num n) = refl
length_in-plain (value.Text t) = refl
length_in-plain (value.Ref o) = refl
length_in-plain (value.Native n) = refl
length_in-plain (value.Wrap h (callee.Ref o)) = refl
length_in-plain (value.Wrap h (callee.Native n)) = refl

length_along : (o : Option Value)
    → option_and_then length_in (option_map image o) ≡ option_and_then length_in o
length_along (Some v) = length_in-plain v
length_along None = refl

pub length_of-plain : (ps : List Property) → length_of (plain ps) ≡ length_of ps
length_of-plain ps =
    ap (λ o. unwrap_or (option_and_then length_in o) 0) (value_named-plain (codes "length") ps)
    ∙ ap (λ o. unwrap_or o 0) (length_along (value_named (codes "length") ps))

pub with_length-plain : (n : ℕ) (ps : List Property)
    → with_length n (plain ps) ≡ plain (with_length n ps)
with_length-plain n ps = with_value-plain (codes "length") (value.Num (Whole (pos n))) ps

pub cut-plain : (n : ℕ) (ps : List Property) → cut n (plain ps) ≡ plain (cut n ps)
cut-plain n ps =
    ap (λ k. with_length n (without_elements n k (plain ps))) (length_of-plain ps)
    ∙ (ap (with_length n) (without_elements-plain n (length_of ps) ps)
    ∙ with_length-plain n (without_elements n (length_of ps) ps))

raised-plain : (i : Option ℕ) (ps : List Property) → raised i (plain ps) ≡ plain (raised i ps)
raised-plain None ps = refl
raised-plain (Some i) ps =
    ap (λ k. if nat_lt i k then plain ps else with_length (i + 1) (plain ps)) (length_of-plain ps)
    ∙ (ap (λ l. if nat_lt i (length_of ps) then plain ps else l) (with_length-plain (i + 1) ps)
    ∙ if-ap plain (nat_lt i (length_of ps)) ps (with_length (i + 1) ps))

cut_along : (o : Option ℕ) (ps : List Property)
    → option_map_or (λ n. cut n (plain ps)) o (plain ps)
    ≡ plain (option_map_or (λ n. cut n ps) o ps)
cut_along (Some n) ps = cut-plain n ps
cut_along None ps = refl

with_element-plain : (x : List ℕ) (v : Value) (b : Bool) (ps : List Property)
    → with_element x (image v) b (plain ps) ≡ plain (with_element x v b ps)
with_element-plain x v b ps =
    let long : Bool = text_equal x (codes "length") in
    ap (λ o. if long then option_map_or (λ n. cut n (plain ps)) o (plain ps)
    else raised (index_of x) (with_property x (image v) b (plain ps))) (length_in-plain v)
    ∙ (ap (λ l. if long then l else raised (index_of x) (with_property x (image v) b (plain ps)))
    (cut_along (length_in v) ps)
    ∙ (ap (λ l. if long then plain (option_map_or (λ n. cut n ps) (length_in v) ps) else raised
    (index_of x) l)
    (with_property-plain x v b ps)
    ∙ (ap (λ l. if long then plain (option_map_or (λ n. cut n ps) (length_in v) ps) else l)
    (raised-plain (index_of x) (with_property x v b ps))
    ∙ if-ap plain long (option_map_or (λ n. cut n ps) (length_in v) ps)
    (raised (index_of x) (with_property x v b ps)))))

pub with_put-plain : (c : Class) (x : List ℕ) (v : Value) (b : Bool) (ps : List Property)
    → with_put (plain_class c) x (image v) b (plain ps) ≡ plain (with_put c x v b ps)
with_put-plain class.Array x v b ps = with_element-plain x v b ps
with_put-plain class.Object x v b ps = with_property-plain x v b ps
with_put-plain (class.Function f) x v b ps = with_property-plain x v b ps
with_put-plain (class.Bound f) x v b ps = with_property-plain x v b ps
with_put-plain (class.Date n) x v b ps = with_property-plain x v b ps
with_put-plain class.Error x v b ps = with_property-plain x v b ps
with_put-plain class.Arguments x v b ps = with_property-plain x v b ps
with_put-plain class.Event x v b ps = with_property-plain x v b ps
with_put-plain (class.Node n) x v b ps = with_property-plain x v b ps
with_put-plain (class.Request n) x v b ps = with_property-plain x v b ps
with_put-plain (class.Builtin n) x v b ps = with_property-plain x v b ps

pub is_length-plain : (c : Class) (x : List ℕ) → is_length (plain_class c) x ≡ is_length c x
is_length-plain class.Array x = refl
is_length-plain class.Object x = refl
is_length-plain (class.Function f) x = refl
is_length-plain (class.Bound f) x = refl
is_length-plain (class.Date n) x = refl
is_length-plain class.Error x = refl
is_length-plain class.Arguments x = refl
is_length-plain class.Event x = refl
is_length-plain (class.Node n) x = refl
is_length-plain (class.Request n) x = refl
is_length-plain (class.Builtin n) x = refl
