-- Reading the plain image of a world gives the images of what is read.
use Rattle.std.proofs.Common.{◌≡◌, ℕ, zero, suc, List, [], ◌∷◌, ◌++◌, Bool, true, false, Option, Some, None, cond, codes, map, slice_get, refl, ap, sym, ◌∙◌}
use Rattle.std.specs.Option.{option_map, option_map_or}
use Rattle.std.proofs.lemmas.Option.{slice_get-map}
use Rattle.js_value.specs.Image.{image}
use Rattle.js_value.specs.Same.{text_equal}
use Rattle.js_value.specs.declared.value.ObjId.{ObjId}
use Rattle.js_value.specs.declared.value.Value.{Value}
use Rattle.js_value.specs.declared.value.Value.TheVariants as value
use Rattle.js_value.proofs.Images.{image-image}
use Rattle.js_ops.specs.Convert.{as_text, image_as_text}
use Rattle.js_heap.specs.Chains.{chain, chain_to, first_some, link, or_else}
use Rattle.js_heap.specs.Objects.{get, get_own, properties_in, prototype_number, value_along}
use Rattle.js_heap.specs.World.{World}
use Rattle.js_heap.specs.declared.object.Object.{Object}
use Rattle.js_table.specs.Properties.{property_named, value_named}
use Rattle.js_table.specs.declared.property.Property.{Property}
use Rattle.js_host.specs.Images.{plain_object, plain_property, plain_world}

named-if : (b : Bool) (p : Property) (o : Option Property)
    → cond b (Some (plain_property p)) (option_map plain_property o) ≡ option_map plain_property (cond b (Some p) o)
named-if true p o = refl
named-if false p o = refl

property_named-plain : (x : List ℕ) (ps : List Property) → property_named x (map plain_property ps) ≡ option_map plain_property (property_named x ps)
property_named-plain x [] = refl
property_named-plain x (p ∷ ps) =
    ap (λ o. cond (text_equal x p.name) (Some (plain_property p)) o) (property_named-plain x ps) ∙ named-if (text_equal x p.name) p (property_named x ps)

value-plain : (o : Option Property) → option_map (λ p. p.value) (option_map plain_property o) ≡ option_map image (option_map (λ p. p.value) o)
value-plain None = refl
value-plain (Some p) = refl

value_named-plain : (x : List ℕ) (ps : List Property) → value_named x (map plain_property ps) ≡ option_map image (value_named x ps)
value_named-plain x ps = ap (option_map (λ p. p.value)) (property_named-plain x ps) ∙ value-plain (property_named x ps)

properties-plain : (o : Option Object) → option_map_or (λ o. o.properties) (option_map plain_object o) [] ≡ map plain_property (option_map_or (λ o. o.properties) o [])
properties-plain None = refl
properties-plain (Some o) = refl

properties_in-plain : (os : List Object) (n : ℕ) → properties_in (map plain_object os) n ≡ map plain_property (properties_in os n)
properties_in-plain os n = ap (λ o. option_map_or (λ o. o.properties) o []) (slice_get-map plain_object os n) ∙ properties-plain (slice_get os n)

own-plain : (os : List Object) (x : List ℕ) (n : ℕ) → value_named x (properties_in (map plain_object os) n) ≡ option_map image (value_named x (properties_in os n))
own-plain os x n = ap (value_named x) (properties_in-plain os n) ∙ value_named-plain x (properties_in os n)

pub get_own-plain : (w : World) (o : ObjId) (x : List ℕ) → get_own (plain_world w) o x ≡ option_map image (get_own w o x)
get_own-plain w o x = own-plain w.objects x o.number

-- Chains of prototypes are the same.

link-plain : (n : ℕ) (f g : Option ℕ → List ℕ) → ((p : Option ℕ) → f p ≡ g p) → (o : Option Object)
    → link prototype_number n f (option_map plain_object o) ≡ link prototype_number n g o
link-plain n f g e None = refl
link-plain n f g e (Some o) = ap (λ ns. n ∷ ns) (e (prototype_number o))

chain_to-plain : (k : ℕ) (os : List Object) (p : Option ℕ) → chain_to prototype_number k (map plain_object os) p ≡ chain_to prototype_number k os p
chain_to-plain zero os p = refl
chain_to-plain (suc k) os None = refl
chain_to-plain (suc k) os (Some n) =
    ap (link prototype_number n (chain_to prototype_number k (map plain_object os))) (slice_get-map plain_object os n)
    ∙ link-plain n (chain_to prototype_number k (map plain_object os)) (chain_to prototype_number k os) (chain_to-plain k os) (slice_get os n)

chain-plain : (os : List Object) (p : Option ℕ) → chain prototype_number (map plain_object os) p ≡ chain prototype_number os p
chain-plain os None = refl
chain-plain os (Some n) = chain_to-plain (suc n) os (Some n)

else-plain : (a b : Option Value) → or_else (option_map image a) (option_map image b) ≡ option_map image (or_else a b)
else-plain None b = refl
else-plain (Some v) b = refl

first-plain : (f g : ℕ → Option Value) → ((n : ℕ) → f n ≡ option_map image (g n)) → (ns : List ℕ) → first_some f ns ≡ option_map image (first_some g ns)
first-plain f g e [] = refl
first-plain f g e (n ∷ ns) = ap (λ a. or_else a (first_some f ns)) (e n) ∙ (ap (or_else (option_map image (g n))) (first-plain f g e ns) ∙ else-plain (g n) (first_some g ns))

pub get-plain : (w : World) (o : ObjId) (x : List ℕ) → get (plain_world w) o x ≡ option_map image (get w o x)
get-plain w o x =
    ap (first_some (λ n. value_named x (properties_in (map plain_object w.objects) n))) (chain-plain w.objects (Some o.number))
    ∙ first-plain (λ n. value_named x (properties_in (map plain_object w.objects) n)) (λ n. value_named x (properties_in w.objects n)) (own-plain w.objects x) (chain prototype_number w.objects (Some o.number))
