-- What objects and scopes give along their chains.
use Rattle.std.proofs.Common.{◌≡◌, ℕ, ◌<◌, Bool, true, false, List, [], ◌∷◌, ◌++◌, Option, Some, None, get_or, length, slice_get, refl, sym, ap, ◌∙◌}
use Rattle.std.proofs.lemmas.Option.{slice_get_read}
use Rattle.std.specs.List.{flat_map}
use Rattle.std.specs.Option.{option_map_or}
use Rattle.js_table.specs.Listing.{listed_names}
use Rattle.js_table.specs.inner.Listing.{ListsMore, names_after}
use Rattle.js_table.proofs.ListingLemmas.{names_after-nil}
use Rattle.js_heap.specs.Chains.{LeadsBack}
use Rattle.js_heap.specs.Keys.{properties_along}
use Rattle.js_heap.proofs.ChainSteps.{chain-step}
use Rattle.js_value.specs.declared.value.Value.{Value}
use Rattle.js_heap.specs.Names.{value_bound}
use Rattle.js_heap.specs.Objects.{properties_in, prototype_number}
use Rattle.js_table.specs.Properties.{value_named}
use Rattle.js_heap.specs.Scopes.{names_in, number_if}
use Rattle.js_heap.specs.World.{Object, Property, Scope}

pub object_value : (x : List ℕ) (os : List Object) (n : ℕ) (o : Object) (v : Option Value) → n < length os → o ≡ get_or os n o → v ≡ value_named x o.properties → value_named x (properties_in os n) ≡ v
object_value x os n o v h e g = ap (λ q. value_named x (option_map_or (λ p. p.properties) q [])) (slice_get_read os (length os) n o refl h e) ∙ sym g

pub scope_value : (x : List ℕ) (ss : List Scope) (n : ℕ) (s : Scope) (v : Option Value) → n < length ss → s ≡ get_or ss n s → v ≡ value_bound x s.names → value_bound x (names_in ss n) ≡ v
scope_value x ss n s v h e g = ap (λ q. value_bound x (option_map_or (λ p. p.names) q [])) (slice_get_read ss (length ss) n s refl h e) ∙ sym g

pub unnumbered : (b : Bool) (n : ℕ) → b ≡ false → number_if b n ≡ None
unnumbered true n e = cc
unnumbered false n e = refl

-- Names along the prototypes.

along_step : (os : List Object) → LeadsBack prototype_number os → (n : ℕ) (o : Object) (p : Option ℕ) → n < length os → o ≡ get_or os n o → prototype_number o ≡ p
    → properties_along os (Some n) ≡ o.properties ++ properties_along os p
along_step os back n o p h e leads =
    let read : slice_get os n ≡ Some o = slice_get_read os (length os) n o refl h e in
    ap (flat_map (λ k. properties_in os k)) (chain-step prototype_number os back n o read)
    ∙ ap (λ q. option_map_or (λ r. r.properties) q [] ++ properties_along os (prototype_number o)) read
    ∙ ap (λ q. o.properties ++ properties_along os q) leads

-- after the names of an object of the chain are listed
pub names_more : (os : List Object) → LeadsBack prototype_number os → (n : ℕ) (o : Object) (p : Option ℕ) (first : List Property) (seen names seen' names' : List (List ℕ)) → n < length os → o ≡ get_or os n o → prototype_number o ≡ p
    → ((rest : List Property) → ListsMore seen names (o.properties ++ rest) seen' names' rest) → ListsMore [] [] first seen names (properties_along os (Some n)) → ListsMore [] [] first seen' names' (properties_along os p)
names_more os back n o p first seen names seen' names' h e leads more same =
    more (properties_along os p) ∙ ap (λ ps. names ++ names_after seen ps) (sym (along_step os back n o p h e leads)) ∙ same

no_more : (ns : List (List ℕ)) → ns ≡ ns ++ []
no_more [] = refl
no_more (n ∷ ns) = ap (λ x. n ∷ x) (no_more ns)

-- after those of the last
pub names_whole : (os : List Object) → LeadsBack prototype_number os → (n : ℕ) (o : Object) (first : List Property) (seen names seen' names' : List (List ℕ)) → n < length os → o ≡ get_or os n o → prototype_number o ≡ None
    → ((rest : List Property) → ListsMore seen names (o.properties ++ rest) seen' names' rest) → ListsMore [] [] first seen names (properties_along os (Some n)) → names' ≡ listed_names first
names_whole os back n o first seen names seen' names' h e leads more same =
    no_more names' ∙ names_more os back n o None first seen names seen' names' h e leads more same ∙ names_after-nil first
