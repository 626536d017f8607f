-- Array indices, and what stays where elements are taken out.
use Rattle.std.proofs.Common.{◌≡◌, ℕ, ◌+◌, ◌<◌, ◌≤◌, Bool, true, false, not, ◌&&◌, ◌||◌, cond, List, [], ◌∷◌, filter, Option, Some, None, is_some, MatchOption, IfSome, decimal, refl, sym, ap, ◌∙◌, arith, nat_lt, nat_le}
use Rattle.std.proofs.lemmas.Bool.Decides.{nat_tests}
use Rattle.std.proofs.lemmas.Fmt.{decimal_is_IsNumeral}
use Rattle.std.specs.Option.{option_map_or}
use Rattle.std.specs.Map.{lookup}
use Rattle.std.specs.Str.Parse.{digits_value}
use borrow.Author.Tests.{ltb-true}
use Rattle.mug_text.specs.Number.{IsIndex, NoIndex}
use Rattle.js_value.specs.Same.{text_equal}
use Rattle.js_value.specs.declared.value.Value.{Value}
use Rattle.js_table.specs.Indices.{index_of, is_within, without_elements}
use Rattle.js_table.specs.Properties.{property_named, with_property, with_value, without}
use Rattle.js_table.specs.declared.property.Property.{Property}
use Rattle.js_table.specs.inner.Slots.{AreDistinct, is_kept, is_named, place_of, present}
use Rattle.js_table.proofs.Places.{is_some-place_of, none_later, same_name, text_equal-refl}

-- Array indices.

both : (b c : Bool) → b && c ≡ true → (b ≡ true) × (c ≡ true)
both true true e = (refl, refl)
both true false e = cc
both false c e = cc

chosen : (b : Bool) (n : ℕ) → b ≡ true → cond b (Some n) None ≡ Some n
chosen b n e = rw e refl

refused : (b : Bool) (n : ℕ) → (b ≡ true → ⊥) → cond b (Some n) None ≡ None
refused true n h = absurd (h refl)
refused false n h = refl

less : (n : ℕ) → n < 0xFFFF_FFFF → nat_lt n 0xFFFF_FFFF ≡ true
less n h = grind (arith, nat_tests)

value_is : (x : List ℕ) (n : ℕ) → IsIndex x n → digits_value 10 x ≡ n
value_is x n is = ap (digits_value 10) is.1 ∙ (decimal_is_IsNumeral n (omega (arith, is.0))).1

spelled : (x : List ℕ) (n v : ℕ) → IsIndex x n → v ≡ n → nat_lt v 0xFFFF_FFFF && text_equal x (decimal v) ≡ true
spelled x n v is e = rw (e, less n is.0, ← is.1) (text_equal-refl x)

pub index_found : (x : List ℕ) (n : ℕ) → IsIndex x n → index_of x ≡ Some n
index_found x n is =
    let e = value_is x n is in
    chosen (nat_lt (digits_value 10 x) 0xFFFF_FFFF && text_equal x (decimal (digits_value 10 x))) (digits_value 10 x) (spelled x n (digits_value 10 x) is e) ∙ ap Some e

unspelled : (x : List ℕ) (v : ℕ) → NoIndex x → nat_lt v 0xFFFF_FFFF && text_equal x (decimal v) ≡ true → ⊥
unspelled x v none e = let parts = both (nat_lt v 0xFFFF_FFFF) (text_equal x (decimal v)) e in none v (ltb-true v 0xFFFF_FFFF parts.0) (same_name x (decimal v) parts.1)

pub index_missing : (x : List ℕ) → NoIndex x → index_of x ≡ None
index_missing x none = refused (nat_lt (digits_value 10 x) 0xFFFF_FFFF && text_equal x (decimal (digits_value 10 x))) (digits_value 10 x) (unspelled x (digits_value 10 x) none)

pub index_given : (x : List ℕ) (o : Option ℕ) → MatchOption o (NoIndex x) (λ n. IsIndex x n) → o ≡ index_of x
index_given x None h = sym (index_missing x h)
index_given x (Some n) h = sym (index_found x n h)

pub index_small : (x : List ℕ) (o : Option ℕ) → MatchOption o (NoIndex x) (λ n. IsIndex x n) → IfSome o (λ n. n < 0xFFFF_FFFF)
index_small x None h = tt
index_small x (Some n) h = h.0

-- Elements that are taken out.

none_first : (b : Bool) (t : Option Property) (x : List ℕ) (ss : List (Option Property)) → is_named x t ≡ false → place_of x ss ≡ None → place_of x (cond b (t ∷ ss) ss) ≡ None
none_first true t x ss n e = rw (n, e) refl
none_first false t x ss n e = e

none-kept : (low high : ℕ) (x : List ℕ) (ss : List (Option Property)) → place_of x ss ≡ None → place_of x (filter (is_kept low high) ss) ≡ None
none-kept low high x [] e = refl
none-kept low high x (t ∷ ss) e =
    let parts = none_later (is_named x t) (place_of x ss) e in
    none_first (is_kept low high t) t x (filter (is_kept low high) ss) parts.0 (none-kept low high x ss parts.1)

distinct_first : (b : Bool) (p : Property) (ss : List (Option Property)) → place_of p.name ss ≡ None → AreDistinct ss → AreDistinct (cond b (Some p ∷ ss) ss)
distinct_first true p ss n d = (n, d)
distinct_first false p ss n d = d

pub distinct-kept : (low high : ℕ) (ss : List (Option Property)) → AreDistinct ss → AreDistinct (filter (is_kept low high) ss)
distinct-kept low high [] d = tt
distinct-kept low high (None ∷ ss) d = distinct-kept low high ss d
distinct-kept low high (Some p ∷ ss) d = distinct_first (not (is_within low high p.name)) p (filter (is_kept low high) ss) (none-kept low high p.name ss d.0) (distinct-kept low high ss d.1)

present_first : (b : Bool) (p : Property) (ss : List (Option Property)) (ps : List Property) → present ss ≡ ps → present (cond b (Some p ∷ ss) ss) ≡ cond b (p ∷ ps) ps
present_first true p ss ps e = ap (λ qs. p ∷ qs) e
present_first false p ss ps e = e

pub present-kept : (low high : ℕ) (ss : List (Option Property)) → present (filter (is_kept low high) ss) ≡ without_elements low high (present ss)
present-kept low high [] = refl
present-kept low high (None ∷ ss) = present-kept low high ss
present-kept low high (Some p ∷ ss) = present_first (not (is_within low high p.name)) p (filter (is_kept low high) ss) (without_elements low high (present ss)) (present-kept low high ss)

-- a name is found among what is kept exactly where it was found before and is no such element
gone : (b : Bool) (o : Option ℕ) → b ≡ true → is_some (cond b None o) ≡ false
gone b o e = rw e refl

named_first : (within named : Bool) (p : Property) (ps : List Property) (x : List ℕ) (w : Bool) (o : Option Property) → text_equal x p.name ≡ named → (named ≡ true → w ≡ within)
    → is_some (property_named x ps) ≡ cond w false (is_some o) → is_some (property_named x (cond (not within) (p ∷ ps) ps)) ≡ cond w false (is_some (cond named (Some p) o))
named_first true true p ps x w o e same h = h ∙ rw (same refl) refl
named_first true false p ps x w o e same h = h
named_first false true p ps x w o e same h = rw (e, same refl) refl
named_first false false p ps x w o e same h = rw e h

pub named-kept : (low high : ℕ) (x : List ℕ) (ps : List Property) → is_some (property_named x (without_elements low high ps)) ≡ cond (is_within low high x) false (is_some (property_named x ps))
named-kept low high x [] = elim (is_within low high x) as (λ b. false ≡ cond b false false) [ true ↦ refl | false ↦ refl ]
named-kept low high x (p ∷ ps) = named_first (is_within low high p.name) (text_equal x p.name) p (without_elements low high ps) x (is_within low high x) (property_named x ps) refl (λ e. ap (is_within low high) (same_name x p.name e)) (named-kept low high x ps)

some_unless : (b : Bool) (o : Option ℕ) → is_some (cond b None o) ≡ cond b false (is_some o)
some_unless true o = refl
some_unless false o = refl

-- the names that are known after places are kept are those of the slots that are kept
pub known-kept : (low high : ℕ) (x : List ℕ) (ss : List (Option Property)) (g : Option ℕ) → g ≡ cond (is_within low high x) None (place_of x ss) → is_some g ≡ is_some (place_of x (filter (is_kept low high) ss))
known-kept low high x ss g e =
    ap is_some e ∙ some_unless (is_within low high x) (place_of x ss) ∙ ap (λ b. cond (is_within low high x) false b) (is_some-place_of x ss)
    ∙ sym (is_some-place_of x (filter (is_kept low high) ss) ∙ ap (λ ps. is_some (property_named x ps)) (present-kept low high ss) ∙ named-kept low high x (present ss))

abbrev unplaced : Option ℕ
unplaced = None

no_entry : (b : Bool) → cond b unplaced unplaced ≡ unplaced
no_entry true = refl
no_entry false = refl

-- what a map of places gives after it keeps some
kept_entry : (within named : Bool) (e : List ℕ × ℕ) (es : List (List ℕ × ℕ)) (x : List ℕ) (w : Bool) (o : Option ℕ) → text_equal x e.0 ≡ named → (named ≡ true → w ≡ within)
    → lookup (text_equal x) es ≡ cond w None o → lookup (text_equal x) (cond (not within) (e ∷ es) es) ≡ cond w None (cond named (Some e.1) o)
kept_entry true true e es x w o h same r = r ∙ rw (same refl) refl
kept_entry true false e es x w o h same r = r
kept_entry false true e es x w o h same r = rw (h, same refl) refl
kept_entry false false e es x w o h same r = rw h r

pub lookup-kept : (low high : ℕ) (x : List ℕ) (es : List (List ℕ × ℕ)) → lookup (text_equal x) (filter (λ e. not (is_within low high e.0)) es) ≡ cond (is_within low high x) None (lookup (text_equal x) es)
lookup-kept low high x [] = sym (no_entry (is_within low high x))
lookup-kept low high x (e ∷ es) = kept_entry (is_within low high e.0) (text_equal x e.0) e (filter (λ f. not (is_within low high f.0)) es) x (is_within low high x) (lookup (text_equal x) es) refl (λ h. ap (is_within low high) (same_name x e.0 h)) (lookup-kept low high x es)

-- nothing is between a number and one that isn't above it
never : (low high i : ℕ) → high ≤ low → nat_le low i && nat_lt i high ≡ false
never low high i h = grind (arith, nat_tests)

never_within : (low high : ℕ) (o : Option ℕ) → high ≤ low → option_map_or (λ i. nat_le low i && nat_lt i high) o false ≡ false
never_within low high None h = refl
never_within low high (Some i) h = never low high i h

keep_all : (b : Bool) (p : Property) (qs ps : List Property) → b ≡ false → qs ≡ ps → cond (not b) (p ∷ qs) qs ≡ p ∷ ps
keep_all b p qs ps e f = rw e (ap (λ rs. p ∷ rs) f)

pub without_elements-none : (low high : ℕ) (ps : List Property) → high ≤ low → without_elements low high ps ≡ ps
without_elements-none low high [] h = refl
without_elements-none low high (p ∷ ps) h = keep_all (is_within low high p.name) p (without_elements low high ps) ps (never_within low high (index_of p.name) h) (without_elements-none low high ps h)

-- Another value.

changed_first : (b : Bool) (p q : Property) (qs rs ps : List Property) (o : Option Property) → is_some (cond b (Some p) o) ≡ true → (is_some o ≡ true → qs ≡ rs) → cond b (q ∷ ps) (p ∷ qs) ≡ cond b (q ∷ ps) (p ∷ rs)
changed_first true p q qs rs ps o e h = refl
changed_first false p q qs rs ps o e h = ap (λ x. p ∷ x) (h e)

pub with_property-there : (x : List ℕ) (v : Value) (listed : Bool) (ps : List Property) → is_some (property_named x ps) ≡ true → with_property x v listed ps ≡ with_value x v ps
with_property-there x v listed [] e = cc
with_property-there x v listed (p ∷ ps) e = changed_first (text_equal x p.name) p (record { name = p.name; value = v; listed = p.listed }) (with_property x v listed ps) (with_value x v ps) ps (property_named x ps) e (with_property-there x v listed ps)

unchanged_first : (b : Bool) (p q : Property) (qs rs : List Property) (o : Option Property) → is_some (cond b (Some p) o) ≡ false → (is_some o ≡ false → qs ≡ rs) → cond b (q ∷ rs) (p ∷ qs) ≡ p ∷ rs
unchanged_first true p q qs rs o e h = cc
unchanged_first false p q qs rs o e h = ap (λ x. p ∷ x) (h e)

pub with_value-none : (x : List ℕ) (v : Value) (ps : List Property) → is_some (property_named x ps) ≡ false → with_value x v ps ≡ ps
with_value-none x v [] e = refl
with_value-none x v (p ∷ ps) e = unchanged_first (text_equal x p.name) p (record { name = p.name; value = v; listed = p.listed }) (with_value x v ps) ps (property_named x ps) e (with_value-none x v ps)

pub changed : (x : List ℕ) (v : Value) (old new : List Property) (b : Bool) → b ≡ is_some (property_named x old) → ((listed : Bool) → b ≡ true → new ≡ with_property x v listed old) → (b ≡ false → new ≡ old) → new ≡ with_value x v old
changed x v old new true e r u = r false refl ∙ with_property-there x v false old (sym e)
changed x v old new false e r u = u refl ∙ sym (with_value-none x v old (sym e))

-- Elements that are removed one by one.

index_name : (x : List ℕ) (v j : ℕ) → cond (nat_lt v 0xFFFF_FFFF && text_equal x (decimal v)) (Some v) unplaced ≡ Some j → x ≡ decimal j
index_name x v j e = named_index (nat_lt v 0xFFFF_FFFF && text_equal x (decimal v)) refl e
  where
    named_index : (b : Bool) → nat_lt v 0xFFFF_FFFF && text_equal x (decimal v) ≡ b → cond b (Some v) unplaced ≡ Some j → x ≡ decimal j
    named_index true f g = let same : v ≡ j = cc in same_name x (decimal v) (both (nat_lt v 0xFFFF_FFFF) (text_equal x (decimal v)) f).1 ∙ ap decimal same
    named_index false f g = cc

pub index_of-decimal : (i : ℕ) → i < 0xFFFF_FFFF → index_of (decimal i) ≡ Some i
index_of-decimal i h = index_found (decimal i) i (h, refl)

one_more : (low i j : ℕ) (b : Bool) → low ≤ i → (b ≡ true → j ≡ i) → (j ≡ i → b ≡ true) → nat_le low j && nat_lt j (i + 1) ≡ (nat_le low j && nat_lt j i) || b
one_more low i j true h f g = let same : j ≡ i = f refl in grind (arith, nat_tests)
one_more low i j false h f g =
    let other : j ≡ i → ⊥ = λ e. (let never : false ≡ true = g e in cc) in
    grind (arith, nat_tests)

within_more : (low i : ℕ) (x : List ℕ) (o : Option ℕ) (b : Bool) → low ≤ i → i < 0xFFFF_FFFF → index_of x ≡ o → text_equal (decimal i) x ≡ b
    → option_map_or (λ j. nat_le low j && nat_lt j (i + 1)) o false ≡ option_map_or (λ j. nat_le low j && nat_lt j i) o false || b
within_more low i x None true h k e f =
    let there : index_of x ≡ Some i = ap index_of (sym (same_name (decimal i) x f)) ∙ index_of-decimal i k in
    cc
within_more low i x None false h k e f = refl
within_more low i x (Some j) b h k e f =
    one_more low i j b h
    (λ t. (let there : index_of x ≡ Some i = ap index_of (sym (same_name (decimal i) x (f ∙ t))) ∙ index_of-decimal i k in cc))
    (λ t. sym f ∙ ap (text_equal (decimal i)) (index_name x (digits_value 10 x) j e ∙ ap decimal t) ∙ text_equal-refl (decimal i))

removed_first : (e w w' : Bool) (x : List ℕ) (p : Property) (qs rs : List Property) → text_equal x p.name ≡ e → w' ≡ w || e → without x qs ≡ rs → without x (cond (not w) (p ∷ qs) qs) ≡ cond (not w') (p ∷ rs) rs
removed_first e true w' x p qs rs f g h = rw g h
removed_first true false w' x p qs rs f g h = rw (g, f) h
removed_first false false w' x p qs rs f g h = rw (g, f) (ap (λ ps. p ∷ ps) h)

-- after one more element is removed
pub without_elements-more : (low i : ℕ) (ps : List Property) → low ≤ i → i < 0xFFFF_FFFF → without (decimal i) (without_elements low i ps) ≡ without_elements low (i + 1) ps
without_elements-more low i [] h k = refl
without_elements-more low i (p ∷ ps) h k =
    removed_first (text_equal (decimal i) p.name) (is_within low i p.name) (is_within low (i + 1) p.name) (decimal i) p (without_elements low i ps) (without_elements low (i + 1) ps) refl
    (within_more low i p.name (index_of p.name) (text_equal (decimal i) p.name) h k refl refl) (without_elements-more low i ps h k)
