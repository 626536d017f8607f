-- The names that for-in goes through, found property by property.
use Rattle.std.proofs.Common.{◌≡◌, ℕ, Bool, true, false, not, ◌||◌, cond, List, [], ◌∷◌, ◌++◌, map, filter, refl, sym, ap, ◌∙◌}
use Rattle.std.specs.List.{list_any}
use Rattle.js_value.specs.Same.{text_equal}
use Rattle.js_table.specs.Listing.{first_named, listed_names}
use Rattle.js_table.specs.Properties.{without}
use Rattle.js_table.specs.declared.property.Property.{Property}
use Rattle.js_table.specs.inner.Listing.{name_if_listed, names_after}
use Rattle.js_table.proofs.Places.{same_name, text_equal-sym}

abbrev unseen : List (List ℕ) → List Property → List Property
unseen seen ps = filter (λ p. not (list_any (text_equal p.name) seen)) ps

abbrev names_of : List Property → List (List ℕ)
names_of ps = map (λ p. p.name) (filter (λ p. p.listed) ps)

-- a name that was seen may be taken out before

kept_first : (t : Bool) (q : Property) (us vs : List Property) → us ≡ vs → cond t (q ∷ us) us ≡ cond t (q ∷ vs) vs
kept_first true q us vs e = ap (λ x. q ∷ x) e
kept_first false q us vs e = e

hidden_first : (b s : Bool) (seen : List (List ℕ)) (q : Property) (rs us : List Property) → list_any (text_equal q.name) seen ≡ s → (b ≡ true → s ≡ true) → unseen seen rs ≡ us
    → unseen seen (cond (not b) (q ∷ rs) rs) ≡ cond (not s) (q ∷ us) us
hidden_first true true seen q rs us f h e = e
hidden_first true false seen q rs us f h e = let never : false ≡ true = h refl in cc
hidden_first false s seen q rs us f h e = rw f (kept_first (not s) q (unseen seen rs) us e)

unseen-without : (seen : List (List ℕ)) (x : List ℕ) (qs : List Property) → list_any (text_equal x) seen ≡ true → unseen seen (without x qs) ≡ unseen seen qs
unseen-without seen x [] h = refl
unseen-without seen x (q ∷ qs) h =
    hidden_first (text_equal x q.name) (list_any (text_equal q.name) seen) seen q (without x qs) (unseen seen qs) refl
    (λ e. ap (λ y. list_any (text_equal y) seen) (sym (same_name x q.name e)) ∙ h) (unseen-without seen x qs h)

-- a name that is seen from here on

seen_too : (f : List ℕ → Bool) (seen : List (List ℕ)) (x : List ℕ) → list_any f (seen ++ x ∷ []) ≡ list_any f seen || f x
seen_too f [] x = or_false (f x)
  where
    or_false : (b : Bool) → b || false ≡ b
    or_false true = refl
    or_false false = refl
seen_too f (y ∷ ys) x = ap (λ b. f y || b) (seen_too f ys x) ∙ or_assoc (f y) (list_any f ys) (f x)
  where
    or_assoc : (a b c : Bool) → a || (b || c) ≡ (a || b) || c
    or_assoc true b c = refl
    or_assoc false b c = refl

added_first : (b s : Bool) (seen : List (List ℕ)) (q : Property) (rs us : List Property) → list_any (text_equal q.name) seen ≡ s → unseen seen rs ≡ us
    → unseen seen (cond (not b) (q ∷ rs) rs) ≡ cond (not (s || b)) (q ∷ us) us
added_first true true seen q rs us f e = e
added_first true false seen q rs us f e = e
added_first false true seen q rs us f e = rw f e
added_first false false seen q rs us f e = rw f (ap (λ x. q ∷ x) e)

unseen-added : (seen : List (List ℕ)) (x : List ℕ) (qs : List Property) → unseen seen (without x qs) ≡ unseen (seen ++ x ∷ []) qs
unseen-added seen x [] = refl
unseen-added seen x (q ∷ qs) =
    added_first (text_equal x q.name) (list_any (text_equal q.name) seen) seen q (without x qs) (unseen (seen ++ x ∷ []) qs) refl (unseen-added seen x qs)
    ∙ ap (λ b. cond (not b) (q ∷ unseen (seen ++ x ∷ []) qs) (unseen (seen ++ x ∷ []) qs))
    (ap (λ b. list_any (text_equal q.name) seen || b) (text_equal-sym x q.name) ∙ sym (seen_too (text_equal q.name) seen x))

-- the names found are those of the definition

names_first : (l : Bool) (x : List ℕ) (p : Property) (qs : List Property) → p.name ≡ x → p.listed ≡ l → cond l (x ∷ []) [] ++ names_of qs ≡ names_of (p ∷ qs)
names_first true x p qs e f = rw (f, ← e) refl
names_first false x p qs e f = rw f refl

after_first : (s : Bool) (p : Property) (seen : List (List ℕ)) (ps : List Property) → list_any (text_equal p.name) seen ≡ s
    → names_after seen ps ≡ names_of (unseen seen (first_named ps)) → names_after (seen ++ p.name ∷ []) ps ≡ names_of (unseen (seen ++ p.name ∷ []) (first_named ps))
    → cond s (names_after seen ps) (name_if_listed p ++ names_after (seen ++ p.name ∷ []) ps) ≡ names_of (cond (not s) (p ∷ unseen seen (without p.name (first_named ps))) (unseen seen (without p.name (first_named ps))))
after_first true p seen ps f e g = e ∙ ap names_of (sym (unseen-without seen p.name (first_named ps) f))
after_first false p seen ps f e g =
    ap (λ ns. name_if_listed p ++ ns) (g ∙ ap names_of (sym (unseen-added seen p.name (first_named ps))))
    ∙ names_first p.listed p.name p (unseen seen (without p.name (first_named ps))) refl refl

names_after-unseen : (seen : List (List ℕ)) (ps : List Property) → names_after seen ps ≡ names_of (unseen seen (first_named ps))
names_after-unseen seen [] = refl
names_after-unseen seen (p ∷ ps) =
    after_first (list_any (text_equal p.name) seen) p seen ps refl (names_after-unseen seen ps) (names_after-unseen (seen ++ p.name ∷ []) ps)

unseen-nil : (ps : List Property) → unseen [] ps ≡ ps
unseen-nil [] = refl
unseen-nil (p ∷ ps) = ap (λ qs. p ∷ qs) (unseen-nil ps)

pub names_after-nil : (ps : List Property) → names_after [] ps ≡ listed_names ps
names_after-nil ps = names_after-unseen [] ps ∙ ap names_of (unseen-nil (first_named ps))
