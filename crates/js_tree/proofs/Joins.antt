-- Names that are joined, and the set of them.
use Rattle.std.proofs.Common.{◌≡◌, ℕ, Bool, true, false, cond, ◌||◌, if◌then◌else◌, List, [], ◌∷◌, ◌++◌, refl, sym, ap, subst, ◌∙◌}
use Rattle.std.specs.Ordering.{is_eq, nat_cmp}
use Rattle.std.specs.Cmp.Lexicographic.{slice_cmp, bytes_decides, nat_list_eq_equiv, texts_ties}
use Rattle.std.specs.Str.{bytes_eq}
use Rattle.std.specs.BTreeSet.{BTreeSet, contains}
use Rattle.js_tree.specs.Names.{is_among, joined}
use Rattle.js_tree.specs.Seen.{HasNames}

swapped : (a b c : Bool) → (a || (b || c)) ≡ (b || (a || c))
swapped true true c = refl
swapped true false c = refl
swapped false b c = refl

any_pushed : (name : List ℕ) (names : List (List ℕ)) (one : List ℕ) → is_among name (names ++ one ∷ []) ≡ (bytes_eq name one || is_among name names)
any_pushed name [] one = refl
any_pushed name (n ∷ names) one = ap (λ b. bytes_eq name n || b) (any_pushed name names one) ∙ swapped (bytes_eq name n) (bytes_eq name one) (is_among name names)

or_from_cond : (a b : Bool) → cond a true b ≡ (a || b)
or_from_cond true b = refl
or_from_cond false b = refl

or_there : (a b : Bool) → (a ≡ true → b ≡ true) → (a || b) ≡ b
or_there true b f = sym (f refl)
or_there false b f = refl

-- a name that is joined is among the names
among_joined : (name : List ℕ) (names : List (List ℕ)) (t : List ℕ) (b : Bool) → is_among name names ≡ b
    → (bytes_eq t name || is_among t names) ≡ is_among t (if b then names else names ++ name ∷ [])
among_joined name names t true e = or_there (bytes_eq t name) (is_among t names) (λ y. subst (λ k. is_among k names ≡ true) (sym ((bytes_decides t name).0 y)) e)
among_joined name names t false e = sym (any_pushed t names name)

-- a set with one more name has the names that are joined with it
pub seen_joined : (name : List ℕ) (old new : BTreeSet (List ℕ))
    → ((q : List ℕ) → contains (slice_cmp nat_cmp) new q ≡ cond (is_eq (slice_cmp nat_cmp name q)) true (contains (slice_cmp nat_cmp) old q))
    → (names : List (List ℕ)) → HasNames old names → HasNames new (joined names (name ∷ []))
seen_joined name old new h names had t =
    h t ∙ ap (λ b. cond b true (contains (slice_cmp nat_cmp) old t)) (sym (texts_ties name t)) ∙ ap (λ b. cond (bytes_eq name t) true b) (had t)
    ∙ or_from_cond (bytes_eq name t) (is_among t names) ∙ ap (λ b. b || is_among t names) (nat_list_eq_equiv.symm name t)
    ∙ among_joined name names t (is_among name names) refl
