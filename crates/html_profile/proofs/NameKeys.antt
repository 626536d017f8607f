-- Sets and maps by names: what a change at one name leaves at any other.
use Rattle.std.proofs.Common.{◌≡◌, ℕ, Bool, true, false, cond, ◌||◌, List, ◌∷◌, Vec, Global, refl, sym, ap, subst, ◌∙◌, ⊎_elim}
use Rattle.std.specs.Ordering.{is_eq, nat_cmp}
use Rattle.std.specs.declared.cmp.Ordering.{Ordering}
use Rattle.std.specs.Cmp.{eq_by_cmp_equiv}
use Rattle.std.specs.Cmp.Lexicographic.{slice_cmp, bytes_decides, nat_list_cmp_total, nat_list_eq_equiv, texts_ties}
use Rattle.std.specs.List.{list_any}
use Rattle.std.specs.Str.{bytes_eq}
use Rattle.std.specs.BTreeSet as sorted
use Rattle.std.specs.Map.{IsKeyTest, AreApart}
use Rattle.std.specs.Set.{KeepsOthers as KeepsOtherKeys}
use Rattle.std.proofs.lemmas.Bool.{cases_Bool, cond-true, cond-false}

abbrev Name : Type 0
Name = Vec ℕ Global

abbrev pub name_cmp : Name → Name → Ordering
name_cmp x y = slice_cmp nat_cmp x.items y.items

apart : (bs cs ks : List ℕ) → bytes_eq bs cs ≡ false → is_eq (slice_cmp nat_cmp bs ks) ≡ true → is_eq (slice_cmp nat_cmp cs ks) ≡ false
apart bs cs ks n y =
    let same : bytes_eq bs ks ≡ true = texts_ties bs ks ∙ y in
    sym (texts_ties cs ks) ∙ nat_list_eq_equiv.symm cs ks ∙ sym (nat_list_eq_equiv.congr bs ks cs same) ∙ n

module _ {K : Type 0} (eq : K → K → Bool) (test : K → Bool) where
  other_keys : (old new : List K) → KeepsOtherKeys eq test old new → (other : K → Bool) → IsKeyTest eq other → AreApart test other → list_any other new ≡ list_any other old
  unfolding KeepsOtherKeys
  other_keys old new h = h

-- g is w at bs, and f at other bytes
by_bytes : {W : Type 0} (f g : List ℕ → W) (bs : List ℕ) (w : W) → g bs ≡ w → ((cs : List ℕ) → bytes_eq bs cs ≡ false → g cs ≡ f cs) → (cs : List ℕ) → g cs ≡ cond (bytes_eq bs cs) w (f cs)
by_bytes f g bs w here other cs =
    ⊎_elim
    (λ y. subst (λ l. g l ≡ w) ((bytes_decides bs cs).0 y) here ∙ sym (cond-true (bytes_eq bs cs) w (f cs) y))
    (λ n. other cs n ∙ sym (cond-false (bytes_eq bs cs) w (f cs) n))
    (cases_Bool (bytes_eq bs cs))

-- the set has this name
abbrev pub has_name : sorted.BTreeSet Name → List ℕ → Bool
has_name s q = sorted.contains_by (λ k. slice_cmp nat_cmp q k.items) s

set_updates : (bs : List ℕ) (s n : sorted.BTreeSet Name) (b : Bool) → sorted.UpdatesBy name_cmp (λ k. slice_cmp nat_cmp bs k.items) s n b
    → (cs : List ℕ) → has_name n cs ≡ cond (bytes_eq bs cs) b (has_name s cs)
set_updates bs s n b h = by_bytes (has_name s) (has_name n) bs b h.1 (λ cs e. other_keys _ _ _ _ h.3 _ (λ x y. (eq_by_cmp_equiv nat_list_cmp_total).congr cs x.items y.items) (λ k. apart bs cs k.items e))

or_from_cond : (a b : Bool) → cond a true b ≡ (a || b)
or_from_cond true b = refl
or_from_cond false b = refl

-- a set with one more name
pub one_more : (name : List ℕ) (key : Name) (s n : sorted.BTreeSet Name) → key.items ≡ name → sorted.UpdatesBy name_cmp (λ k. slice_cmp nat_cmp key.items k.items) s n true
    → (names : List (List ℕ)) → ((q : List ℕ) → has_name s q ≡ list_any (bytes_eq q) names) → (q : List ℕ) → has_name n q ≡ list_any (bytes_eq q) (name ∷ names)
one_more name key s n is h names had q =
    set_updates key.items s n true h q ∙ ap (λ k. cond (bytes_eq k q) true (has_name s q)) is ∙ ap (λ b. cond (bytes_eq name q) true b) (had q)
    ∙ or_from_cond (bytes_eq name q) (list_any (bytes_eq q) names) ∙ ap (λ b. b || list_any (bytes_eq q) names) (nat_list_eq_equiv.symm name q)

less : (b l : Bool) → (b ≡ true → l ≡ false) → cond b false (b || l) ≡ l
less true l f = sym (f refl)
less false l f = refl

-- a set with one less, a name that stood among them once
pub one_less : (name : List ℕ) (s n : sorted.BTreeSet Name) → sorted.UpdatesBy name_cmp (λ k. slice_cmp nat_cmp name k.items) s n false
    → (names : List (List ℕ)) → ((q : List ℕ) → has_name s q ≡ list_any (bytes_eq q) (name ∷ names)) → list_any (bytes_eq name) names ≡ false → (q : List ℕ) → has_name n q ≡ list_any (bytes_eq q) names
one_less name s n h names had once q =
    set_updates name s n false h q ∙ ap (cond (bytes_eq name q) false) (had q) ∙ ap (λ b. cond (bytes_eq name q) false (b || list_any (bytes_eq q) names)) (nat_list_eq_equiv.symm q name)
    ∙ less (bytes_eq name q) (list_any (bytes_eq q) names) (λ y. subst (λ k. list_any (bytes_eq k) names ≡ false) ((bytes_decides name q).0 y) once)
