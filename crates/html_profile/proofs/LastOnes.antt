-- The names of the open elements, as elements are opened and closed.
use Rattle.std.proofs.Common.{◌≡◌, ℕ, Bool, true, false, not, ◌||◌, List, [], ◌∷◌, ◌++◌, reverse, None, drop, get_or, refl, sym, ap, subst, ◌∙◌}
use Rattle.std.proofs.lemmas.List.{reverse-append}
use Rattle.std.proofs.lemmas.Bool.{cond-false, not-false, true≢false}
use Rattle.std.specs.List.{list_any}
use Rattle.std.specs.Str.{bytes_eq}
use Rattle.std.specs.Cmp.Lexicographic.{bytes_decides, nat_list_eq_equiv}
use Rattle.html_profile.specs.Tree.{closed}
use Rattle.html_profile.specs.Standing.{last_ones, HasStanding, names_of}
use Rattle.html_profile.specs.declared.tree.Open.{Open}
use Rattle.html_profile.specs.declared.standing.Standing.{Standing}

-- the last of a list stands first in its reverse
pub reverse_last : {X : Type 0} (xs ys : List X) (x : X) → ys ≡ xs ++ x ∷ [] → reverse ys ≡ x ∷ reverse xs
reverse_last xs ys x is = ap reverse is ∙ reverse-append xs (x ∷ [])

module _ (name : List ℕ) (names : List (List ℕ)) (fewer more : List Bool) (alone : Bool) (is : more ≡ fewer ++ alone ∷ []) where
  pub pushed : alone ≡ not (list_any (bytes_eq name) names) → reverse fewer ≡ last_ones names → reverse more ≡ last_ones (name ∷ names)
  pushed new had = reverse_last fewer more alone is ∙ ap (λ b. b ∷ reverse fewer) new ∙ ap (λ l. not (list_any (bytes_eq name) names) ∷ l) had

  pub popped : reverse more ≡ last_ones (name ∷ names) → (alone ≡ not (list_any (bytes_eq name) names)) × (reverse fewer ≡ last_ones names)
  popped had =
      let both : alone ∷ reverse fewer ≡ not (list_any (bytes_eq name) names) ∷ last_ones names = sym (reverse_last fewer more alone is) ∙ had in
      (ap (λ l. get_or l 0 true) both, ap (drop 1) both)

or_again : (b l : Bool) → (b ≡ true → l ≡ true) → (b || l) ≡ l
or_again true l f = sym (f refl)
or_again false l f = refl

-- a name that stands again behind adds none
pub stands_again : (name : List ℕ) (names : List (List ℕ)) (alone : Bool) → alone ≡ not (list_any (bytes_eq name) names) → alone ≡ false → (q : List ℕ) → list_any (bytes_eq q) (name ∷ names) ≡ list_any (bytes_eq q) names
stands_again name names alone is other q =
    let again : list_any (bytes_eq name) names ≡ true = not-false _ (sym is ∙ other) in
    or_again (bytes_eq q name) _ (λ y. subst (λ k. list_any (bytes_eq k) names ≡ true) (sym ((bytes_decides q name).0 y)) again)

left_false : (a b : Bool) → (a || b) ≡ false → a ≡ false
left_false true b is = is
left_false false b is = refl

right_false : (a b : Bool) → (a || b) ≡ false → b ≡ false
right_false true b is = absurd (true≢false is)
right_false false b is = is

-- where no open element has the name, none is closed
pub none_closed : (name : List ℕ) (open_ones : List Open) → list_any (bytes_eq name) (names_of open_ones) ≡ false → closed name open_ones ≡ None
none_closed name [] is = refl
none_closed name (o ∷ more) is =
    cond-false _ _ _ (nat_list_eq_equiv.symm o.name name ∙ left_false (bytes_eq name o.name) _ is) ∙ none_closed name more (right_false (bytes_eq name o.name) _ is)

pub still_known : (s t : Standing) (names same : List (List ℕ)) → t ≡ s → same ≡ names → HasStanding s names → HasStanding t same
still_known s t names same is are had = subst (λ l. HasStanding t l) (sym are) (subst (λ r. HasStanding r names) (sym is) had)

-- an element that is opened, where its name was added
pub known_more : (s : Standing) (before after : List Open) (o : Open) (name : List ℕ) → after ≡ before ++ o ∷ [] → name ≡ o.name → HasStanding s (name ∷ names_of (reverse before)) → HasStanding s (names_of (reverse after))
known_more s before after o name is named had =
    still_known s s (name ∷ names_of (reverse before)) (names_of (reverse after)) refl (ap names_of (reverse_last before after o is) ∙ ap (λ n. n ∷ names_of (reverse before)) (sym named)) had
