-- Ways up from a node, and that they end.
use Rattle.std.proofs.Common.{◌≡◌, ◌≢◌, ℕ, zero, suc, ◌<◌, ◌≤◌, ◌==◌, ◌||◌, Bool, true, false, List, [], ◌∷◌, length, Option, Some, None, refl, sym, ap, subst, ◌∙◌, arith, eqb, ⊎_elim}
use Rattle.std.proofs.lemmas.Bool.{cases_Bool, cases_eq, eqb-true, eqb-false, false≢true}
use Rattle.std.proofs.lemmas.Map.Steps.{length-le_from_distinct_below}
use Rattle.std.proofs.lemmas.Map.Keys.{IsDistinct-cons}
use Rattle.std.specs.List.{list_any, IsDistinct, AllByRecursion}
use Rattle.dom_tree.specs.Nodes.{way_up, Ends}

pub or_left : (a b : Bool) → (a || b) ≡ false → a ≡ false
or_left true b is = is
or_left false b is = refl

pub or_right : (a b : Bool) → (a || b) ≡ false → b ≡ false
or_right true b is = absurd (false≢true (sym is))
or_right false b is = is

or_cases : (a b : Bool) {P : Type 0} → (a || b) ≡ true → (a ≡ true → P) → (b ≡ true → P) → P
or_cases true b is left right = left refl
or_cases false b is left right = right is

module _ (above : ℕ → Option ℕ) where
  pub Ends_none : (k : ℕ) → Ends above k None
  Ends_none zero = tt
  Ends_none (suc k) = tt

  -- a way that ends within fewer nodes is the same within more
  pub Ends_more : (k m : ℕ) (x : Option ℕ) → k ≤ m → Ends above k x → Ends above m x
  Ends_more k m None within ends = Ends_none m
  Ends_more zero m (Some x) within ends = absurd ends
  Ends_more (suc k) zero (Some x) within ends = absurd (omega arith)
  Ends_more (suc k) (suc m) (Some x) within ends = Ends_more k m (above x) (omega arith) ends

  way_none : (k : ℕ) → way_up above k None ≡ []
  way_none zero = refl
  way_none (suc k) = refl

  pub way_same : (k m : ℕ) (x : Option ℕ) → Ends above k x → Ends above m x → way_up above k x ≡ way_up above m x
  way_same k m None ends too = way_none k ∙ sym (way_none m)
  way_same zero m (Some x) ends too = absurd ends
  way_same (suc k) zero (Some x) ends too = absurd too
  way_same (suc k) (suc m) (Some x) ends too = ap (λ l. x ∷ l) (way_same k m (above x) ends too)

  -- one step up, within so many nodes
  pub way_step : (n x : ℕ) → Ends above n (Some x) → way_up above n (Some x) ≡ x ∷ way_up above n (above x)
  way_step zero x ends = absurd ends
  way_step (suc n) x ends = ap (λ l. x ∷ l) (way_same n (suc n) (above x) ends (Ends_more n (suc n) (above x) (omega arith) ends))

  pub Ends_step : (n x : ℕ) → Ends above n (Some x) → Ends above n (above x)
  Ends_step zero x ends = absurd ends
  Ends_step (suc n) x ends = Ends_more n (suc n) (above x) (omega arith) ends

  -- a way ends within as many nodes as it has
  Ends_length : (k : ℕ) (x : Option ℕ) → Ends above k x → Ends above (length (way_up above k x)) x
  Ends_length k None ends = Ends_none (length (way_up above k None))
  Ends_length zero (Some x) ends = absurd ends
  Ends_length (suc k) (Some x) ends = Ends_length k (above x) ends

  -- the way from a node on a way is no longer
  shorter : (k : ℕ) (z : Option ℕ) (y : ℕ) → Ends above k z → list_any (eqb y) (way_up above k z) ≡ true
      → (m : ℕ) × Ends above m (Some y) × (length (way_up above m (Some y)) ≤ length (way_up above k z))
  shorter k None y ends on = absurd (false≢true (sym (ap (list_any (eqb y)) (way_none k)) ∙ on))
  shorter zero (Some w) y ends on = absurd ends
  shorter (suc k) (Some w) y ends on =
      let whole : Ends above (suc k) (Some w) = ends in
      or_cases (eqb y w) (list_any (eqb y) (way_up above k (above w))) on
      (λ same.
      let is = eqb-true y w same in
      (suc k, subst (λ v. Ends above (suc k) (Some v)) (sym is) whole, subst (λ v. length (way_up above (suc k) (Some v)) ≤ length (way_up above (suc k) (Some w))) (sym is) (omega arith)))
      (λ later.
      let found = shorter k (above w) y ends later in
      let less : length (way_up above found.0 (Some y)) ≤ length (way_up above k (above w)) = found.2 in
      (found.0, found.1, omega arith))

  -- no node is on the way from its parent
  not_again : (k x : ℕ) → Ends above k (above x) → list_any (eqb x) (way_up above k (above x)) ≡ false
  not_again k x ends =
      ⊎_elim
      (λ on.
      let found = shorter k (above x) x ends on in
      let whole : Ends above (suc k) (Some x) = ends in
      let same : length (way_up above found.0 (Some x)) ≡ suc (length (way_up above k (above x))) = ap length (way_same found.0 (suc k) (Some x) found.1 whole) in
      let less : length (way_up above found.0 (Some x)) ≤ length (way_up above k (above x)) = found.2 in
      absurd (omega arith))
      (λ none. none)
      (cases_Bool (list_any (eqb x) (way_up above k (above x))))

  all_from_none : (x : ℕ) (ys : List ℕ) → list_any (eqb x) ys ≡ false → AllByRecursion (λ y. eqb x y ≡ false) ys
  all_from_none x [] none = tt
  all_from_none x (y ∷ ys) none = (or_left (eqb x y) (list_any (eqb x) ys) none, all_from_none x ys (or_right (eqb x y) (list_any (eqb x) ys) none))

  distinct_none : IsDistinct eqb []
  unfolding IsDistinct
  distinct_none = tt

  distinct : (k : ℕ) (x : Option ℕ) → Ends above k x → IsDistinct eqb (way_up above k x)
  distinct k None ends = subst (IsDistinct eqb) (sym (way_none k)) distinct_none
  distinct zero (Some x) ends = absurd ends
  distinct (suc k) (Some x) ends = IsDistinct-cons eqb x (way_up above k (above x)) (all_from_none x (way_up above k (above x)) (not_again k x ends)) (distinct k (above x) ends)

  module _ (n : ℕ) (there : (x p : ℕ) → above x ≡ Some p → p < n) where
    below_from : (k q : ℕ) (x : Option ℕ) → ((p : ℕ) → x ≡ Some p → p < n) → list_any (eqb q) (way_up above k x) ≡ true → q < n
    below_from k q None inside on = absurd (false≢true (sym (ap (list_any (eqb q)) (way_none k)) ∙ on))
    below_from zero q (Some x) inside on = absurd (false≢true on)
    below_from (suc k) q (Some x) inside on =
        or_cases (eqb q x) (list_any (eqb q) (way_up above k (above x))) on
        (λ same. subst (λ v. v < n) (sym (eqb-true q x same)) (inside x refl))
        (λ later. below_from k q (above x) (λ p is. there x p is) later)

    -- a way is no longer than there are nodes
    pub Ends_within : (k x : ℕ) → x < n → Ends above k (Some x) → Ends above n (Some x)
    Ends_within k x inside ends =
        let inside_too : (p : ℕ) → Some x ≡ Some p → p < n = λ p is. let e : x ≡ p = cc in subst (λ v. v < n) e inside in
        let few = length-le_from_distinct_below (way_up above k (Some x)) n (distinct k (Some x) ends) (λ q on. below_from k q (Some x) inside_too on) in
        Ends_more (length (way_up above k (Some x))) n (Some x) few (Ends_length k (Some x) ends)

-- one node has another parent
module _ (old new : ℕ → Option ℕ) (child : ℕ) (same : (x : ℕ) → x ≢ child → new x ≡ old x) where
  -- a way that the child isn't on stays
  pub stays : (k : ℕ) (x : Option ℕ) → Ends old k x → list_any (λ y. y == child) (way_up old k x) ≡ false → Ends new k x
  stays k None ends off = Ends_none new k
  stays zero (Some x) ends off = absurd ends
  stays (suc k) (Some x) ends off =
      let apart : x ≢ child = eqb-false x child (or_left (x == child) (list_any (λ y. y == child) (way_up old k (old x))) off) in
      subst (Ends new k) (sym (same x apart)) (stays k (old x) ends (or_right (x == child) (list_any (λ y. y == child) (way_up old k (old x))) off))

  -- every way ends where that of the new parent does
  pub joins : (m : ℕ) → Ends new m (new child) → (k : ℕ) (x : Option ℕ) → Ends old k x → (j : ℕ) × Ends new j x
  joins m top k None ends = (0, tt)
  joins m top zero (Some x) ends = absurd ends
  joins m top (suc k) (Some x) ends =
      ⊎_elim
      (λ is. (suc m, subst (λ v. Ends new m (new v)) (sym is) top))
      (λ apart.
      let found = joins m top k (old x) ends in
      (suc found.0, subst (Ends new found.0) (sym (same x apart)) found.1))
      (cases_eq x child)
