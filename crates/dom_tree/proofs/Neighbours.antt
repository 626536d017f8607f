-- The nodes beside, above and below a node.
use Rattle.std.proofs.Common.{◌≡◌, ◌≢◌, ℕ, zero, suc, ◌+◌, ◌-◌, ◌<◌, ◌≤◌, ◌==◌, ◌||◌, Bool, true, false, cond, List, [], ◌∷◌, ◌++◌, length, get_or, fold, Option, Some, None, is_some, IfSome, refl, sym, ap, subst, ◌∙◌, arith, eq-eqb, ⊎_elim, zero-add}
use Rattle.std.specs.Prelude.{codes}
use Rattle.std.proofs.lemmas.Bool.{cases_Bool, cases_eq, cases_lt, cond-true, cond-false, cond_both, eqb-true, false≢true}
use Rattle.std.proofs.lemmas.Option.{slice_get-get_or, slice_get_past, slice_get_within, get_or_from_slice_get}
use Rattle.std.specs.List.{slice_get, flat_map, list_any}
use Rattle.dom_tree.specs.Nodes.{parent_in, parent_of, children_of, is_one, is_child, times, way_up, ancestors, is_in_document, IsInDocument, Fits}
use Rattle.dom_tree.specs.Order.{tree, in_order, first_that, has_id, has_id_in, child_at, node_by_id, node_by_path, first_child, last_child, next_in, previous_in, children_under, next_sibling, previous_sibling, or_else, next_above, next_within}
use Rattle.dom_tree.specs.Node.{DomNode}
use Rattle.dom_tree.proofs.Ways.{way_step}
use Rattle.dom_tree.proofs.Kids.{stands, unequal, times_yes}
use Rattle.dom_tree.proofs.Sides.{next_at, first_stands}
use Rattle.dom_tree.proofs.Kept.{parent_of_child}
use Rattle.dom_tree.proofs.Walks.{way_none, parent_is, once_is, child_of, inside_from, depth, depth_step, depth_top, remaining, start, down, up, over, hit_first, miss_first}

none_some : {P : Type 0} (x : ℕ) → None ≡ Some x → P
none_some x is = absurd cc

some_same : (x y : ℕ) → Some x ≡ Some y → x ≡ y
some_same x y is = cc

-- ---- siblings

next_member : (x : ℕ) (xs : List ℕ) (y : ℕ) → next_in x xs ≡ Some y → 1 ≤ times y xs
next_member x [] y is = none_some y is
next_member x (z ∷ zs) y is =
    ⊎_elim
    (λ hit. let some = first_stands zs y (sym (cond-true (z == x) (slice_get zs 0) (next_in x zs) hit) ∙ is) in let e : times y (z ∷ zs) ≡ cond (z == y) 1 0 + times y zs = refl in omega arith)
    (λ miss. let some = next_member x zs y (sym (cond-false (z == x) (slice_get zs 0) (next_in x zs) miss) ∙ is) in let e : times y (z ∷ zs) ≡ cond (z == y) 1 0 + times y zs = refl in omega arith)
    (cases_Bool (z == x))

previous_member : (x : ℕ) (xs : List ℕ) (y : ℕ) → previous_in x xs ≡ Some y → 1 ≤ times y xs
previous_member x [] y is = none_some y is
previous_member x (z ∷ zs) y is =
    ⊎_elim
    (λ hit. let same : z ≡ y = some_same z y (sym (cond-true (is_one x (slice_get zs 0)) (Some z) (previous_in x zs) hit) ∙ is) in let e = times_yes y z zs (eq-eqb z y same) in omega arith)
    (λ miss.
    let some = previous_member x zs y (sym (cond-false (is_one x (slice_get zs 0)) (Some z) (previous_in x zs) miss) ∙ is) in let e : times y (z ∷ zs) ≡ cond (z == y) 1 0 + times y zs = refl in omega arith)
    (cases_Bool (is_one x (slice_get zs 0)))

module _ (nodes : List DomNode) (fits : Fits nodes) where
  next_under : (x y : ℕ) (o : Option ℕ) → next_in x (children_under nodes o) ≡ Some y → parent_of nodes y ≡ o
  next_under x y None is = none_some y is
  next_under x y (Some p) is = parent_of_child nodes fits p y (next_member x (children_of nodes p) y is)

  previous_under : (x y : ℕ) (o : Option ℕ) → previous_in x (children_under nodes o) ≡ Some y → parent_of nodes y ≡ o
  previous_under x y None is = none_some y is
  previous_under x y (Some p) is = parent_of_child nodes fits p y (previous_member x (children_of nodes p) y is)

  next_there_under : (x y : ℕ) (o : Option ℕ) → next_in x (children_under nodes o) ≡ Some y → y < length nodes
  next_there_under x y None is = none_some y is
  next_there_under x y (Some p) is = inside_from nodes y p (next_under x y (Some p) is)

  previous_there_under : (x y : ℕ) (o : Option ℕ) → previous_in x (children_under nodes o) ≡ Some y → y < length nodes
  previous_there_under x y None is = none_some y is
  previous_there_under x y (Some p) is = inside_from nodes y p (previous_under x y (Some p) is)

  -- a sibling that was found is there and has the same parent
  pub next_beside : (x : ℕ) (r : Option ℕ) → r ≡ next_sibling nodes x → IfSome r (λ y. (y < length nodes) × (parent_of nodes y ≡ parent_of nodes x))
  next_beside x None is = tt
  next_beside x (Some y) is = (next_there_under x y (parent_of nodes x) (sym is), next_under x y (parent_of nodes x) (sym is))

  pub previous_beside : (x : ℕ) (r : Option ℕ) → r ≡ previous_sibling nodes x → IfSome r (λ y. (y < length nodes) × (parent_of nodes y ≡ parent_of nodes x))
  previous_beside x None is = tt
  previous_beside x (Some y) is = (previous_there_under x y (parent_of nodes x) (sym is), previous_under x y (parent_of nodes x) (sym is))

  first_stands_in : (p c : ℕ) → first_child nodes p ≡ Some c → 1 ≤ times c (children_of nodes p)
  first_stands_in p c is = first_stands (children_of nodes p) c is

  pub first_there : (p : ℕ) (r : Option ℕ) → r ≡ first_child nodes p → IfSome r (λ c. c < length nodes)
  first_there p None is = tt
  first_there p (Some c) is = inside_from nodes c p (parent_of_child nodes fits p c (first_stands_in p c (sym is)))

  -- what a parent's children are from here on
  pub next_child : (p k c : ℕ) (r : Option ℕ) → slice_get (children_of nodes p) k ≡ Some c → r ≡ next_sibling nodes c → r ≡ slice_get (children_of nodes p) (k + 1)
  next_child p k c r here is =
      let within = slice_get_within (children_of nodes p) k c here in
      let at = get_or_from_slice_get (children_of nodes p) k c 0 here in
      let above = parent_is nodes fits p c k within at in
      is ∙ ap (λ o. next_in c (children_under nodes o)) above ∙ next_at c (children_of nodes p) k (once_is nodes fits p c above) within at

pub none_behind : (xs : List ℕ) (k n : ℕ) → slice_get xs k ≡ None → k ≤ n → slice_get xs n ≡ None
none_behind xs k n none within =
    ⊎_elim
    (λ inside. none_some (get_or xs k 0) (sym none ∙ slice_get-get_or xs k 0 inside))
    (λ past. slice_get_past xs n (omega arith))
    (cases_lt k (length xs))

-- ---- what follows in tree order

pub other_some : (o other : Option ℕ) → is_some o ≡ true → o ≡ or_else o other
other_some None other is = absurd (false≢true is)
other_some (Some x) other is = refl

pub other_none : (o other : Option ℕ) → is_some o ≡ false → or_else o other ≡ other
other_none None other is = refl
other_none (Some x) other is = absurd (false≢true (sym is))

module _ (nodes : List DomNode) (fits : Fits nodes) (root : ℕ) where
  -- what follows behind all that is below a node
  abbrev pub behind_all : ℕ → Option ℕ
  behind_all x = next_above nodes root (x ∷ ancestors nodes x)

  pub stops : (x : ℕ) → x ≡ root → behind_all x ≡ None
  stops x is = cond-true (x == root) None _ (eq-eqb x root is)

  goes_up : (x : ℕ) → x ≢ root → behind_all x ≡ or_else (next_sibling nodes x) (next_above nodes root (ancestors nodes x))
  goes_up x apart = cond-false (x == root) None _ (unequal x root apart)

  pub sibling_found : (x : ℕ) (r : Option ℕ) → x ≢ root → r ≡ next_sibling nodes x → is_some r ≡ true → r ≡ behind_all x
  sibling_found x r apart r_is some = r_is ∙ other_some (next_sibling nodes x) (next_above nodes root (ancestors nodes x)) (ap is_some (sym r_is) ∙ some) ∙ sym (goes_up x apart)

  above_only : (x : ℕ) (r : Option ℕ) → x ≢ root → r ≡ next_sibling nodes x → is_some r ≡ false → behind_all x ≡ next_above nodes root (ancestors nodes x)
  above_only x r apart r_is none = goes_up x apart ∙ other_none (next_sibling nodes x) _ (ap is_some (sym r_is) ∙ none)

  pub climbs : (x p : ℕ) (r : Option ℕ) → x ≢ root → r ≡ next_sibling nodes x → is_some r ≡ false → parent_of nodes x ≡ Some p → behind_all x ≡ behind_all p
  climbs x p r apart r_is none above =
      above_only x r apart r_is none
      ∙ ap (λ o. next_above nodes root (way_up (parent_of nodes) (length nodes) o)) above ∙ ap (next_above nodes root) (way_step (parent_of nodes) (length nodes) p (fits.ends p))

  pub top_reached : (x : ℕ) (r : Option ℕ) → x ≢ root → r ≡ next_sibling nodes x → is_some r ≡ false → parent_of nodes x ≡ None → behind_all x ≡ None
  top_reached x r apart r_is none above =
      above_only x r apart r_is none
      ∙ ap (λ o. next_above nodes root (way_up (parent_of nodes) (length nodes) o)) above ∙ ap (next_above nodes root) (way_none (parent_of nodes) (length nodes))

-- what next_within gives is there
module _ (nodes : List DomNode) (fits : Fits nodes) (root : ℕ) where
  or_there : (o other : Option ℕ) → IfSome o (λ y. y < length nodes) → IfSome other (λ y. y < length nodes) → IfSome (or_else o other) (λ y. y < length nodes)
  or_there None other one two = two
  or_there (Some y) other one two = one

  sibling_there : (x : ℕ) (o : Option ℕ) → o ≡ next_sibling nodes x → IfSome o (λ y. y < length nodes)
  sibling_there x None is = tt
  sibling_there x (Some y) is = (next_beside nodes fits x (Some y) is).0

  above_there : (xs : List ℕ) → IfSome (next_above nodes root xs) (λ y. y < length nodes)
  above_there [] = tt
  above_there (x ∷ xs) =
      cond_both (x == root) None (or_else (next_sibling nodes x) (next_above nodes root xs)) (λ o. IfSome o (λ y. y < length nodes)) (λ _. tt)
      (λ _. or_there (next_sibling nodes x) (next_above nodes root xs) (sibling_there x (next_sibling nodes x) refl) (above_there xs))

  pub within_there : (x : ℕ) (r : Option ℕ) → r ≡ next_within nodes root x → IfSome r (λ y. y < length nodes)
  within_there x r is =
      subst (λ o. IfSome o (λ y. y < length nodes)) (sym is)
      (or_there (first_child nodes x) (next_above nodes root (x ∷ ancestors nodes x)) (first_there nodes fits x (first_child nodes x) refl) (above_there (x ∷ ancestors nodes x)))

-- ---- the walk from the document on

-- the document from a node on, which is left where it is the one found next
abbrev pub walk_from : List DomNode → Option ℕ → List ℕ
walk_from nodes None = []
walk_from nodes (Some y) = y ∷ remaining nodes y 0

place_in : (c : ℕ) (xs : List ℕ) → 1 ≤ times c xs → (j : ℕ) × (j < length xs) × (get_or xs j 0 ≡ c)
place_in c [] some = absurd (omega arith)
place_in c (x ∷ xs) some =
    ⊎_elim
    (λ hit. (0, omega arith, eqb-true x c hit))
    (λ miss. let more = place_in c xs (subst (λ n. 1 ≤ n) (ap (λ b. cond b 1 0 + times c xs) miss ∙ zero-add (times c xs)) some) in let less : more.0 < length xs = more.1 in (suc more.0, omega arith, more.2))
    (cases_Bool (x == c))

module _ (nodes : List DomNode) (fits : Fits nodes) where
  abbrev rest : ℕ → List ℕ
  rest x = remaining nodes x (length (children_of nodes x))

  rest_end : (j : ℕ) (p : ℕ) → j < length (children_of nodes p) → slice_get (children_of nodes p) (j + 1) ≡ None → remaining nodes p (j + 1) ≡ rest p
  rest_end j p inside none =
      ⊎_elim
      (λ more. none_some (get_or (children_of nodes p) (j + 1) 0) (sym none ∙ slice_get-get_or (children_of nodes p) (j + 1) 0 more))
      (λ past. let e : j + 1 ≡ length (children_of nodes p) = omega arith in ap (remaining nodes p) e)
      (cases_lt (j + 1) (length (children_of nodes p)))

  not_top : (x p : ℕ) → parent_of nodes x ≡ Some p → x ≢ 0
  not_top x p above is = none_some p (sym fits.top ∙ ap (parent_of nodes) (sym is) ∙ above)

  onward : (x p : ℕ) → parent_of nodes x ≡ Some p → (j : ℕ) → j < length (children_of nodes p) → (r : Option ℕ) → slice_get (children_of nodes p) (j + 1) ≡ r
      → next_sibling nodes x ≡ slice_get (children_of nodes p) (j + 1) → rest p ≡ walk_from nodes (behind_all nodes fits 0 p) → remaining nodes p (j + 1) ≡ walk_from nodes (behind_all nodes fits 0 x)
  onward x p above j inside None none next again =
      rest_end j p inside none ∙ again ∙ ap (walk_from nodes) (sym (climbs nodes fits 0 x p None (not_top x p above) (sym (next ∙ none)) refl above))
  onward x p above j inside (Some s) some next again =
      down nodes fits p (j + 1) s (slice_get_within (children_of nodes p) (j + 1) s some) (get_or_from_slice_get (children_of nodes p) (j + 1) s 0 some)
      ∙ ap (walk_from nodes) (sibling_found nodes fits 0 x (Some s) (not_top x p above) (sym (next ∙ some)) refl)

  -- what follows behind all below a node is the rest of the document
  after_from : (d x : ℕ) (o : Option ℕ) → depth nodes x ≡ d → parent_of nodes x ≡ o → rest x ≡ walk_from nodes (behind_all nodes fits 0 x)
  after_from d x None deep above =
      over nodes fits x (length (children_of nodes x)) (omega arith) above
      ∙ ⊎_elim
      (λ is. ap (walk_from nodes) (sym (stops nodes fits 0 x is)))
      (λ apart. ap (walk_from nodes) (sym (top_reached nodes fits 0 x None apart (ap (λ o. next_in x (children_under nodes o)) (sym above)) refl above)))
      (cases_eq x 0)
  after_from zero x (Some p) deep above = let deeper = depth_step nodes fits x p above in absurd (omega arith)
  after_from (suc d) x (Some p) deep above =
      let once = once_is nodes fits p x above in
      let place = place_in x (children_of nodes p) (omega arith) in
      let deeper = depth_step nodes fits x p above in
      let next : next_sibling nodes x ≡ slice_get (children_of nodes p) (place.0 + 1) = ap (λ o. next_in x (children_under nodes o)) above ∙ next_at x (children_of nodes p) place.0 once place.1 place.2 in
      up nodes fits x p (length (children_of nodes x)) place.0 (omega arith) above place.1 place.2
      ∙ onward x p above place.0 place.1 (slice_get (children_of nodes p) (place.0 + 1)) refl next (after_from d p (parent_of nodes p) (omega arith) refl)

  below_first : (x : ℕ) (cs : List ℕ) → children_of nodes x ≡ cs → remaining nodes x 0 ≡ walk_from nodes (or_else (slice_get cs 0) (behind_all nodes fits 0 x))
  below_first x [] is = ap (λ l. remaining nodes x (length l)) (sym is) ∙ after_from (depth nodes x) x (parent_of nodes x) refl refl
  below_first x (c ∷ cs) is = down nodes fits x 0 c (subst (λ l. 0 < length l) (sym is) (omega arith)) (ap (λ l. get_or l 0 0) is)

  pub walk_on : (x : ℕ) → remaining nodes x 0 ≡ walk_from nodes (next_within nodes 0 x)
  walk_on x = below_first x (children_of nodes x) refl

  module _ (test : ℕ → Bool) (x : ℕ) (r : Option ℕ) (is : r ≡ next_within nodes 0 x) where
    onward_is : remaining nodes x 0 ≡ walk_from nodes r
    onward_is = walk_on x ∙ ap (walk_from nodes) (sym is)

    pub walk_ended : r ≡ None → first_that test (remaining nodes x 0) ≡ None
    walk_ended none = ap (first_that test) (onward_is ∙ ap (walk_from nodes) none)

    module _ (y : ℕ) (some : r ≡ Some y) where
      next_is : remaining nodes x 0 ≡ y ∷ remaining nodes y 0
      next_is = onward_is ∙ ap (walk_from nodes) some

      pub walk_hit : test y ≡ true → first_that test (remaining nodes x 0) ≡ Some y
      walk_hit passes = ap (first_that test) next_is ∙ hit_first test y (remaining nodes y 0) passes

      pub walk_missed : test y ≡ false → first_that test (remaining nodes x 0) ≡ first_that test (remaining nodes y 0)
      walk_missed fails = ap (first_that test) next_is ∙ miss_first test y (remaining nodes y 0) fails

      pub walk_smaller : length (remaining nodes y 0) < length (remaining nodes x 0)
      walk_smaller = let e : length (remaining nodes x 0) ≡ suc (length (remaining nodes y 0)) = ap length next_is in omega arith

-- the walk, asked again and again
walked : (nodes : List DomNode) → Fits nodes → (k : ℕ) (o : Option ℕ) → length (walk_from nodes o) ≤ k → way_up (next_within nodes 0) k o ≡ walk_from nodes o
walked nodes fits k None within = way_none (next_within nodes 0) k
walked nodes fits zero (Some x) within = absurd (omega arith)
walked nodes fits (suc k) (Some x) within =
    let on = walk_on nodes fits x in
    let shorter : length (walk_from nodes (next_within nodes 0 x)) ≤ k = let e = ap length on in omega arith in
    ap (λ l. x ∷ l) (walked nodes fits k (next_within nodes 0 x) shorter ∙ sym on)

pub walk_ordered : (nodes : List DomNode) (times : ℕ) → Fits nodes → length (in_order nodes) ≤ times → way_up (next_within nodes 0) times (Some 0) ≡ in_order nodes
walk_ordered nodes times fits within =
    let begins = start nodes fits in
    let long : length (walk_from nodes (Some 0)) ≤ times = let e = ap length begins in omega arith in
    walked nodes fits times (Some 0) long ∙ sym begins

-- ---- in the document

or_true : (b c : Bool) → c ≡ true → (b || c) ≡ true
or_true true c is = refl
or_true false c is = is

module _ (nodes : List DomNode) (fits : Fits nodes) where
  in_step : (c p : ℕ) → parent_of nodes c ≡ Some p → is_in_document nodes p ≡ true → is_in_document nodes c ≡ true
  in_step c p above is =
      or_true (c == 0) (list_any (λ y. y == 0) (ancestors nodes c))
      (ap (λ o. list_any (λ y. y == 0) (way_up (parent_of nodes) (length nodes) o)) above ∙ ap (list_any (λ y. y == 0)) (way_step (parent_of nodes) (length nodes) p (fits.ends p)) ∙ is)

  abbrev AllIn : List ℕ → Type 0
  AllIn [] = Unit {0}
  AllIn (x ∷ xs) = (is_in_document nodes x ≡ true) × AllIn xs

  all_append : (xs ys : List ℕ) → AllIn xs → AllIn ys → AllIn (xs ++ ys)
  all_append [] ys all more = more
  all_append (x ∷ xs) ys all more = (all.0, all_append xs ys all.1 more)

  kids_in : (k : ℕ) → ((c : ℕ) → is_in_document nodes c ≡ true → AllIn (tree nodes k c)) → (cs : List ℕ) → ((j : ℕ) → j < length cs → is_in_document nodes (get_or cs j 0) ≡ true) → AllIn (flat_map (tree nodes k) cs)
  kids_in k below [] each = tt
  kids_in k below (c ∷ cs) each = all_append (tree nodes k c) (flat_map (tree nodes k) cs) (below c (each 0 (omega arith))) (kids_in k below cs (λ j inside. each (suc j) (omega arith)))

  all_in : (k x : ℕ) → is_in_document nodes x ≡ true → AllIn (tree nodes k x)
  all_in zero x is = tt
  all_in (suc k) x is =
      (is, kids_in k (all_in k) (children_of nodes x) (λ j inside. in_step (get_or (children_of nodes x) j 0) x (parent_is nodes fits x (get_or (children_of nodes x) j 0) j inside refl) is))

  has_there : (id : List ℕ) (x : ℕ) → has_id nodes id x ≡ true → x < length nodes
  has_there id x is = ⊎_elim (λ inside. inside) (λ past. absurd (false≢true (sym (ap (has_id_in id) (slice_get_past nodes x past)) ∙ is))) (cases_lt x (length nodes))

  found_in : (id xs : List ℕ) → AllIn xs → IfSome (first_that (has_id nodes id) xs) (IsInDocument nodes)
  found_in id [] all = tt
  found_in id (x ∷ xs) all =
      cond_both (has_id nodes id x) (Some x) (first_that (has_id nodes id) xs) (λ o. IfSome o (IsInDocument nodes)) (λ is. (has_there id x is, all.0)) (λ other. found_in id xs all.1)

  pub by_id_there : (id : List ℕ) (r : Option ℕ) → r ≡ node_by_id nodes id → IfSome r (IsInDocument nodes)
  by_id_there id r is = subst (λ o. IfSome o (IsInDocument nodes)) (sym is) (found_in id (in_order nodes) (all_in (length nodes) 0 refl))

  child_there : (p k : ℕ) → is_in_document nodes p ≡ true → (r : Option ℕ) → slice_get (children_of nodes p) k ≡ r → IfSome r (IsInDocument nodes)
  child_there p k is None found = tt
  child_there p k is (Some c) found = (
    child_of nodes fits p k c found,
    in_step c p (parent_is nodes fits p c k (slice_get_within (children_of nodes p) k c found) (get_or_from_slice_get (children_of nodes p) k c 0 found)) is,
  )

  child_at_there : (o : Option ℕ) (k : ℕ) → IfSome o (IsInDocument nodes) → IfSome (child_at nodes o k) (IsInDocument nodes)
  child_at_there None k is = tt
  child_at_there (Some p) k is = child_there p k is.1 (slice_get (children_of nodes p) k) refl

  path_there : (path : List ℕ) (o : Option ℕ) → IfSome o (IsInDocument nodes) → IfSome (fold (child_at nodes) o path) (IsInDocument nodes)
  path_there [] o is = is
  path_there (k ∷ path) o is = path_there path (child_at nodes o k) (child_at_there o k is)

  pub by_path_there : (path : List ℕ) (r : Option ℕ) → 0 < length nodes → r ≡ node_by_path nodes path → IfSome r (IsInDocument nodes)
  by_path_there path r some is = subst (λ o. IfSome o (IsInDocument nodes)) (sym is) (path_there path (Some 0) (some, refl))

  -- a child that was found
  pub child_is : (p k : ℕ) (r : Option ℕ) → r ≡ slice_get (children_of nodes p) k → IfSome r (λ c. is_child nodes p c ≡ true)
  child_is p k None is = tt
  child_is p k (Some c) is =
      let found = sym is in
      ap (is_one p) (parent_is nodes fits p c k (slice_get_within (children_of nodes p) k c found) (get_or_from_slice_get (children_of nodes p) k c 0 found)) ∙ eq-eqb p p refl
