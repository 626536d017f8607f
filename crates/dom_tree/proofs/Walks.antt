-- The document walked through in tree order.
use Rattle.std.proofs.Common.{◌≡◌, ℕ, zero, suc, ◌+◌, ◌-◌, ◌*◌, ◌<◌, ◌≤◌, ◌==◌, Bool, true, false, cond, List, [], ◌∷◌, ◌++◌, length, get_or, drop, drop-cons, add-one, Option, Some, None, refl, sym, ap, subst, ◌∙◌, arith, eq-eqb, ⊎_elim, append_assoc, append-nil, ◌&&◌, fold}
use Rattle.std.specs.Prelude.{codes}
use Rattle.dom_tree.specs.Names.{value_named}
use Rattle.std.proofs.lemmas.Bool.{cases_Bool, cases_lt, cond-true, cond-false, eqb-true, false≢true}
use Rattle.std.proofs.lemmas.List.{drop_all, nil_from_length}
use Rattle.std.proofs.lemmas.Option.{slice_get-get_or, slice_get_past, slice_get_within, get_or_from_slice_get}
use Rattle.std.specs.List.{slice_get, flat_map}
use Rattle.dom_tree.specs.Nodes.{parent_in, is_document_in, is_document_kind, parent_of, children_of, is_one, times, way_up, ancestors, Fits}
use Rattle.dom_tree.specs.Order.{tree, in_order, first_that, has_id, has_id_in, is_element_kind, is_value, child_at, node_by_id}
use Rattle.dom_tree.specs.Node.{DomNode}
use Rattle.dom_tree.specs.declared.parts.Kind.{Kind}
use Rattle.dom_tree.specs.declared.parts.Kind.TheVariants.{Document, Element, Text}
use Rattle.dom_tree.proofs.Ways.{way_step}
use Rattle.dom_tree.proofs.Kids.{stands}

abbrev pub index_of : ℕ → List ℕ → ℕ
index_of c [] = 0
index_of c (x ∷ xs) = cond (x == c) 0 (suc (index_of c xs))

pub index_is : (c : ℕ) (xs : List ℕ) (i : ℕ) → times c xs ≡ 1 → i < length xs → get_or xs i 0 ≡ c → index_of c xs ≡ i
index_is c [] i once inside is = absurd (omega arith)
index_is c (x ∷ xs) zero once inside is = cond-true (x == c) 0 (suc (index_of c xs)) (eq-eqb x c is)
index_is c (x ∷ xs) (suc i) once inside is =
    let more = stands c xs i (omega arith) is in
    ⊎_elim
    (λ hit. let e : times c (x ∷ xs) ≡ 1 + times c xs = ap (λ b. cond b 1 0 + times c xs) hit in absurd (omega arith))
    (λ miss.
    let e : times c (x ∷ xs) ≡ 0 + times c xs = ap (λ b. cond b 1 0 + times c xs) miss in
    cond-false (x == c) 0 (suc (index_of c xs)) miss ∙ ap suc (index_is c xs i (omega arith) (omega arith) is))
    (cases_Bool (x == c))

way_length : (above : ℕ → Option ℕ) (k : ℕ) (x : Option ℕ) → length (way_up above k x) ≤ k
way_length above zero x = omega arith
way_length above (suc k) None = omega arith
way_length above (suc k) (Some x) = let e = way_length above k (above x) in omega arith

pub way_none : (above : ℕ → Option ℕ) (k : ℕ) → way_up above k None ≡ []
way_none above zero = refl
way_none above (suc k) = refl

none_left : {P : Type 0} → 1 ≤ 0 → P
none_left h = absurd (omega arith)

pub one_from : (o : Option ℕ) (p : ℕ) → 1 ≤ cond (is_one p o) 1 0 → o ≡ Some p
one_from None p some = absurd (omega arith)
one_from (Some q) p some =
    ⊎_elim
    (λ hit. ap Some (eqb-true q p hit))
    (λ miss. let e : ◌≡◌ {A = ℕ} (cond (q == p) 1 0) 0 = ap (λ b. cond b 1 0) miss in none_left (subst (λ n. 1 ≤ n) e some))
    (cases_Bool (q == p))

cut_at : (xs : List ℕ) (i x : ℕ) → i < length xs → get_or xs i 0 ≡ x → drop i xs ≡ x ∷ drop (i + 1) xs
cut_at xs i x inside is =
    let step : drop i xs ≡ get_or xs i 0 ∷ drop (i + 1) xs = rw (add-one, drop-cons xs i 0) refl in
    step ∙ ap (λ y. y ∷ drop (i + 1) xs) is

-- what stands behind all below a node of this depth
behind : List DomNode → ℕ → ℕ → List ℕ
behind nodes zero p = []
behind nodes (suc d) p = elim (parent_of nodes p) [ None ↦ [] | Some q ↦ flat_map (tree nodes (length nodes - suc d)) (drop (index_of p (children_of nodes q) + 1) (children_of nodes q)) ++ behind nodes d q ]

behind_step : (nodes : List DomNode) (d p q : ℕ) → parent_of nodes p ≡ Some q
    → behind nodes (suc d) p ≡ flat_map (tree nodes (length nodes - suc d)) (drop (index_of p (children_of nodes q) + 1) (children_of nodes q)) ++ behind nodes d q
unfolding behind
behind_step nodes d p q is = ap (λ (o : Option ℕ). elim o [ None ↦ [] | Some q ↦ flat_map (tree nodes (length nodes - suc d)) (drop (index_of p (children_of nodes q) + 1) (children_of nodes q)) ++ behind nodes d q ]) is

behind_none : (nodes : List DomNode) (p : ℕ) → behind nodes 0 p ≡ []
unfolding behind
behind_none nodes p = refl

pub depth : List DomNode → ℕ → ℕ
depth nodes x = length (ancestors nodes x)

-- what is left of the document behind so many children of a node
pub remaining : List DomNode → ℕ → ℕ → List ℕ
remaining nodes p i = flat_map (tree nodes (length nodes - suc (depth nodes p))) (drop i (children_of nodes p)) ++ behind nodes (depth nodes p) p

module _ (nodes : List DomNode) (fits : Fits nodes) where
  pub depth_step : (c p : ℕ) → parent_of nodes c ≡ Some p → depth nodes c ≡ suc (depth nodes p)
  unfolding depth
  depth_step c p is = ap (λ o. length (way_up (parent_of nodes) (length nodes) o)) is ∙ ap length (way_step (parent_of nodes) (length nodes) p (fits.ends p))

  pub depth_top : (p : ℕ) → parent_of nodes p ≡ None → depth nodes p ≡ 0
  unfolding depth
  depth_top p is = ap (λ o. length (way_up (parent_of nodes) (length nodes) o)) is ∙ ap length (way_none (parent_of nodes) (length nodes))

  pub depth_below : (x : ℕ) → depth nodes x < length nodes
  unfolding depth
  depth_below x =
      let whole : length (way_up (parent_of nodes) (length nodes) (Some x)) ≡ suc (length (ancestors nodes x)) = ap length (way_step (parent_of nodes) (length nodes) x (fits.ends x)) in
      let within = way_length (parent_of nodes) (length nodes) (Some x) in
      omega arith

  pub parent_is : (p c i : ℕ) → i < length (children_of nodes p) → get_or (children_of nodes p) i 0 ≡ c → parent_of nodes c ≡ Some p
  parent_is p c i inside is =
      let once = stands c (children_of nodes p) i inside is in
      one_from (parent_of nodes c) p (subst (λ n. 1 ≤ n) (fits.children p c) once)

  pub once_is : (p c : ℕ) → parent_of nodes c ≡ Some p → times c (children_of nodes p) ≡ 1
  once_is p c is = fits.children p c ∙ ap (λ o. cond (is_one p o) 1 0) is ∙ ap (λ b. cond b 1 0) (eq-eqb p p refl)

  split_child : (k p i c : ℕ) → i < length (children_of nodes p) → get_or (children_of nodes p) i 0 ≡ c → (tail : List ℕ)
      → flat_map (tree nodes (suc k)) (drop i (children_of nodes p)) ++ tail ≡ c ∷ (flat_map (tree nodes k) (children_of nodes c) ++ (flat_map (tree nodes (suc k)) (drop (i + 1) (children_of nodes p)) ++ tail))
  split_child k p i c inside is tail =
      ap (λ l. flat_map (tree nodes (suc k)) l ++ tail) (cut_at (children_of nodes p) i c inside is)
      ∙ ap (λ l. c ∷ l) (append_assoc (flat_map (tree nodes k) (children_of nodes c)) (flat_map (tree nodes (suc k)) (drop (i + 1) (children_of nodes p))) tail)

  -- a child comes next, and then what is below it
  pub down : (p i c : ℕ) → i < length (children_of nodes p) → get_or (children_of nodes p) i 0 ≡ c → remaining nodes p i ≡ c ∷ remaining nodes c 0
  unfolding remaining
  down p i c inside is =
      let above = parent_is p c i inside is in
      let deeper = depth_step c p above in
      let room = depth_below c in
      let k = length nodes - suc (suc (depth nodes p)) in
      let fuel : length nodes - suc (depth nodes p) ≡ suc k = omega arith in
      let place : index_of c (children_of nodes p) ≡ i = index_is c (children_of nodes p) i (once_is p c above) inside is in
      let rest : behind nodes (depth nodes c) c ≡ flat_map (tree nodes (suc k)) (drop (i + 1) (children_of nodes p)) ++ behind nodes (depth nodes p) p =
      ap (λ d. behind nodes d c) deeper ∙ behind_step nodes (depth nodes p) c p above
      ∙ ap (λ n. flat_map (tree nodes n) (drop (index_of c (children_of nodes p) + 1) (children_of nodes p)) ++ behind nodes (depth nodes p) p) fuel
      ∙ ap (λ n. flat_map (tree nodes (suc k)) (drop (n + 1) (children_of nodes p)) ++ behind nodes (depth nodes p) p) place in
      ap (λ n. flat_map (tree nodes n) (drop i (children_of nodes p)) ++ behind nodes (depth nodes p) p) fuel
      ∙ split_child k p i c inside is (behind nodes (depth nodes p) p)
      ∙ ap (λ l. c ∷ (flat_map (tree nodes k) (children_of nodes c) ++ l)) (sym rest)
      ∙ ap (λ d. c ∷ (flat_map (tree nodes (length nodes - suc d)) (children_of nodes c) ++ behind nodes (depth nodes c) c)) (sym deeper)

  -- a child without children comes next, and then the next child
  pub beside : (p i c : ℕ) → i < length (children_of nodes p) → get_or (children_of nodes p) i 0 ≡ c → children_of nodes c ≡ [] → remaining nodes p i ≡ c ∷ remaining nodes p (i + 1)
  unfolding remaining
  beside p i c inside is childless =
      let above = parent_is p c i inside is in
      let deeper = depth_step c p above in
      let room = depth_below c in
      let k = length nodes - suc (suc (depth nodes p)) in
      let fuel : length nodes - suc (depth nodes p) ≡ suc k = omega arith in
      ap (λ n. flat_map (tree nodes n) (drop i (children_of nodes p)) ++ behind nodes (depth nodes p) p) fuel
      ∙ split_child k p i c inside is (behind nodes (depth nodes p) p)
      ∙ ap (λ l. c ∷ (flat_map (tree nodes k) l ++ (flat_map (tree nodes (suc k)) (drop (i + 1) (children_of nodes p)) ++ behind nodes (depth nodes p) p))) childless
      ∙ ap (λ n. c ∷ (flat_map (tree nodes n) (drop (i + 1) (children_of nodes p)) ++ behind nodes (depth nodes p) p)) (sym fuel)

  no_more : (p i : ℕ) → length (children_of nodes p) ≤ i → remaining nodes p i ≡ behind nodes (depth nodes p) p
  unfolding remaining
  no_more p i past = ap (λ l. flat_map (tree nodes (length nodes - suc (depth nodes p))) l ++ behind nodes (depth nodes p) p) (drop_all i (children_of nodes p) past)

  -- behind the last child the parent's next one comes
  pub up : (p q i j : ℕ) → length (children_of nodes p) ≤ i → parent_of nodes p ≡ Some q → j < length (children_of nodes q) → get_or (children_of nodes q) j 0 ≡ p → remaining nodes p i ≡ remaining nodes q (j + 1)
  unfolding remaining
  up p q i j past above inside is =
      no_more p i past ∙ ap (λ d. behind nodes d p) (depth_step p q above) ∙ behind_step nodes (depth nodes q) p q above
      ∙ ap (λ n. flat_map (tree nodes (length nodes - suc (depth nodes q))) (drop (n + 1) (children_of nodes q)) ++ behind nodes (depth nodes q) q)
      (index_is p (children_of nodes q) j (once_is q p above) inside is)

  -- behind the document's last child nothing comes
  pub over : (p i : ℕ) → length (children_of nodes p) ≤ i → parent_of nodes p ≡ None → remaining nodes p i ≡ []
  over p i past none = no_more p i past ∙ ap (λ d. behind nodes d p) (depth_top p none) ∙ behind_none nodes p

  -- the document comes first, and then what is below it
  pub start : in_order nodes ≡ 0 ∷ remaining nodes 0 0
  unfolding remaining
  start =
      let none = depth_top 0 fits.top in
      let room = depth_below 0 in
      let fuel : length nodes ≡ suc (length nodes - 1) = omega arith in
      let less : length nodes - suc (depth nodes 0) ≡ length nodes - 1 = omega arith in
      ap (λ n. tree nodes n 0) fuel
      ∙ ap (λ l. 0 ∷ l) (sym (append-nil (flat_map (tree nodes (length nodes - 1)) (children_of nodes 0))))
      ∙ ap (λ n. 0 ∷ (flat_map (tree nodes n) (children_of nodes 0) ++ [])) (sym less)
      ∙ ap (λ l. 0 ∷ (flat_map (tree nodes (length nodes - suc (depth nodes 0))) (children_of nodes 0) ++ l)) (sym (ap (λ d. behind nodes d 0) none ∙ behind_none nodes 0))

no_element_kind : (k : Kind) → is_document_kind k ≡ true → is_element_kind k ≡ false
no_element_kind Document is = refl
no_element_kind (Element name) is = absurd (false≢true is)
no_element_kind (Text text) is = refl

none_is : (p : ℕ) → None ≡ Some p → ⊥
none_is p is = cc

no_element : (id : List ℕ) (o : Option DomNode) → is_document_in o ≡ true → has_id_in id o ≡ false
no_element id None is = refl
no_element id (Some node) is = ap (λ b. b && is_value id (value_named (codes "id") node.attributes)) (no_element_kind node.kind is)

pub hit_first : (test : ℕ → Bool) (x : ℕ) (xs : List ℕ) → test x ≡ true → first_that test (x ∷ xs) ≡ Some x
hit_first test x xs is = cond-true (test x) (Some x) (first_that test xs) is

pub miss_first : (test : ℕ → Bool) (x : ℕ) (xs : List ℕ) → test x ≡ false → first_that test (x ∷ xs) ≡ first_that test xs
miss_first test x xs is = cond-false (test x) (Some x) (first_that test xs) is

-- a node with a parent is there
pub inside_from : (nodes : List DomNode) (c p : ℕ) → parent_of nodes c ≡ Some p → c < length nodes
inside_from nodes c p is =
    ⊎_elim (λ inside. inside) (λ past. absurd (none_is p (sym (ap parent_in (slice_get_past nodes c past)) ∙ is))) (cases_lt c (length nodes))

module _ (nodes : List DomNode) (fits : Fits nodes) where
  pub begun : (id : List ℕ) → node_by_id nodes id ≡ first_that (has_id nodes id) (remaining nodes 0 0)
  begun id = ap (first_that (has_id nodes id)) (start nodes fits) ∙ miss_first (has_id nodes id) 0 (remaining nodes 0 0) (no_element id (slice_get nodes 0) fits.document)

  pub some_nodes : 0 < length nodes
  some_nodes = let room = depth_below nodes fits 0 in omega arith

-- a path is followed
path_none : (nodes : List DomNode) (path : List ℕ) → fold (child_at nodes) None path ≡ None
path_none nodes [] = refl
path_none nodes (k ∷ path) = path_none nodes path

module _ (nodes : List DomNode) (path : List ℕ) (p i : ℕ) (inside : i < length path) (so_far : fold (child_at nodes) (Some 0) path ≡ fold (child_at nodes) (Some p) (drop i path)) where
  followed : fold (child_at nodes) (Some 0) path ≡ fold (child_at nodes) (slice_get (children_of nodes p) (get_or path i 0)) (drop (i + 1) path)
  followed = so_far ∙ ap (fold (child_at nodes) (Some p)) (cut_at path i (get_or path i 0) inside refl)

  pub path_more : (o : Option ℕ) → slice_get (children_of nodes p) (get_or path i 0) ≡ o → fold (child_at nodes) (Some 0) path ≡ fold (child_at nodes) o (drop (i + 1) path)
  path_more o is = followed ∙ ap (λ v. fold (child_at nodes) v (drop (i + 1) path)) is

  pub path_ends : slice_get (children_of nodes p) (get_or path i 0) ≡ None → fold (child_at nodes) (Some 0) path ≡ None
  path_ends is = path_more None is ∙ path_none nodes (drop (i + 1) path)

pub child_of : (nodes : List DomNode) → Fits nodes → (p i c : ℕ) → slice_get (children_of nodes p) i ≡ Some c → c < length nodes
child_of nodes fits p i c is =
    inside_from nodes c p (parent_is nodes fits p c i (slice_get_within (children_of nodes p) i c is) (get_or_from_slice_get (children_of nodes p) i c 0 is))
