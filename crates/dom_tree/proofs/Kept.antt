-- What is kept of nodes determines them.
use Rattle.std.proofs.Common.{◌≡◌, ◌≢◌, ℕ, zero, suc, ◌+◌, ◌<◌, ◌≤◌, ◌==◌, ◌||◌, Bool, true, false, cond, eqb, List, [], ◌∷◌, length, map, get_or, Option, Some, None, refl, sym, ap, subst, ◌∙◌, arith, eq-eqb, ⊎_elim}
use Rattle.std.proofs.lemmas.Bool.{cases_Bool, cases_eq, cases_lt, eqb-true, false≢true}
use Rattle.std.proofs.lemmas.List.{length-map}
use Rattle.std.proofs.lemmas.Option.{slice_get-get_or, slice_get-map}
use Rattle.std.proofs.lemmas.Map.Steps.{length-le_from_distinct_below}
use Rattle.std.proofs.lemmas.Map.Keys.{IsDistinct-cons}
use Rattle.std.specs.List.{slice_get, list_any, IsDistinct, AllByRecursion}
use Rattle.std.specs.Option.{option_map}
use Rattle.dom_tree.specs.Node.{DomNode, node_with}
use Rattle.dom_tree.specs.Nodes.{parent_in, children_in, is_text_in, is_text_kind, parent_of, children_of, is_text, is_one, times, way_up, Fits}
use Rattle.dom_tree.specs.Changes.{changed}
use Rattle.dom_tree.specs.Order.{first_child, last_child, next_sibling, previous_sibling, children_under, next_in}
use Rattle.dom_tree.specs.declared.parts.NodeData.{NodeData}
use Rattle.dom_tree.specs.inner.Kept.{link_in, first_link, next_link, shown_node, nodes_of, bare, emptied, Keeps, IsLinked}
use Rattle.dom_tree.proofs.Items.{at_changed, beside_changed}
use Rattle.dom_tree.proofs.Kids.{unequal, stands, times_yes, times_no}
use Rattle.dom_tree.proofs.Walks.{way_none, parent_is, once_is, inside_from, one_from}
use Rattle.dom_tree.proofs.Sides.{next_at}

-- ---- lists

some_same : {X : Type 0} (x y : X) → Some x ≡ Some y → x ≡ y
some_same x y is = cc

pub same_items : {X : Type 0} (xs ys : List X) → ((i : ℕ) → slice_get xs i ≡ slice_get ys i) → xs ≡ ys
same_items [] [] same = refl
same_items [] (y ∷ ys) same = let first = same 0 in absurd cc
same_items (x ∷ xs) [] same = let first = same 0 in absurd cc
same_items (x ∷ xs) (y ∷ ys) same = ap (λ z. z ∷ xs) (some_same x y (same 0)) ∙ ap (λ l. y ∷ l) (same_items xs ys (λ i. same (suc i)))

module _ {X Y : Type 0} (r : X → Y) where
  pub map_changed : (f : X → X) (g : Y → Y) → ((x : X) → r (f x) ≡ g (r x)) → (i : ℕ) (xs : List X) → map r (changed f i xs) ≡ changed g i (map r xs)
  map_changed f g same i [] = refl
  map_changed f g same zero (x ∷ xs) = ap (λ y. y ∷ map r xs) (same x)
  map_changed f g same (suc i) (x ∷ xs) = ap (λ l. r x ∷ l) (map_changed f g same i xs)

  pub map_kept : (f : X → X) → ((x : X) → r (f x) ≡ r x) → (i : ℕ) (xs : List X) → map r (changed f i xs) ≡ map r xs
  map_kept f same i [] = refl
  map_kept f same zero (x ∷ xs) = ap (λ y. y ∷ map r xs) (same x)
  map_kept f same (suc i) (x ∷ xs) = ap (λ l. r x ∷ l) (map_kept f same i xs)

-- a link that is changed, and one that isn't
module _ (link : NodeData → Option ℕ) (f : NodeData → NodeData) (i : ℕ) (kept : List NodeData) where
  at_some : (o : Option NodeData) → ((d : NodeData) → link (f d) ≡ link d) → link_in link (option_map f o) ≡ link_in link o
  at_some None same = refl
  at_some (Some d) same = same d

  pub link_beside : (x : ℕ) → i ≢ x → link_in link (slice_get (changed f i kept) x) ≡ link_in link (slice_get kept x)
  link_beside x apart = ap (link_in link) (beside_changed f i kept x apart)

  pub link_stays : ((d : NodeData) → link (f d) ≡ link d) → (x : ℕ) → link_in link (slice_get (changed f i kept) x) ≡ link_in link (slice_get kept x)
  link_stays same x =
      ⊎_elim
      (λ is. subst (λ v. link_in link (slice_get (changed f i kept) v) ≡ link_in link (slice_get kept v)) is (ap (link_in link) (at_changed f i kept) ∙ at_some (slice_get kept i) same))
      (λ apart. link_beside x apart)
      (cases_eq i x)

  set_some : (o : Option NodeData) (d : NodeData) (v : Option ℕ) → o ≡ Some d → ((e : NodeData) → link (f e) ≡ v) → link_in link (option_map f o) ≡ v
  set_some o d v is sets = ap (λ (w : Option NodeData). link_in link (option_map f w)) is ∙ sets d

there_is : (kept : List NodeData) (i : ℕ) → i < length kept → (d : NodeData) × (slice_get kept i ≡ Some d)
there_is [] i inside = absurd (omega arith)
there_is (d ∷ kept) zero inside = (d, refl)
there_is (d ∷ kept) (suc i) inside = there_is kept i (omega arith)

pub link_set : (link : NodeData → Option ℕ) (f : NodeData → NodeData) (i : ℕ) (kept : List NodeData) (v : Option ℕ) → i < length kept → ((d : NodeData) → link (f d) ≡ v)
    → link_in link (slice_get (changed f i kept) i) ≡ v
link_set link f i kept v inside sets =
    let here = there_is kept i inside in
    ap (link_in link) (at_changed f i kept) ∙ set_some link f i kept (slice_get kept i) here.0 v here.1 sets

-- ---- how many children

any_none : (x : ℕ) (xs : List ℕ) → times x xs ≡ 0 → list_any (eqb x) xs ≡ false
any_none x [] none = refl
any_none x (y ∷ ys) none =
    ⊎_elim
    (λ hit. let e = times_yes x y ys hit in absurd (omega arith))
    (λ miss.
    let other : (x == y) ≡ false = unequal x y (λ is. false≢true (sym miss ∙ eq-eqb y x (sym is))) in
    ap (λ b. b || list_any (eqb x) ys) other ∙ any_none x ys (sym (times_no x y ys miss) ∙ none))
    (cases_Bool (y == x))

any_some : (x : ℕ) (xs : List ℕ) → list_any (eqb x) xs ≡ true → 1 ≤ times x xs
any_some x xs is =
    ⊎_elim
    (λ none. let e : times x xs ≡ 0 = none in absurd (false≢true (sym (any_none x xs e) ∙ is)))
    (λ some. omega arith)
    (cases_eq (times x xs) 0)

all_from_none : (x : ℕ) (ys : List ℕ) → list_any (eqb x) ys ≡ false → AllByRecursion (λ y. eqb x y ≡ false) ys
all_from_none x [] none = tt
all_from_none x (y ∷ ys) none =
    ⊎_elim
    (λ hit. absurd (false≢true (sym none ∙ ap (λ b. b || list_any (eqb x) ys) hit)))
    (λ miss. (miss, all_from_none x ys (sym (ap (λ b. b || list_any (eqb x) ys) miss) ∙ none)))
    (cases_Bool (eqb x y))

distinct_none : IsDistinct eqb []
unfolding IsDistinct
distinct_none = tt

distinct_once : (xs : List ℕ) → ((y : ℕ) → times y xs ≤ 1) → IsDistinct eqb xs
distinct_once [] once = distinct_none
distinct_once (x ∷ xs) once =
    let few = once x in
    let e = times_yes x x xs (eq-eqb x x refl) in
    IsDistinct-cons eqb x xs (all_from_none x xs (any_none x xs (omega arith)))
    (distinct_once xs (λ y. let more = once y in let sum : times y (x ∷ xs) ≡ cond (x == y) 1 0 + times y xs = refl in omega arith))

pub at_most_one : (b : Bool) → cond b 1 0 ≤ 1
at_most_one true = omega arith
at_most_one false = omega arith

module _ (nodes : List DomNode) (fits : Fits nodes) where
  pub once_each : (x y : ℕ) → times y (children_of nodes x) ≤ 1
  once_each x y = subst (λ n. n ≤ 1) (sym (fits.children x y)) (at_most_one (is_one x (parent_of nodes y)))

  pub parent_of_child : (x y : ℕ) → 1 ≤ times y (children_of nodes x) → parent_of nodes y ≡ Some x
  parent_of_child x y some = one_from (parent_of nodes y) x (subst (λ n. 1 ≤ n) (fits.children x y) some)

  few_children : (x : ℕ) → length (children_of nodes x) ≤ length nodes
  few_children x =
      length-le_from_distinct_below (children_of nodes x) (length nodes) (distinct_once (children_of nodes x) (once_each x))
      (λ q on. inside_from nodes q x (parent_of_child x q (any_some q (children_of nodes x) on)))

-- ---- the nodes that are kept

chained : (next : ℕ → Option ℕ) (xs : List ℕ) → ((j : ℕ) → j < length xs → next (get_or xs j 0) ≡ slice_get xs (j + 1)) → (k : ℕ) → length xs ≤ k → way_up next k (slice_get xs 0) ≡ xs
chained next [] links k within = way_none next k
chained next (x ∷ xs) links zero within = absurd (omega arith)
chained next (x ∷ xs) links (suc k) within =
    let first : next x ≡ slice_get xs 0 = links 0 (omega arith) in
    let more = chained next xs (λ j inside. let e : suc j + 1 ≡ suc (j + 1) = omega arith in links (suc j) (omega arith) ∙ ap (slice_get (x ∷ xs)) e) k (omega arith) in
    ap (λ o. x ∷ way_up next k o) first ∙ ap (λ l. x ∷ l) more

module _ (nodes : List DomNode) (kept : List NodeData) (fits : Fits nodes) (keeps : Keeps nodes kept) where
  pub kept_length : length kept ≡ length nodes
  kept_length = sym (length-map kept bare) ∙ ap length keeps.same ∙ length-map nodes emptied

  linked_on : (x j : ℕ) → j < length (children_of nodes x) → next_link kept (get_or (children_of nodes x) j 0) ≡ slice_get (children_of nodes x) (j + 1)
  linked_on x j inside =
      let c = get_or (children_of nodes x) j 0 in
      let above = parent_is nodes fits x c j inside refl in
      keeps.next c ∙ ap (λ o. next_in c (children_under nodes o)) above ∙ next_at c (children_of nodes x) j (once_is nodes fits x c above) inside refl

  children_linked : (x : ℕ) → way_up (next_link kept) (length kept) (first_child nodes x) ≡ children_of nodes x
  children_linked x =
      chained (next_link kept) (children_of nodes x) (linked_on x) (length kept) (subst (λ n. length (children_of nodes x) ≤ n) (sym kept_length) (few_children nodes fits x))

  node_is : (i : ℕ) (o : Option NodeData) (m : Option DomNode) → slice_get kept i ≡ o → slice_get nodes i ≡ m → option_map bare o ≡ option_map emptied m → option_map (shown_node kept) o ≡ m
  node_is i None None kept_is nodes_is same = refl
  node_is i None (Some n) kept_is nodes_is same = absurd cc
  node_is i (Some d) None kept_is nodes_is same = absurd cc
  node_is i (Some d) (Some n) kept_is nodes_is same =
      let e : bare d ≡ emptied n = some_same (bare d) (emptied n) same in
      let first : d.links.first ≡ first_child nodes i = sym (ap (link_in (λ d. d.links.first)) kept_is) ∙ keeps.first i in
      let children : way_up (next_link kept) (length kept) d.links.first ≡ n.children =
      ap (way_up (next_link kept) (length kept)) first ∙ children_linked i ∙ ap children_in nodes_is in
      ap (λ l. Some (node_with l d)) children ∙ ap (λ (m : DomNode). Some (record m { children = n.children })) e

  pub nodes_are : nodes_of kept ≡ nodes
  nodes_are =
      same_items (nodes_of kept) nodes
      (λ i. slice_get-map (shown_node kept) kept i
      ∙ node_is i (slice_get kept i) (slice_get nodes i) refl refl
      (sym (slice_get-map bare kept i) ∙ ap (λ l. slice_get l i) keeps.same ∙ slice_get-map emptied nodes i))

  pub linked_is : IsLinked kept
  linked_is = record { fits = subst Fits (sym nodes_are) fits; keeps = subst (λ l. Keeps l kept) (sym nodes_are) keeps }

-- what code reads
module _ (kept : List NodeData) (i : ℕ) (d : NodeData) (inside : i < length kept) where
  here : slice_get kept i ≡ Some (get_or kept i d)
  here = slice_get-get_or kept i d inside

  pub node_at : slice_get (nodes_of kept) i ≡ Some (shown_node kept (get_or kept i d))
  node_at = slice_get-map (shown_node kept) kept i ∙ ap (option_map (shown_node kept)) here

  pub parent_at : parent_of (nodes_of kept) i ≡ (get_or kept i d).parent
  parent_at = ap parent_in node_at

  pub text_at : is_text (nodes_of kept) i ≡ is_text_kind (get_or kept i d).kind
  text_at = ap is_text_in node_at

  module _ (linked : IsLinked kept) where
    pub first_at : (get_or kept i d).links.first ≡ first_child (nodes_of kept) i
    first_at = sym (ap (link_in (λ d. d.links.first)) here) ∙ linked.keeps.first i

    pub last_at : (get_or kept i d).links.last ≡ last_child (nodes_of kept) i
    last_at = sym (ap (link_in (λ d. d.links.last)) here) ∙ linked.keeps.last i

    pub next_to : (get_or kept i d).links.next ≡ next_sibling (nodes_of kept) i
    next_to = sym (ap (link_in (λ d. d.links.next)) here) ∙ linked.keeps.next i

    pub previous_to : (get_or kept i d).links.previous ≡ previous_sibling (nodes_of kept) i
    previous_to = sym (ap (link_in (λ d. d.links.previous)) here) ∙ linked.keeps.previous i

pub nodes_length : (kept : List NodeData) → length (nodes_of kept) ≡ length kept
nodes_length kept = length-map kept (shown_node kept)
