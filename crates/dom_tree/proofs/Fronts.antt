-- The nodes of a page, read one after another.
use Rattle.std.proofs.Common.{◌≡◌, ◌≢◌, ℕ, zero, suc, ◌+◌, ◌<◌, ◌≤◌, ◌==◌, ◌||◌, false, cond, List, [], ◌∷◌, ◌++◌, length, take, drop, Option, Some, None, refl, sym, ap, subst, ◌∙◌, arith, eq-eqb, ⊎_elim, length-append, append-nil, add-zero, zero-add}
use Rattle.std.proofs.lemmas.Bool.{cases_eq, cases_lt, cases_order, cases_Bool}
use Rattle.std.proofs.lemmas.List.{drop_all, take_all}
use Rattle.std.proofs.lemmas.Option.{slice_get_past, slice_get_within}
use Rattle.std.specs.List.{slice_get, list_any}
use Rattle.std.specs.Option.{option_map}
use Rattle.html_profile.specs.declared.document.DocNode.{DocNode}
use Rattle.html_profile.specs.declared.document.Content.{Content}
use Rattle.html_profile.specs.declared.document.Content.TheVariants.{Document as page, Element as tag, Text as words}
use Rattle.html_profile.specs.Numbering.{parent_in as above_in, is_text_content, is_text_in as is_words_in, IsNumbered}
use Rattle.dom_tree.specs.Nodes.{parent_in, children_in, is_text_in, is_text_kind, parent_of, children_of, is_text, is_one, times, way_up, ancestors, Fits}
use Rattle.dom_tree.specs.Changes.{changed, with_parent, with_children, at_end, left_at, appended, would_cycle}
use Rattle.dom_tree.specs.Reading.{kind_of, numbers_in, made_of, node_of, IsFront}
use Rattle.dom_tree.specs.Node.{DomNode}
use Rattle.dom_tree.proofs.Items.{length_changed, at_changed, beside_changed}
use Rattle.dom_tree.proofs.Kids.{unequal}
use Rattle.dom_tree.proofs.Fitting.{grown_before, grown_last}

some_same : {X : Type 0} (x y : X) → Some x ≡ Some y → x ≡ y
some_same x y is = cc

moved_on : (k n : ℕ) → (k + 1) + n ≡ k + suc n
moved_on k n = omega arith

numbers_push : (x k : ℕ) (front : List DocNode) (d : DocNode) → numbers_in x k (front ++ d ∷ []) ≡ numbers_in x k front ++ cond (is_one x d.parent) ((k + length front) ∷ []) []
numbers_push x k [] d = ap (λ n. cond (is_one x d.parent) (n ∷ []) []) (sym (add-zero k))
numbers_push x k (n ∷ front) d =
    ⊎_elim
    (λ hit.
    ap (λ b. cond b (k ∷ numbers_in x (k + 1) (front ++ d ∷ [])) (numbers_in x (k + 1) (front ++ d ∷ []))) hit
    ∙ ap (λ l. k ∷ l) (numbers_push x (k + 1) front d)
    ∙ ap (λ m. k ∷ (numbers_in x (k + 1) front ++ cond (is_one x d.parent) (m ∷ []) [])) (moved_on k (length front))
    ∙ ap (λ b. cond b (k ∷ numbers_in x (k + 1) front) (numbers_in x (k + 1) front) ++ cond (is_one x d.parent) ((k + suc (length front)) ∷ []) []) (sym hit))
    (λ miss.
    ap (λ b. cond b (k ∷ numbers_in x (k + 1) (front ++ d ∷ [])) (numbers_in x (k + 1) (front ++ d ∷ []))) miss
    ∙ numbers_push x (k + 1) front d
    ∙ ap (λ m. numbers_in x (k + 1) front ++ cond (is_one x d.parent) (m ∷ []) []) (moved_on k (length front))
    ∙ ap (λ b. cond b (k ∷ numbers_in x (k + 1) front) (numbers_in x (k + 1) front) ++ cond (is_one x d.parent) ((k + suc (length front)) ∷ []) []) (sym miss))
    (cases_Bool (is_one x n.parent))

numbers_none : (x k : ℕ) (front : List DocNode) → ((y : ℕ) → is_one x (above_in (slice_get front y)) ≡ false) → numbers_in x k front ≡ []
numbers_none x k [] none = refl
numbers_none x k (n ∷ front) none =
    ap (λ b. cond b (k ∷ numbers_in x (k + 1) front) (numbers_in x (k + 1) front)) (none 0) ∙ numbers_none x (k + 1) front (λ y. none (suc y))

take_next : {X : Type 0} (xs : List X) (n : ℕ) (x : X) → slice_get xs n ≡ Some x → take (suc n) xs ≡ take n xs ++ x ∷ []
take_next [] n x is = cc
take_next (y ∷ ys) zero x is = ap (λ z. z ∷ []) (some_same y x is)
take_next (y ∷ ys) (suc n) x is = ap (λ l. y ∷ l) (take_next ys n x is)

take_push : {X : Type 0} (xs : List X) (n : ℕ) (x : X) → slice_get xs n ≡ Some x → take (n + 1) xs ≡ take n xs ++ x ∷ []
take_push xs n x is = let e : n + 1 ≡ suc n = omega arith in ap (λ k. take k xs) e ∙ take_next xs n x is

-- a list that was lent whole
pub whole_list : {X : Type 0} (n : ℕ) (xs ys : List X) → n ≡ length xs → length ys ≡ length xs → take n (xs ++ drop (length xs) ys) ≡ xs
whole_list n xs ys len same = ap (λ l. take n (xs ++ l)) (drop_all (length xs) ys (omega arith)) ∙ ap (take n) (append-nil xs) ∙ take_all n xs (omega arith)

-- what was made
pub node_is : (docs : List DocNode) (m : ℕ) (d : DocNode) (node : DomNode) → slice_get docs m ≡ Some d → option_map (made_of docs m) (slice_get docs m) ≡ Some node → node ≡ made_of docs m d
node_is docs m d node here made = sym (some_same (made_of docs m d) node (sym (ap (option_map (made_of docs m)) here) ∙ made))

get_take : {X : Type 0} (xs : List X) (n i : ℕ) → i < n → slice_get (take n xs) i ≡ slice_get xs i
get_take xs zero i inside = absurd (omega arith)
get_take [] (suc n) i inside = refl
get_take (x ∷ xs) (suc n) zero inside = refl
get_take (x ∷ xs) (suc n) (suc i) inside = get_take xs n i (omega arith)

length_take : {X : Type 0} (xs : List X) (n : ℕ) → n ≤ length xs → length (take n xs) ≡ n
length_take xs zero inside = refl
length_take [] (suc n) inside = absurd (omega arith)
length_take (x ∷ xs) (suc n) inside = ap suc (length_take xs n (omega arith))

get_push : {X : Type 0} (xs : List X) (y : X) (i : ℕ) → i < length xs → slice_get (xs ++ y ∷ []) i ≡ slice_get xs i
get_push [] y i inside = absurd (omega arith)
get_push (x ∷ xs) y zero inside = refl
get_push (x ∷ xs) y (suc i) inside = get_push xs y i (omega arith)

get_last : {X : Type 0} (xs : List X) (y : X) → slice_get (xs ++ y ∷ []) (length xs) ≡ Some y
get_last [] y = refl
get_last (x ∷ xs) y = get_last xs y

text_of_kind : (c : Content) → is_text_kind (kind_of c) ≡ is_text_content c
text_of_kind page = refl
text_of_kind (tag name attributes) = refl
text_of_kind (words text) = refl

map_twice : {A B C : Type 0} (g : B → C) (f : A → B) (h : A → C) → ((a : A) → g (f a) ≡ h a) → (o : Option A) → option_map g (option_map f o) ≡ option_map h o
map_twice g f h same None = refl
map_twice g f h same (Some a) = ap Some (same a)

map_same : {A B : Type 0} (f g : A → B) → ((a : A) → f a ≡ g a) → (o : Option A) → option_map f o ≡ option_map g o
map_same f g same None = refl
map_same f g same (Some a) = ap Some (same a)

pub none_some : (q : ℕ) → None ≡ Some q → ⊥
none_some q is = cc

text_of_node : (docs front : List DocNode) (x : ℕ) (o : Option DocNode) → is_text_in (option_map (node_of docs front x) o) ≡ is_words_in o
text_of_node docs front x None = refl
text_of_node docs front x (Some d) = text_of_kind d.content

-- a node without children is on no way up
module _ (nodes : List DomNode) (fits : Fits nodes) (m : ℕ) (childless : children_of nodes m ≡ []) where
  not_above : (y : ℕ) → parent_of nodes y ≡ Some m → ⊥
  not_above y is =
      let once : times y (children_of nodes m) ≡ 1 = fits.children m y ∙ ap (λ o. cond (is_one m o) 1 0) is ∙ ap (λ b. cond b 1 0) (eq-eqb m m refl) in
      let none : times y (children_of nodes m) ≡ 0 = ap (times y) childless in
      omega arith

  off_from : (k : ℕ) (o : Option ℕ) → (o ≡ Some m → ⊥) → list_any (λ x. x == m) (way_up (parent_of nodes) k o) ≡ false
  off_from zero o apart = refl
  off_from (suc k) None apart = refl
  off_from (suc k) (Some x) apart =
      ap (λ b. b || list_any (λ y. y == m) (way_up (parent_of nodes) k (parent_of nodes x))) (unequal x m (λ is. apart (ap Some is))) ∙ off_from k (parent_of nodes x) (not_above x)

  pub off : (p : ℕ) → list_any (λ x. x == m) (ancestors nodes p) ≡ false
  off p = off_from (length nodes) (parent_of nodes p) (not_above p)

-- one more node is read
module _ (docs : List DocNode) (m p : ℕ) (d : DocNode) (read : List DomNode) (numbered : IsNumbered docs) (some : 0 < m) (here : slice_get docs m ≡ Some d) (above_is : d.parent ≡ Some p)
    (fits : Fits read) (front : IsFront docs (take m docs) read) where
  inside : m < length docs
  inside = slice_get_within docs m d here

  front_length : length (take m docs) ≡ m
  front_length = length_take docs m (let i = inside in omega arith)

  read_length : length read ≡ m
  read_length = front.count ∙ front_length

  parent_below : (p < m) × (is_words_in (slice_get docs p) ≡ false)
  parent_below =
      let old = numbered.below m some inside in
      let same : old.0 ≡ p = some_same old.0 p (sym old.1 ∙ ap above_in here ∙ above_is) in
      subst (λ q. (q < m) × (is_words_in (slice_get docs q) ≡ false)) same (old.2, old.3)

  last : slice_get (read ++ made_of docs m d ∷ []) m ≡ Some (made_of docs m d)
  last = ap (slice_get (read ++ made_of docs m d ∷ [])) (sym read_length) ∙ grown_last (made_of docs m d) read

  before : (x : ℕ) → x < m → slice_get (read ++ made_of docs m d ∷ []) x ≡ slice_get read x
  before x less = grown_before (made_of docs m d) read x (let e = read_length in omega arith)

  apart : p ≢ m
  apart is = let less : p < m = parent_below.0 in absurd (omega arith)

  no_text : is_text (read ++ made_of docs m d ∷ []) p ≡ false
  no_text =
      ap is_text_in (before p parent_below.0) ∙ ap is_text_in (front.each p) ∙ text_of_node docs (take m docs) p (slice_get (take m docs) p)
      ∙ ap is_words_in (get_take docs m p parent_below.0) ∙ parent_below.1

  pub valid : Fits (read ++ made_of docs m d ∷ []) → would_cycle (read ++ made_of docs m d ∷ []) p m ≡ false
  valid fits_grown =
      let nodes = read ++ made_of docs m d ∷ [] in
      ap (λ b. b || (list_any (λ x. x == m) (ancestors nodes p) || (m == 0 || is_text nodes p))) (unequal m p (λ is. apart (sym is)))
      ∙ ap (λ b. b || (m == 0 || is_text nodes p)) (off nodes fits_grown m (ap children_in last) p)
      ∙ ap (λ b. b || is_text nodes p) (unequal m 0 (λ is. let less : 0 < m = some in absurd (omega arith)))
      ∙ no_text

  pub parent_there : p < length (read ++ made_of docs m d ∷ [])
  parent_there = let less : p < m = parent_below.0 in let e = read_length in omega (arith, length-append read (made_of docs m d ∷ []))

  pub child_there : m < length (read ++ made_of docs m d ∷ [])
  child_there = let e = read_length in omega (arith, length-append read (made_of docs m d ∷ []))

  front_more : take (m + 1) docs ≡ take m docs ++ d ∷ []
  front_more = take_push docs m d here

  -- nobody stands below the new node yet
  not_yet_from : (y : ℕ) → y < m + 1 → is_one m (above_in (slice_get docs y)) ≡ false
  not_yet_from zero less = ap (is_one m) numbered.top
  not_yet_from (suc y) less =
      let room = inside in
      let old = numbered.below (suc y) (omega arith) (omega arith) in
      let lower : old.0 < suc y = old.2 in
      ap (is_one m) old.1 ∙ unequal old.0 m (λ is. absurd (omega arith))

  not_yet : (y : ℕ) → is_one m (above_in (slice_get (take (m + 1) docs) y)) ≡ false
  not_yet y =
      ⊎_elim
      (λ less. ap (λ o. is_one m (above_in o)) (get_take docs (m + 1) y less) ∙ not_yet_from y less)
      (λ past.
      let room = inside in
      let e = length_take docs (m + 1) (omega arith) in
      ap (λ o. is_one m (above_in o)) (slice_get_past (take (m + 1) docs) y (omega arith)))
      (cases_lt y (m + 1))

  none_below : numbers_in m 0 (take m docs ++ d ∷ []) ≡ []
  none_below = numbers_none m 0 (take m docs ++ d ∷ []) (λ y. ap (λ l. is_one m (above_in (slice_get l y))) (sym front_more) ∙ not_yet y)

  same_front : (x : ℕ) (d2 : DocNode) → is_one x d.parent ≡ false → node_of docs (take m docs) x d2 ≡ node_of docs (take m docs ++ d ∷ []) x d2
  same_front x d2 other =
      ap (λ (l : List ℕ). record (node_of docs (take m docs) x d2) { children = l })
      (sym (numbers_push x 0 (take m docs) d ∙ ap (λ b. numbers_in x 0 (take m docs) ++ cond b ((0 + length (take m docs)) ∷ []) []) other ∙ append-nil (numbers_in x 0 (take m docs))))

  with_child : (d2 : DocNode) → with_children (at_end m) (node_of docs (take m docs) p d2) ≡ node_of docs (take m docs ++ d ∷ []) p d2
  with_child d2 =
      ap (λ (l : List ℕ). record (node_of docs (take m docs) p d2) { children = l })
      (sym (numbers_push p 0 (take m docs) d ∙ ap (λ o. numbers_in p 0 (take m docs) ++ cond (is_one p o) ((0 + length (take m docs)) ∷ []) []) above_is
      ∙ ap (λ b. numbers_in p 0 (take m docs) ++ cond b ((0 + length (take m docs)) ∷ []) []) (eq-eqb p p refl)
      ∙ ap (λ n. numbers_in p 0 (take m docs) ++ n ∷ []) (zero-add (length (take m docs)) ∙ front_length)))

  after_is : appended p m (read ++ made_of docs m d ∷ []) ≡ changed (with_parent (Some p)) m (changed (with_children (at_end m)) p (read ++ made_of docs m d ∷ []))
  after_is = ap (λ o. changed (with_parent (Some p)) m (changed (with_children (at_end m)) p (left_at m o (read ++ made_of docs m d ∷ [])))) (ap parent_in last)

  at_new : slice_get (appended p m (read ++ made_of docs m d ∷ [])) m ≡ Some (node_of docs (take m docs ++ d ∷ []) m d)
  at_new =
      ap (λ l. slice_get l m) after_is
      ∙ at_changed (with_parent (Some p)) m (changed (with_children (at_end m)) p (read ++ made_of docs m d ∷ []))
      ∙ ap (option_map (with_parent (Some p))) (beside_changed (with_children (at_end m)) p (read ++ made_of docs m d ∷ []) m apart ∙ last)
      ∙ ap (λ (o : Option ℕ). Some (with_parent o (made_of docs m d))) (sym above_is)
      ∙ ap (λ (l : List ℕ). Some (record (with_parent d.parent (made_of docs m d)) { children = l })) (sym none_below)

  at_old : (x : ℕ) → x ≢ m → slice_get (appended p m (read ++ made_of docs m d ∷ [])) x ≡ slice_get (changed (with_children (at_end m)) p (read ++ made_of docs m d ∷ [])) x
  at_old x other = ap (λ l. slice_get l x) after_is ∙ beside_changed (with_parent (Some p)) m (changed (with_children (at_end m)) p (read ++ made_of docs m d ∷ [])) x (λ is. other (sym is))

  at_parent : slice_get (appended p m (read ++ made_of docs m d ∷ [])) p ≡ option_map (node_of docs (take m docs ++ d ∷ []) p) (slice_get (take m docs ++ d ∷ []) p)
  at_parent =
      at_old p apart ∙ at_changed (with_children (at_end m)) p (read ++ made_of docs m d ∷ [])
      ∙ ap (option_map (with_children (at_end m))) (before p parent_below.0 ∙ front.each p)
      ∙ map_twice (with_children (at_end m)) (node_of docs (take m docs) p) (node_of docs (take m docs ++ d ∷ []) p) with_child (slice_get (take m docs) p)
      ∙ ap (option_map (node_of docs (take m docs ++ d ∷ []) p)) (sym (get_push (take m docs) d p (let e = front_length in let less : p < m = parent_below.0 in omega arith)))

  at_other : (x : ℕ) → x ≢ p → x < m → slice_get (appended p m (read ++ made_of docs m d ∷ [])) x ≡ option_map (node_of docs (take m docs ++ d ∷ []) x) (slice_get (take m docs ++ d ∷ []) x)
  at_other x other less =
      let other_parent : is_one x d.parent ≡ false = ap (is_one x) above_is ∙ unequal p x (λ is. other (sym is)) in
      at_old x (λ is. absurd (omega arith)) ∙ beside_changed (with_children (at_end m)) p (read ++ made_of docs m d ∷ []) x (λ is. other (sym is))
      ∙ before x less ∙ front.each x
      ∙ map_same (node_of docs (take m docs) x) (node_of docs (take m docs ++ d ∷ []) x) (λ d2. same_front x d2 other_parent) (slice_get (take m docs) x)
      ∙ ap (option_map (node_of docs (take m docs ++ d ∷ []) x)) (sym (get_push (take m docs) d x (let e = front_length in omega arith)))

  after_length : length (appended p m (read ++ made_of docs m d ∷ [])) ≡ m + 1
  after_length =
      ap length after_is ∙ length_changed (with_parent (Some p)) m (changed (with_children (at_end m)) p (read ++ made_of docs m d ∷ []))
      ∙ length_changed (with_children (at_end m)) p (read ++ made_of docs m d ∷ []) ∙ length-append read (made_of docs m d ∷ []) ∙ ap (λ n. n + 1) read_length

  front_length_more : length (take m docs ++ d ∷ []) ≡ m + 1
  front_length_more = length-append (take m docs) (d ∷ []) ∙ ap (λ n. n + 1) front_length

  each_more : (x : ℕ) → slice_get (appended p m (read ++ made_of docs m d ∷ [])) x ≡ option_map (node_of docs (take m docs ++ d ∷ []) x) (slice_get (take m docs ++ d ∷ []) x)
  each_more x =
      ⊎_elim
      (λ is.
      subst (λ v. slice_get (appended p m (read ++ made_of docs m d ∷ [])) v ≡ option_map (node_of docs (take m docs ++ d ∷ []) v) (slice_get (take m docs ++ d ∷ []) v)) (sym is)
      (at_new ∙ ap (option_map (node_of docs (take m docs ++ d ∷ []) m)) (sym (ap (slice_get (take m docs ++ d ∷ [])) (sym front_length) ∙ get_last (take m docs) d))))
      (λ rest.
      ⊎_elim
      (λ less.
      ⊎_elim
      (λ is.
      subst (λ v. slice_get (appended p m (read ++ made_of docs m d ∷ [])) v ≡ option_map (node_of docs (take m docs ++ d ∷ []) v) (slice_get (take m docs ++ d ∷ []) v)) (sym is) at_parent)
      (λ other. at_other x other less)
      (cases_eq x p))
      (λ past.
      let e = after_length in
      let f = front_length_more in
      slice_get_past (appended p m (read ++ made_of docs m d ∷ [])) x (omega arith)
      ∙ ap (option_map (node_of docs (take m docs ++ d ∷ []) x)) (sym (slice_get_past (take m docs ++ d ∷ []) x (omega arith))))
      rest)
      (cases_order x m)

  pub front_fits : IsFront docs (take (m + 1) docs) (appended p m (read ++ made_of docs m d ∷ []))
  front_fits = subst (λ l. IsFront docs l (appended p m (read ++ made_of docs m d ∷ []))) (sym front_more) (record { count = after_length ∙ sym front_length_more; each = each_more })
