-- Links that are changed where a child is taken out or put in.
use Rattle.std.proofs.Common.{◌≡◌, ◌≢◌, ℕ, zero, suc, ◌+◌, ◌-◌, ◌<◌, ◌≤◌, ◌==◌, true, false, cond, List, [], ◌∷◌, ◌++◌, length, map, get_or, Option, Some, None, IfSome, refl, sym, ap, subst, ◌∙◌, ◌⊎◌, inl, inr, arith, eq-eqb, ⊎_elim, append-nil}
use Rattle.std.proofs.lemmas.Bool.{cases_eq, cases_Bool, cond-true, cond-false, eqb-true, false≢true}
use Rattle.std.specs.List.{slice_get}
use Rattle.std.specs.Option.{option_map}
use Rattle.dom_tree.specs.Node.{DomNode}
use Rattle.dom_tree.specs.Nodes.{parent_in, children_in, parent_of, children_of, is_one, is_child, times, Fits}
use Rattle.dom_tree.specs.Changes.{changed, with_parent, with_children, without, at_end, put_before, left_at, left, placed, appended, removed, would_cycle}
use Rattle.dom_tree.specs.Order.{first_child, last_child, next_sibling, previous_sibling, children_under, next_in, previous_in}
use Rattle.dom_tree.specs.declared.parts.NodeData.{NodeData}
use Rattle.dom_tree.specs.inner.Kept.{link_in, first_link, last_link, next_link, previous_link, nodes_of, bare, emptied, Keeps, IsLinked, with_first, with_last, with_next, with_previous, with_place, side_set, followed, preceded, taken_out, put_between}
use Rattle.dom_tree.proofs.Items.{length_changed, beside_changed, at_changed, changed_twice, changed_same}
use Rattle.dom_tree.proofs.Points.{children_set, children_beside, parent_set, parent_kept, parent_left, length_left}
use Rattle.dom_tree.proofs.Moved.{removed_fits}
use Rattle.dom_tree.proofs.Walks.{inside_from}
use Rattle.dom_tree.proofs.Kept.{map_changed, map_kept, link_beside, link_stays, link_set, once_each, parent_of_child, kept_length, nodes_are, linked_is, nodes_length}
use Rattle.dom_tree.proofs.Sides.{Cut, Step, last_of, next_from, previous_from, first_stands, last_stands, taken_step, put_step, next_of, previous_of, cut, without_cut, before_cut, times_append}

same_option : (a b : Option ℕ) → (a ≡ b) ⊎ (a ≡ b → ⊥)
same_option None None = inl refl
same_option None (Some y) = inr (λ is. absurd cc)
same_option (Some x) None = inr (λ is. absurd cc)
same_option (Some x) (Some y) = ⊎_elim (λ is. inl (ap Some is)) (λ apart. inr (λ is. let e : x ≡ y = cc in apart e)) (cases_eq x y)

some_same : (x y : ℕ) → Some x ≡ Some y → x ≡ y
some_same x y is = cc

none_some : {P : Type 0} (x : ℕ) → None ≡ Some x → P
none_some x is = absurd cc

-- ---- one side's links

module _ (of_parent of_child : NodeData → NodeData) (end beside : NodeData → Option ℕ) (v : Option ℕ) (ends : (d : NodeData) → end (of_parent d) ≡ v) (besides : (d : NodeData) → beside (of_child d) ≡ v)
    (end_stays : (d : NodeData) → end (of_child d) ≡ end d) (beside_stays : (d : NodeData) → beside (of_parent d) ≡ beside d) (kept : List NodeData) (q : ℕ) where
  pub beside_set : (at : Option ℕ) (x : ℕ) → x < length kept → at ≡ Some x → link_in beside (slice_get (side_set of_parent of_child q at kept) x) ≡ v
  beside_set None x inside is = none_some x is
  beside_set (Some y) x inside is =
      subst (λ w. link_in beside (slice_get (changed of_child w kept) x) ≡ v) (sym (some_same y x is)) (link_set beside of_child x kept v inside besides)

  pub beside_other : (at : Option ℕ) (x : ℕ) → (at ≡ Some x → ⊥) → link_in beside (slice_get (side_set of_parent of_child q at kept) x) ≡ link_in beside (slice_get kept x)
  beside_other None x other = link_stays beside of_parent q kept beside_stays x
  beside_other (Some y) x other = link_beside beside of_child y kept x (λ is. other (ap Some is))

  pub end_set : (at : Option ℕ) → q < length kept → at ≡ None → link_in end (slice_get (side_set of_parent of_child q at kept) q) ≡ v
  end_set None inside is = link_set end of_parent q kept v inside ends
  end_set (Some y) inside is = none_some y (sym is)

  pub end_other : (at : Option ℕ) (r : ℕ) → (at ≡ None → q ≡ r → ⊥) → link_in end (slice_get (side_set of_parent of_child q at kept) r) ≡ link_in end (slice_get kept r)
  end_other None r other = link_beside end of_parent q kept r (λ is. other refl is)
  end_other (Some y) r other = link_stays end of_child y kept end_stays r

module _ (of_parent of_child : NodeData → NodeData) (link : NodeData → Option ℕ) (parents : (d : NodeData) → link (of_parent d) ≡ link d) (children : (d : NodeData) → link (of_child d) ≡ link d)
    (kept : List NodeData) (q : ℕ) where
  pub link_kept : (at : Option ℕ) (x : ℕ) → link_in link (slice_get (side_set of_parent of_child q at kept) x) ≡ link_in link (slice_get kept x)
  link_kept None x = link_stays link of_parent q kept parents x
  link_kept (Some y) x = link_stays link of_child y kept children x

module _ (of_parent of_child : NodeData → NodeData) (parents : (d : NodeData) → bare (of_parent d) ≡ bare d) (children : (d : NodeData) → bare (of_child d) ≡ bare d) (kept : List NodeData) (q : ℕ) where
  pub side_bare : (at : Option ℕ) → map bare (side_set of_parent of_child q at kept) ≡ map bare kept
  side_bare None = map_kept bare of_parent parents q kept
  side_bare (Some y) = map_kept bare of_child children y kept

  pub side_length : (at : Option ℕ) → length (side_set of_parent of_child q at kept) ≡ length kept
  side_length None = length_changed of_parent q kept
  side_length (Some y) = length_changed of_child y kept

-- what stands at one side of each number, in its parent's list
module _ (from : List ℕ → Option ℕ → Option ℕ) (from_nil : (x : ℕ) → from [] (Some x) ≡ None) (nodes after : List DomNode) (q c : ℕ) (around v t : Option ℕ)
    (is : from (children_of after q) around ≡ v)
    (stays : (a : Option ℕ) → (around ≡ a → ⊥) → (a ≡ Some c → ⊥) → from (children_of after q) a ≡ from (children_of nodes q) a)
    (around_in : (x : ℕ) → around ≡ Some x → parent_of nodes x ≡ Some q)
    (others : (x : ℕ) → q ≢ x → children_of after x ≡ children_of nodes x)
    (parents : (x : ℕ) → c ≢ x → parent_of after x ≡ parent_of nodes x) where
  child_at_side : (x : ℕ) → c ≢ x → around ≡ Some x → from (children_under after (parent_of after x)) (Some x) ≡ v
  child_at_side x apart here = ap (λ o. from (children_under after o) (Some x)) (parents x apart ∙ around_in x here) ∙ ap (from (children_of after q)) (sym here) ∙ is

  child_from : (x : ℕ) → c ≢ x → (around ≡ Some x → ⊥) → (o : Option ℕ) → from (children_under after o) (Some x) ≡ from (children_under nodes o) (Some x)
  child_from x apart other None = refl
  child_from x apart other (Some r) =
      ⊎_elim
      (λ same. subst (λ w. from (children_of after w) (Some x) ≡ from (children_of nodes w) (Some x)) same (stays (Some x) other (λ e. apart (sym (some_same x c e)))))
      (λ differ. ap (λ l. from l (Some x)) (others r differ))
      (cases_eq q r)

  child_else : (x : ℕ) → c ≢ x → (around ≡ Some x → ⊥) → from (children_under after (parent_of after x)) (Some x) ≡ from (children_under nodes (parent_of nodes x)) (Some x)
  child_else x apart other = ap (λ o. from (children_under after o) (Some x)) (parents x apart) ∙ child_from x apart other (parent_of nodes x)

  end_at_side : around ≡ None → from (children_of after q) None ≡ v
  end_at_side none = ap (from (children_of after q)) (sym none) ∙ is

  end_else : (r : ℕ) → (around ≡ None → q ≡ r → ⊥) → from (children_of after r) None ≡ from (children_of nodes r) None
  end_else r other =
      ⊎_elim
      (λ same. subst (λ w. from (children_of after w) None ≡ from (children_of nodes w) None) same (stays None (λ none. other none same) (λ e. none_some c e)))
      (λ differ. ap (λ l. from l None) (others r differ))
      (cases_eq q r)

  -- the links of what is kept, where they are those of the nodes before
  module _ (end beside : NodeData → Option ℕ) (kept kept' : List NodeData)
      (old_child : (x : ℕ) → link_in beside (slice_get kept x) ≡ from (children_under nodes (parent_of nodes x)) (Some x))
      (old_end : (r : ℕ) → link_in end (slice_get kept r) ≡ from (children_of nodes r) None)
      (new_c : link_in beside (slice_get kept' c) ≡ from (children_under after (parent_of after c)) (Some c))
      (new_here : (x : ℕ) → c ≢ x → around ≡ Some x → link_in beside (slice_get kept' x) ≡ v)
      (new_else : (x : ℕ) → c ≢ x → (around ≡ Some x → ⊥) → link_in beside (slice_get kept' x) ≡ link_in beside (slice_get kept x))
      (new_end : around ≡ None → link_in end (slice_get kept' q) ≡ v)
      (new_end_else : (r : ℕ) → (around ≡ None → q ≡ r → ⊥) → link_in end (slice_get kept' r) ≡ link_in end (slice_get kept r)) where
    pub child_linked : (x : ℕ) → link_in beside (slice_get kept' x) ≡ from (children_under after (parent_of after x)) (Some x)
    child_linked x =
        ⊎_elim
        (λ same. subst (λ w. link_in beside (slice_get kept' w) ≡ from (children_under after (parent_of after w)) (Some w)) same new_c)
        (λ apart.
        ⊎_elim
        (λ here. new_here x apart here ∙ sym (child_at_side x apart here))
        (λ other. new_else x apart other ∙ old_child x ∙ sym (child_else x apart other))
        (same_option around (Some x)))
        (cases_eq c x)

    pub end_linked : (r : ℕ) → link_in end (slice_get kept' r) ≡ from (children_of after r) None
    end_linked r =
        ⊎_elim
        (λ none.
        ⊎_elim
        (λ same. subst (λ w. link_in end (slice_get kept' w) ≡ from (children_of after w) None) same (new_end none ∙ sym (end_at_side none)))
        (λ differ. new_end_else r (λ _ e. differ e) ∙ old_end r ∙ sym (end_else r (λ _ e. differ e)))
        (cases_eq q r))
        (λ some. new_end_else r (λ e _. some e) ∙ old_end r ∙ sym (end_else r (λ e _. some e)))
        (same_option around None)

next_nil : (x : ℕ) → next_from [] (Some x) ≡ None
next_nil x = refl

previous_nil : (x : ℕ) → previous_from [] (Some x) ≡ None
previous_nil x = refl

-- ---- both sides' links, and the place of a child

module _ (nodes after : List DomNode) (kept : List NodeData) (fits : Fits nodes) (fits_after : Fits after) (keeps : Keeps nodes kept) (q c : ℕ) (before behind v w t previous next : Option ℕ)
    (q_there : q < length kept) (c_there : c < length kept)
    (step : Step c before behind v w (children_of nodes q) (children_of after q))
    (before_in : (x : ℕ) → before ≡ Some x → parent_of nodes x ≡ Some q)
    (behind_in : (x : ℕ) → behind ≡ Some x → parent_of nodes x ≡ Some q)
    (others : (x : ℕ) → q ≢ x → children_of after x ≡ children_of nodes x)
    (parents : (x : ℕ) → c ≢ x → parent_of after x ≡ parent_of nodes x)
    (next_is : next_sibling after c ≡ next) (previous_is : previous_sibling after c ≡ previous)
    (same_after : map emptied after ≡ changed (with_parent t) c (map emptied nodes)) where
  one : List NodeData
  one = followed q before v kept

  two : List NodeData
  unfolding one
  two = preceded q behind w one

  abbrev pub linked_so : List NodeData
  linked_so = changed (with_place t previous next) c (preceded q behind w (followed q before v kept))

  one_length : length one ≡ length kept
  unfolding one
  one_length = side_length (with_first v) (with_next v) (λ d. refl) (λ d. refl) kept q before

  two_length : length two ≡ length kept
  unfolding two
  two_length = side_length (with_last w) (with_previous w) (λ d. refl) (λ d. refl) one q behind ∙ one_length

  inside : (x : ℕ) → parent_of nodes x ≡ Some q → x < length kept
  inside x is = subst (λ n. x < n) (sym (kept_length nodes kept fits keeps)) (inside_from nodes x q is)

  same_new : map bare linked_so ≡ map emptied after
  unfolding one two
  same_new =
      map_changed bare (with_place t previous next) (with_parent t) (λ d. refl) c two
      ∙ ap (changed (with_parent t) c)
      (side_bare (with_last w) (with_previous w) (λ d. refl) (λ d. refl) one q behind ∙ side_bare (with_first v) (with_next v) (λ d. refl) (λ d. refl) kept q before ∙ keeps.same)
      ∙ sym same_after

  -- a link to the next ones and to the first, past the other changes
  next_past : (x : ℕ) → c ≢ x → next_link linked_so x ≡ next_link one x
  unfolding one two
  next_past x apart =
      link_beside (λ d. d.links.next) (with_place t previous next) c two x apart
      ∙ link_kept (with_last w) (with_previous w) (λ d. d.links.next) (λ d. refl) (λ d. refl) one q behind x

  first_past : (x : ℕ) → first_link linked_so x ≡ first_link one x
  unfolding one two
  first_past x =
      link_stays (λ d. d.links.first) (with_place t previous next) c two (λ d. refl) x
      ∙ link_kept (with_last w) (with_previous w) (λ d. d.links.first) (λ d. refl) (λ d. refl) one q behind x

  previous_past : (x : ℕ) → c ≢ x → previous_link linked_so x ≡ previous_link two x
  unfolding one two
  previous_past x apart = link_beside (λ d. d.links.previous) (with_place t previous next) c two x apart

  last_past : (x : ℕ) → last_link linked_so x ≡ last_link two x
  unfolding one two
  last_past x = link_stays (λ d. d.links.last) (with_place t previous next) c two (λ d. refl) x

  previous_one : (x : ℕ) → previous_link one x ≡ previous_link kept x
  unfolding one
  previous_one x = link_kept (with_first v) (with_next v) (λ d. d.links.previous) (λ d. refl) (λ d. refl) kept q before x

  last_one : (x : ℕ) → last_link one x ≡ last_link kept x
  unfolding one
  last_one x = link_kept (with_first v) (with_next v) (λ d. d.links.last) (λ d. refl) (λ d. refl) kept q before x

  next_c : next_link linked_so c ≡ next_sibling after c
  unfolding one two
  next_c = link_set (λ d. d.links.next) (with_place t previous next) c two next (subst (λ n. c < n) (sym two_length) c_there) (λ d. refl) ∙ sym next_is

  previous_c : previous_link linked_so c ≡ previous_sibling after c
  unfolding one two
  previous_c = link_set (λ d. d.links.previous) (with_place t previous next) c two previous (subst (λ n. c < n) (sym two_length) c_there) (λ d. refl) ∙ sym previous_is

  next_new_here : (x : ℕ) → c ≢ x → before ≡ Some x → next_link linked_so x ≡ v
  unfolding one
  next_new_here x apart here =
      next_past x apart ∙ beside_set (with_first v) (with_next v) (λ d. d.links.first) (λ d. d.links.next) v (λ d. refl) (λ d. refl) (λ d. refl) (λ d. refl) kept q before x (inside x (before_in x here)) here

  next_new_else : (x : ℕ) → c ≢ x → (before ≡ Some x → ⊥) → next_link linked_so x ≡ next_link kept x
  unfolding one
  next_new_else x apart other =
      next_past x apart ∙ beside_other (with_first v) (with_next v) (λ d. d.links.first) (λ d. d.links.next) v (λ d. refl) (λ d. refl) (λ d. refl) (λ d. refl) kept q before x other

  first_new : before ≡ None → first_link linked_so q ≡ v
  unfolding one
  first_new none =
      first_past q ∙ end_set (with_first v) (with_next v) (λ d. d.links.first) (λ d. d.links.next) v (λ d. refl) (λ d. refl) (λ d. refl) (λ d. refl) kept q before q_there none

  first_new_else : (r : ℕ) → (before ≡ None → q ≡ r → ⊥) → first_link linked_so r ≡ first_link kept r
  unfolding one
  first_new_else r other =
      first_past r ∙ end_other (with_first v) (with_next v) (λ d. d.links.first) (λ d. d.links.next) v (λ d. refl) (λ d. refl) (λ d. refl) (λ d. refl) kept q before r other

  previous_new_here : (x : ℕ) → c ≢ x → behind ≡ Some x → previous_link linked_so x ≡ w
  unfolding two
  previous_new_here x apart here =
      previous_past x apart
      ∙ beside_set (with_last w) (with_previous w) (λ d. d.links.last) (λ d. d.links.previous) w (λ d. refl) (λ d. refl) (λ d. refl) (λ d. refl) one q behind x
      (subst (λ n. x < n) (sym one_length) (inside x (behind_in x here))) here

  previous_new_else : (x : ℕ) → c ≢ x → (behind ≡ Some x → ⊥) → previous_link linked_so x ≡ previous_link kept x
  unfolding two
  previous_new_else x apart other =
      previous_past x apart
      ∙ beside_other (with_last w) (with_previous w) (λ d. d.links.last) (λ d. d.links.previous) w (λ d. refl) (λ d. refl) (λ d. refl) (λ d. refl) one q behind x other
      ∙ previous_one x

  last_new : behind ≡ None → last_link linked_so q ≡ w
  unfolding two
  last_new none =
      last_past q
      ∙ end_set (with_last w) (with_previous w) (λ d. d.links.last) (λ d. d.links.previous) w (λ d. refl) (λ d. refl) (λ d. refl) (λ d. refl) one q behind (subst (λ n. q < n) (sym one_length) q_there) none

  last_new_else : (r : ℕ) → (behind ≡ None → q ≡ r → ⊥) → last_link linked_so r ≡ last_link kept r
  unfolding two
  last_new_else r other =
      last_past r ∙ end_other (with_last w) (with_previous w) (λ d. d.links.last) (λ d. d.links.previous) w (λ d. refl) (λ d. refl) (λ d. refl) (λ d. refl) one q behind r other ∙ last_one r

  keeps_new : Keeps after linked_so
  keeps_new = record {
    same = same_new;
    first = end_linked next_from next_nil nodes after q c before v t step.next_is step.next_stays before_in others parents (λ d. d.links.first) (λ d. d.links.next) kept linked_so keeps.next keeps.first
        next_c next_new_here next_new_else first_new first_new_else;
    last = end_linked previous_from previous_nil nodes after q c behind w t step.previous_is step.previous_stays behind_in others parents (λ d. d.links.last) (λ d. d.links.previous) kept linked_so keeps.previous keeps.last
        previous_c previous_new_here previous_new_else last_new last_new_else;
    next = child_linked next_from next_nil nodes after q c before v t step.next_is step.next_stays before_in others parents (λ d. d.links.first) (λ d. d.links.next) kept linked_so keeps.next keeps.first
        next_c next_new_here next_new_else first_new first_new_else;
    previous = child_linked previous_from previous_nil nodes after q c behind w t step.previous_is step.previous_stays behind_in others parents (λ d. d.links.last) (λ d. d.links.previous) kept linked_so keeps.previous keeps.last
        previous_c previous_new_here previous_new_else last_new last_new_else;
  }

  pub linked_after : (nodes_of linked_so ≡ after) × IsLinked linked_so
  linked_after = (nodes_are after linked_so fits_after keeps_new, linked_is after linked_so fits_after keeps_new)

-- ---- a child is taken out

emptied_parent : (t : Option ℕ) (c : ℕ) (nodes : List DomNode) → map emptied (changed (with_parent t) c nodes) ≡ changed (with_parent t) c (map emptied nodes)
emptied_parent t c nodes = map_changed emptied (with_parent t) (with_parent t) (λ node. refl) c nodes

emptied_children : (f : List ℕ → List ℕ) (q : ℕ) (nodes : List DomNode) → map emptied (changed (with_children f) q nodes) ≡ map emptied nodes
emptied_children f q nodes = map_kept emptied (with_children f) (λ node. refl) q nodes

emptied_left : (c : ℕ) (o : Option ℕ) (nodes : List DomNode) → map emptied (left_at c o nodes) ≡ map emptied nodes
emptied_left c None nodes = refl
emptied_left c (Some q) nodes = emptied_children (without c) q nodes

one_of_all : (xs : List ℕ) (y : ℕ) (l : List ℕ) → 1 ≤ times y l → times y xs ≡ times y l → 1 ≤ times y xs
one_of_all xs y l some is = subst (λ n. 1 ≤ n) (sym is) some

module _ (nodes : List DomNode) (kept : List NodeData) (fits : Fits nodes) (keeps : Keeps nodes kept) (c q : ℕ) (c_there : c < length kept) (above : parent_of nodes c ≡ Some q) where
  c_in : c < length nodes
  c_in = subst (λ n. c < n) (kept_length nodes kept fits keeps) c_there

  q_in : q < length nodes
  q_in = (fits.parents c q above).0

  once : times c (children_of nodes q) ≡ 1
  once = fits.children q c ∙ ap (λ o. cond (is_one q o) 1 0) above ∙ ap (λ b. cond b 1 0) (eq-eqb q q refl)

  left_is : left c nodes ≡ changed (with_children (without c)) q nodes
  left_is = ap (λ o. left_at c o nodes) above

  removed_children : (x : ℕ) → children_of (removed c nodes) x ≡ children_of (changed (with_children (without c)) q nodes) x
  removed_children x = children_beside None c (left c nodes) x ∙ ap (λ l. children_of l x) left_is

  removed_parent : parent_of (removed c nodes) c ≡ None
  removed_parent = parent_set None c (left c nodes) (subst (λ n. c < n) (sym (length_left c (parent_of nodes c) nodes)) c_in)

  module _ (k : Cut c (children_of nodes q)) where
    now_is : children_of (removed c nodes) q ≡ k.front ++ k.back
    now_is = removed_children q ∙ children_set (without c) q nodes q_in ∙ ap (without c) k.is ∙ without_cut c k.front k.back k.none_front k.none_back

    once_all : (y : ℕ) → times y (k.front ++ c ∷ k.back) ≤ 1
    once_all y = subst (λ l. times y l ≤ 1) k.is (once_each nodes fits q y)

    pub previous_at : previous_sibling nodes c ≡ last_of k.front
    previous_at = ap (λ o. previous_in c (children_under nodes o)) above ∙ ap (previous_in c) k.is ∙ previous_of k.front k.back c once_all

    pub next_at : next_sibling nodes c ≡ slice_get k.back 0
    next_at = ap (λ o. next_in c (children_under nodes o)) above ∙ ap (next_in c) k.is ∙ next_of k.front k.back c once_all

    in_front : (x : ℕ) → last_of k.front ≡ Some x → parent_of nodes x ≡ Some q
    in_front x is =
        parent_of_child nodes fits q x
        (let some = last_stands k.front x is in let sum = times_append x k.front (c ∷ k.back) in let whole = ap (times x) k.is in
        let more : times x (c ∷ k.back) ≡ cond (c == x) 1 0 + times x k.back = refl in omega arith)

    in_back : (x : ℕ) → slice_get k.back 0 ≡ Some x → parent_of nodes x ≡ Some q
    in_back x is =
        parent_of_child nodes fits q x
        (let some = first_stands k.back x is in let sum = times_append x k.front (c ∷ k.back) in let whole = ap (times x) k.is in
        let more : times x (c ∷ k.back) ≡ cond (c == x) 1 0 + times x k.back = refl in omega arith)

    out_step : Step c (last_of k.front) (slice_get k.back 0) (slice_get k.back 0) (last_of k.front) (children_of nodes q) (children_of (removed c nodes) q)
    out_step =
        subst (λ l. Step c (last_of k.front) (slice_get k.back 0) (slice_get k.back 0) (last_of k.front) l (children_of (removed c nodes) q)) (sym k.is)
        (subst (λ l. Step c (last_of k.front) (slice_get k.back 0) (slice_get k.back 0) (last_of k.front) (k.front ++ c ∷ k.back) l) (sym now_is) (taken_step k.front k.back c once_all))

    taken_linked : (nodes_of (taken_out q c (last_of k.front) (slice_get k.back 0) kept) ≡ removed c nodes) × IsLinked (taken_out q c (last_of k.front) (slice_get k.back 0) kept)
    taken_linked =
        linked_after nodes (removed c nodes) kept fits (removed_fits nodes fits c c_in) keeps q c (last_of k.front) (slice_get k.back 0) (slice_get k.back 0) (last_of k.front) None None None
        (subst (λ n. q < n) (sym (kept_length nodes kept fits keeps)) q_in) c_there out_step in_front in_back
        (λ x differ. removed_children x ∙ ap (λ o. children_in o) (beside_changed (with_children (without c)) q nodes x differ))
        (λ x apart. ap parent_in (beside_changed (with_parent None) c (left c nodes) x apart) ∙ parent_left c (parent_of nodes c) nodes x)
        (ap (λ o. next_in c (children_under (removed c nodes) o)) removed_parent) (ap (λ o. previous_in c (children_under (removed c nodes) o)) removed_parent)
        (emptied_parent None c (left c nodes) ∙ ap (changed (with_parent None) c) (emptied_left c (parent_of nodes c) nodes))

  -- by the links that the child has
  pub taken_so : (previous next : Option ℕ) → previous ≡ previous_sibling nodes c → next ≡ next_sibling nodes c
      → (nodes_of (taken_out q c previous next kept) ≡ removed c nodes) × IsLinked (taken_out q c previous next kept)
  taken_so previous next previous_is next_is =
      let k = cut c (children_of nodes q) once in
      subst (λ o. (nodes_of (taken_out q c o next kept) ≡ removed c nodes) × IsLinked (taken_out q c o next kept)) (sym (previous_is ∙ previous_at k))
      (subst (λ o. (nodes_of (taken_out q c (last_of k.front) o kept) ≡ removed c nodes) × IsLinked (taken_out q c (last_of k.front) o kept)) (sym (next_is ∙ next_at k)) (taken_linked k))

  -- the links lead to nodes that are there
  pub links_there : (previous next : Option ℕ) → previous ≡ previous_sibling nodes c → next ≡ next_sibling nodes c → IfSome previous (λ x. x < length kept) × IfSome next (λ x. x < length kept)
  links_there previous next previous_is next_is =
      let k = cut c (children_of nodes q) once in
      (within previous (λ x is. in_front k x (sym (previous_is ∙ previous_at k) ∙ is)), within next (λ x is. in_back k x (sym (next_is ∙ next_at k) ∙ is)))
    where
      within : (o : Option ℕ) → ((x : ℕ) → o ≡ Some x → parent_of nodes x ≡ Some q) → IfSome o (λ x. x < length kept)
      within None all = tt
      within (Some x) all = subst (λ n. x < n) (sym (kept_length nodes kept fits keeps)) (inside_from nodes x q (all x refl))

-- ---- a child without a parent is put in

module _ (nodes : List DomNode) (kept : List NodeData) (fits : Fits nodes) (keeps : Keeps nodes kept) (c q : ℕ) (c_there : c < length kept) (q_there : q < length kept) (free : parent_of nodes c ≡ None) where
  c_within : c < length nodes
  c_within = subst (λ n. c < n) (kept_length nodes kept fits keeps) c_there

  q_within : q < length nodes
  q_within = subst (λ n. q < n) (kept_length nodes kept fits keeps) q_there

  placed_is : (place : List ℕ → List ℕ) → placed place q c nodes ≡ changed (with_parent (Some q)) c (changed (with_children place) q nodes)
  placed_is place = ap (λ o. changed (with_parent (Some q)) c (changed (with_children place) q (left_at c o nodes))) free

  absent : times c (children_of nodes q) ≡ 0
  absent = fits.children q c ∙ ap (λ o. cond (is_one q o) 1 0) free

  module _ (place : List ℕ → List ℕ) (front back : List ℕ) (was : children_of nodes q ≡ front ++ back) (becomes : place (children_of nodes q) ≡ front ++ c ∷ back) (fits_after : Fits (placed place q c nodes)) where
    now_children : (x : ℕ) → children_of (placed place q c nodes) x ≡ children_of (changed (with_children place) q nodes) x
    now_children x = ap (λ l. children_of l x) (placed_is place) ∙ children_beside (Some q) c (changed (with_children place) q nodes) x

    now_list : children_of (placed place q c nodes) q ≡ front ++ c ∷ back
    now_list = now_children q ∙ children_set place q nodes q_within ∙ becomes

    now_parent : parent_of (placed place q c nodes) c ≡ Some q
    now_parent =
        ap (λ l. parent_of l c) (placed_is place)
        ∙ parent_set (Some q) c (changed (with_children place) q nodes) (subst (λ n. c < n) (sym (length_changed (with_children place) q nodes)) c_within)

    once_now : (y : ℕ) → times y (front ++ c ∷ back) ≤ 1
    once_now y = subst (λ l. times y l ≤ 1) now_list (once_each (placed place q c nodes) fits_after q y)

    from_front : (x : ℕ) → last_of front ≡ Some x → parent_of nodes x ≡ Some q
    from_front x is =
        parent_of_child nodes fits q x (let some = last_stands front x is in let sum = times_append x front back in let whole = ap (times x) was in omega arith)

    from_back : (x : ℕ) → slice_get back 0 ≡ Some x → parent_of nodes x ≡ Some q
    from_back x is =
        parent_of_child nodes fits q x (let some = first_stands back x is in let sum = times_append x front back in let whole = ap (times x) was in omega arith)

    in_step : Step c (last_of front) (slice_get back 0) (Some c) (Some c) (children_of nodes q) (children_of (placed place q c nodes) q)
    in_step =
        subst (λ l. Step c (last_of front) (slice_get back 0) (Some c) (Some c) l (children_of (placed place q c nodes) q)) (sym was)
        (subst (λ l. Step c (last_of front) (slice_get back 0) (Some c) (Some c) (front ++ back) l) (sym now_list) (put_step front back c once_now))

    put_linked : (nodes_of (put_between q c (last_of front) (slice_get back 0) kept) ≡ placed place q c nodes) × IsLinked (put_between q c (last_of front) (slice_get back 0) kept)
    put_linked =
        linked_after nodes (placed place q c nodes) kept fits fits_after keeps q c (last_of front) (slice_get back 0) (Some c) (Some c) (Some q) (last_of front) (slice_get back 0)
        q_there c_there in_step from_front from_back
        (λ x differ. now_children x ∙ ap (λ o. children_in o) (beside_changed (with_children place) q nodes x differ))
        (λ x apart. ap (λ l. parent_of l x) (placed_is place) ∙ ap parent_in (beside_changed (with_parent (Some q)) c (changed (with_children place) q nodes) x apart) ∙ parent_kept place q nodes x)
        (ap (λ o. next_in c (children_under (placed place q c nodes) o)) now_parent ∙ ap (next_in c) now_list ∙ next_of front back c once_now)
        (ap (λ o. previous_in c (children_under (placed place q c nodes) o)) now_parent ∙ ap (previous_in c) now_list ∙ previous_of front back c once_now)
        (ap (map emptied) (placed_is place) ∙ emptied_parent (Some q) c (changed (with_children place) q nodes) ∙ ap (changed (with_parent (Some q)) c) (emptied_children place q nodes))

  -- behind the last child
  pub put_last : Fits (appended q c nodes) → (last : Option ℕ) → last ≡ last_child nodes q
      → (nodes_of (put_between q c last None kept) ≡ appended q c nodes) × IsLinked (put_between q c last None kept)
  put_last fits_after last is =
      subst (λ o. (nodes_of (put_between q c o None kept) ≡ appended q c nodes) × IsLinked (put_between q c o None kept)) (sym is)
      (put_linked (at_end c) (children_of nodes q) [] (sym (append-nil (children_of nodes q))) refl fits_after)

  pub last_there : (last : Option ℕ) → last ≡ last_child nodes q → IfSome last (λ x. x < length kept)
  last_there None is = tt
  last_there (Some x) is =
      subst (λ n. x < n) (sym (kept_length nodes kept fits keeps)) (inside_from nodes x q (parent_of_child nodes fits q x (last_stands (children_of nodes q) x (sym is))))

  -- in front of a child
  module _ (b : ℕ) (child : is_child nodes q b ≡ true) where
    once_b : times b (children_of nodes q) ≡ 1
    once_b = fits.children q b ∙ ap (λ b. cond b 1 0) child

    above_b : parent_of nodes b ≡ Some q
    above_b = parent_of_child nodes fits q b (let e = once_b in omega arith)

    pub before_there : b < length kept
    before_there = subst (λ n. b < n) (sym (kept_length nodes kept fits keeps)) (inside_from nodes b q above_b)

    pub put_before_it : Fits (placed (put_before b c) q c nodes) → (previous : Option ℕ) → previous ≡ previous_sibling nodes b
        → (nodes_of (put_between q c previous (Some b) kept) ≡ placed (put_before b c) q c nodes) × IsLinked (put_between q c previous (Some b) kept)
    put_before_it fits_after previous is =
        let k = cut b (children_of nodes q) once_b in
        let p : previous ≡ last_of k.front = is ∙ previous_at nodes kept fits keeps b q before_there above_b k in
        subst (λ o. (nodes_of (put_between q c o (Some b) kept) ≡ placed (put_before b c) q c nodes) × IsLinked (put_between q c o (Some b) kept)) (sym p)
        (put_linked (put_before b c) k.front (b ∷ k.back) k.is (ap (put_before b c) k.is ∙ before_cut b c k.front k.back k.none_front) fits_after)

    pub previous_there : (previous : Option ℕ) → previous ≡ previous_sibling nodes b → IfSome previous (λ x. x < length kept)
    previous_there previous is = (links_there nodes kept fits keeps b q before_there above_b previous (next_sibling nodes b) is refl).0
