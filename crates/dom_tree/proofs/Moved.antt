-- Nodes that fit still fit behind a move.
use Rattle.std.proofs.Common.{◌≡◌, ◌≢◌, ℕ, zero, suc, ◌+◌, ◌<◌, ◌==◌, ◌||◌, Bool, true, false, cond, List, [], ◌∷◌, length, Option, Some, None, refl, sym, ap, subst, ◌∙◌, arith, eq-eqb, ⊎_elim, zero-add, add-zero}
use Rattle.std.proofs.lemmas.Bool.{cases_eq, cases_lt, eqb-false, false≢true}
use Rattle.std.proofs.lemmas.Option.{slice_get_past}
use Rattle.std.specs.List.{slice_get, list_any}
use Rattle.dom_tree.specs.Names.{keeps_value_in}
use Rattle.dom_tree.specs.Nodes.{parent_in, children_in, is_document_in, has_value_in, parent_of, children_of, is_text, is_one, is_child, times, way_up, Ends, ancestors, Fits}
use Rattle.dom_tree.specs.Changes.{changed, with_parent, with_children, at_end, put_before, left, left_at, placed, appended, removed, would_cycle}
use Rattle.dom_tree.specs.Node.{DomNode}
use Rattle.std.specs.Option.{option_map}
use Rattle.dom_tree.proofs.Items.{length_changed, beside_changed, changed_same, changed_apart, changed_twice}
use Rattle.dom_tree.proofs.Kids.{times_at_end, times_before, unequal}
use Rattle.dom_tree.proofs.Ways.{Ends_none, Ends_within, way_step, stays, joins, or_left, or_right}
use Rattle.dom_tree.proofs.Points.{parent_kept, text_kept, children_beside, text_beside, parent_set, children_set, parent_left, text_left, length_left, gone, stay, documents_placed, documents_removed, values_placed, values_removed}

none_some : (q : ℕ) → None ≡ Some q → ⊥
none_some q is = cc

-- there is a document, so there is a node
some_node : (nodes : List DomNode) → is_document_in (slice_get nodes 0) ≡ true → 0 < length nodes
some_node [] is = absurd (false≢true is)
some_node (node ∷ nodes) is = omega arith

ends_alone : (above : ℕ → Option ℕ) (n x : ℕ) → 0 < n → above x ≡ None → Ends above n (Some x)
ends_alone above zero x some none = absurd (omega arith)
ends_alone above (suc n) x some none = subst (Ends above n) (sym none) (Ends_none above n)

module _ (nodes after : List DomNode) (c : ℕ) (t : Option ℕ) (fits : Fits nodes)
    (length_is : length after ≡ length nodes)
    (texts : (x : ℕ) → is_text after x ≡ is_text nodes x)
    (documents : (x : ℕ) → is_document_in (slice_get after x) ≡ is_document_in (slice_get nodes x))
    (values_are : (x : ℕ) → has_value_in (slice_get after x) ≡ keeps_value_in (slice_get after x))
    (top_is : parent_of after 0 ≡ None)
    (here : parent_of after c ≡ t)
    (others : (x : ℕ) → x ≢ c → parent_of after x ≡ parent_of nodes x)
    (mine : (x : ℕ) → times c (children_of after x) ≡ cond (is_one x t) 1 0)
    (theirs : (x y : ℕ) → y ≢ c → times y (children_of after x) ≡ times y (children_of nodes x))
    (target : (p : ℕ) → t ≡ Some p → (p < length nodes) × (is_text nodes p ≡ false))
    (way : (m : ℕ) × Ends (parent_of after) m t) where
  agree : (x y : ℕ) → times y (children_of after x) ≡ cond (is_child after x y) 1 0
  agree x y =
      ⊎_elim
      (λ is. subst (λ v. times v (children_of after x) ≡ cond (is_one x (parent_of after v)) 1 0) (sym is) (mine x ∙ ap (λ o. cond (is_one x o) 1 0) (sym here)))
      (λ apart. theirs x y apart ∙ fits.children x y ∙ ap (λ o. cond (is_one x o) 1 0) (sym (others y apart)))
      (cases_eq y c)

  parents_there : (x p : ℕ) → parent_of after x ≡ Some p → (p < length after) × (is_text after p ≡ false)
  parents_there x p is =
      let old : (p < length nodes) × (is_text nodes p ≡ false) =
      ⊎_elim
      (λ same. target p (sym here ∙ ap (parent_of after) (sym same) ∙ is))
      (λ apart. fits.parents x p (sym (others x apart) ∙ is))
      (cases_eq x c) in
      (subst (λ n. p < n) (sym length_is) old.0, texts p ∙ old.1)

  way_ends : (x : ℕ) → Ends (parent_of after) (length after) (Some x)
  way_ends x =
      ⊎_elim
      (λ inside.
      let found = joins (parent_of nodes) (parent_of after) c others way.0 (subst (Ends (parent_of after) way.0) (sym here) way.1) (length nodes) (Some x) (fits.ends x) in
      Ends_within (parent_of after) (length after) (λ y p is. (parents_there y p is).0) found.0 x inside found.1)
      (λ past. ends_alone (parent_of after) (length after) x (some_node after (documents 0 ∙ fits.document)) (ap parent_in (slice_get_past after x past)))
      (cases_lt x (length after))

  pub moved : Fits after
  moved = record {
    document = documents 0 ∙ fits.document;
    alone = λ x is. fits.alone x (sym (documents x) ∙ is);
    values = values_are;
    top = top_is;
    children = agree;
    parents = parents_there;
    ends = way_ends;
  }

module _ (nodes : List DomNode) (fits : Fits nodes) (p c : ℕ) (parent_there : p < length nodes) (child_there : c < length nodes) (valid : would_cycle nodes p c ≡ false) where
  pub not_parent : c ≢ p
  not_parent = eqb-false c p (or_left (c == p) (list_any (λ x. x == c) (ancestors nodes p) || (c == 0 || is_text nodes p)) valid)

  valid_1 : (list_any (λ x. x == c) (ancestors nodes p) || (c == 0 || is_text nodes p)) ≡ false
  valid_1 = or_right (c == p) (list_any (λ x. x == c) (ancestors nodes p) || (c == 0 || is_text nodes p)) valid

  not_above : list_any (λ x. x == c) (ancestors nodes p) ≡ false
  not_above = or_left (list_any (λ x. x == c) (ancestors nodes p)) (c == 0 || is_text nodes p) valid_1

  valid_2 : (c == 0 || is_text nodes p) ≡ false
  valid_2 = or_right (list_any (λ x. x == c) (ancestors nodes p)) (c == 0 || is_text nodes p) valid_1

  not_document : c ≢ 0
  not_document = eqb-false c 0 (or_left (c == 0) (is_text nodes p) valid_2)

  no_text : is_text nodes p ≡ false
  no_text = or_right (c == 0) (is_text nodes p) valid_2

  module _ (place : List ℕ → List ℕ) (adds : (y : ℕ) → times y (place (children_of (left c nodes) p)) ≡ times y (children_of (left c nodes) p) + cond (c == y) 1 0) where
    left_length : length (left c nodes) ≡ length nodes
    left_length = length_left c (parent_of nodes c) nodes

    inner_length : length (changed (with_children place) p (left c nodes)) ≡ length nodes
    inner_length = length_changed (with_children place) p (left c nodes) ∙ left_length

    inner_times : (x y : ℕ) → times y (children_of (placed place p c nodes) x) ≡ times y (children_of (left c nodes) x) + cond (p == x) (cond (c == y) 1 0) 0
    inner_times x y =
        ap (times y) (children_beside (Some p) c (changed (with_children place) p (left c nodes)) x)
        ∙ ⊎_elim
        (λ is.
        subst (λ v. times y (children_of (changed (with_children place) p (left c nodes)) v) ≡ times y (children_of (left c nodes) v) + cond (p == v) (cond (c == y) 1 0) 0) is
        (ap (times y) (children_set place p (left c nodes) (subst (λ n. p < n) (sym left_length) parent_there)) ∙ adds y
        ∙ ap (λ b. times y (children_of (left c nodes) p) + cond b (cond (c == y) 1 0) 0) (sym (eq-eqb p p refl))))
        (λ apart.
        ap (λ o. times y (children_in o)) (beside_changed (with_children place) p (left c nodes) x apart)
        ∙ sym (add-zero (times y (children_of (left c nodes) x)))
        ∙ ap (λ b. times y (children_of (left c nodes) x) + cond b (cond (c == y) 1 0) 0) (sym (unequal p x apart)))
        (cases_eq p x)

    placed_here : parent_of (placed place p c nodes) c ≡ Some p
    placed_here = parent_set (Some p) c (changed (with_children place) p (left c nodes)) (subst (λ n. c < n) (sym inner_length) child_there)

    placed_others : (x : ℕ) → x ≢ c → parent_of (placed place p c nodes) x ≡ parent_of nodes x
    placed_others x apart =
        ap parent_in (beside_changed (with_parent (Some p)) c (changed (with_children place) p (left c nodes)) x (λ is. apart (sym is)))
        ∙ parent_kept place p (left c nodes) x ∙ parent_left c (parent_of nodes c) nodes x

    flat : (b : Bool) (n : ℕ) → 0 + cond b (cond true n 0) 0 ≡ cond b n 0
    flat true n = zero-add n
    flat false n = refl

    none_added : (n : ℕ) (b : Bool) → n + cond b (cond false 1 0) 0 ≡ n
    none_added n true = add-zero n
    none_added n false = add-zero n

    placed_mine : (x : ℕ) → times c (children_of (placed place p c nodes) x) ≡ cond (is_one x (Some p)) 1 0
    placed_mine x =
        inner_times x c ∙ ap (λ n. n + cond (p == x) (cond (c == c) 1 0) 0) (gone nodes fits c x)
        ∙ ap (λ b. 0 + cond (p == x) (cond b 1 0) 0) (eq-eqb c c refl) ∙ flat (p == x) 1

    placed_theirs : (x y : ℕ) → y ≢ c → times y (children_of (placed place p c nodes) x) ≡ times y (children_of nodes x)
    placed_theirs x y apart =
        inner_times x y ∙ ap (λ b. times y (children_of (left c nodes) x) + cond (p == x) (cond b 1 0) 0) (unequal c y (λ is. apart (sym is)))
        ∙ none_added (times y (children_of (left c nodes) x)) (p == x) ∙ stay nodes fits c x y apart

    way_off : list_any (λ y. y == c) (way_up (parent_of nodes) (length nodes) (Some p)) ≡ false
    way_off =
        ap (list_any (λ y. y == c)) (way_step (parent_of nodes) (length nodes) p (fits.ends p))
        ∙ ap (λ b. b || list_any (λ y. y == c) (ancestors nodes p)) (unequal p c (λ is. not_parent (sym is))) ∙ not_above

    pub placed_fits : Fits (placed place p c nodes)
    placed_fits =
        moved nodes (placed place p c nodes) c (Some p) fits
        (length_changed (with_parent (Some p)) c (changed (with_children place) p (left c nodes)) ∙ inner_length)
        (λ x. text_beside (Some p) c (changed (with_children place) p (left c nodes)) x ∙ text_kept place p (left c nodes) x ∙ text_left c (parent_of nodes c) nodes x)
        (documents_placed place p c nodes) (values_placed nodes fits place p c)
        (placed_others 0 (λ is. not_document (sym is)) ∙ fits.top)
        placed_here placed_others placed_mine placed_theirs
        (λ q is. let same : p ≡ q = cc in subst (λ v. (v < length nodes) × (is_text nodes v ≡ false)) same (parent_there, no_text))
        (length nodes, stays (parent_of nodes) (parent_of (placed place p c nodes)) c placed_others (length nodes) (Some p) (fits.ends p) way_off)

  pub appended_fits : Fits (appended p c nodes)
  appended_fits = placed_fits (at_end c) (λ y. times_at_end y c (children_of (left c nodes) p))

  pub inserted_fits : (before : ℕ) → is_child nodes p before ≡ true → c ≢ before → Fits (placed (put_before before c) p c nodes)
  inserted_fits before is apart =
      let once : times before (children_of (left c nodes) p) ≡ 1 = stay nodes fits c p before (λ same. apart (sym same)) ∙ fits.children p before ∙ ap (λ b. cond b 1 0) is in
      placed_fits (put_before before c) (λ y. times_before y before c (children_of (left c nodes) p) once)

module _ (nodes : List DomNode) (fits : Fits nodes) (c : ℕ) (child_there : c < length nodes) where
  left_length_too : length (left c nodes) ≡ length nodes
  left_length_too = length_left c (parent_of nodes c) nodes

  pub removed_here : parent_of (removed c nodes) c ≡ None
  removed_here = parent_set None c (left c nodes) (subst (λ n. c < n) (sym left_length_too) child_there)

  pub removed_others : (x : ℕ) → x ≢ c → parent_of (removed c nodes) x ≡ parent_of nodes x
  removed_others x apart = ap parent_in (beside_changed (with_parent None) c (left c nodes) x (λ is. apart (sym is))) ∙ parent_left c (parent_of nodes c) nodes x

  removed_top : parent_of (removed c nodes) 0 ≡ None
  removed_top =
      ⊎_elim
      (λ is. subst (λ v. parent_of (removed c nodes) v ≡ None) (sym is) removed_here)
      (λ apart. removed_others 0 apart ∙ fits.top)
      (cases_eq 0 c)

  pub removed_fits : Fits (removed c nodes)
  removed_fits =
      moved nodes (removed c nodes) c None fits
      (length_changed (with_parent None) c (left c nodes) ∙ left_length_too)
      (λ x. text_beside None c (left c nodes) x ∙ text_left c (parent_of nodes c) nodes x)
      (documents_removed c nodes) (values_removed nodes fits c)
      removed_top removed_here removed_others
      (λ x. ap (times c) (children_beside None c (left c nodes) x) ∙ gone nodes fits c x)
      (λ x y apart. ap (times y) (children_beside None c (left c nodes) x) ∙ stay nodes fits c x y apart)
      (λ q is. absurd (none_some q is))
      (0, tt)

-- a node without a parent has been taken from it
left_free : (c : ℕ) (nodes : List DomNode) → parent_of nodes c ≡ None → left c nodes ≡ nodes
left_free c nodes free = ap (λ o. left_at c o nodes) free

same_free : (o : Option DomNode) → parent_in o ≡ None → option_map (with_parent None) o ≡ o
same_free None is = refl
same_free (Some node) is = ap (λ v. Some (record node { parent = v })) (sym is)

pub removed_free : (c : ℕ) (nodes : List DomNode) → parent_of nodes c ≡ None → nodes ≡ removed c nodes
removed_free c nodes free =
    sym (ap (changed (with_parent None) c) (left_free c nodes free) ∙ changed_same (with_parent None) c nodes (same_free (slice_get nodes c) free))

-- a node that is placed has been taken from its parent, or not
pub placed_removed : (place : List ℕ → List ℕ) (p c : ℕ) (nodes : List DomNode) → c ≢ p → parent_of (removed c nodes) c ≡ None → placed place p c (removed c nodes) ≡ placed place p c nodes
placed_removed place p c nodes apart free =
    ap (λ l. changed (with_parent (Some p)) c (changed (with_children place) p l)) (left_free c (removed c nodes) free)
    ∙ ap (changed (with_parent (Some p)) c) (changed_apart (with_children place) (with_parent None) p c (left c nodes) (λ is. apart (sym is)))
    ∙ changed_twice (with_parent None) (with_parent (Some p)) c (changed (with_children place) p (left c nodes))

pub placed_gone : (nodes : List DomNode) (fits : Fits nodes) (p c : ℕ) (parent_there : p < length nodes) (child_there : c < length nodes) → would_cycle nodes p c ≡ false → (place : List ℕ → List ℕ)
    → placed place p c (removed c nodes) ≡ placed place p c nodes
placed_gone nodes fits p c parent_there child_there valid place =
    placed_removed place p c nodes (not_parent nodes fits p c parent_there child_there valid) (removed_here nodes fits c child_there)
