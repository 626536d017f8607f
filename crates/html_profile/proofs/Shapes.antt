-- The shape of a tree, piece by piece.
use Rattle.std.proofs.Common.{◌≡◌, ◌≢◌, ℕ, zero, suc, ◌+◌, ◌<◌, ◌≤◌, ◌==◌, ◌&&◌, ◌||◌, Bool, true, false, not, cond, List, [], ◌∷◌, ◌++◌, length, fold, map, All, Option, Some, None, IsUtf8, codes, refl, sym, ap, subst, ◌∙◌, arith, eq-eqb, ⊎_elim, append-nil, length-append}
use Rattle.std.proofs.lemmas.Bool.{cases_Bool, cases_eq, cases_lt, cond-true, cond-false, cond_both, eqb-true, ne_eqb, false≢true}
use Rattle.std.proofs.lemmas.List.Elements.{All-nil, All-cons, All-append}
use Rattle.std.proofs.lemmas.Str.{IsUtf8-nil, IsUtf8-append}
use Rattle.std.specs.List.{slice_get, list_any, flat_map}
use Rattle.std.specs.Char.Escape.{encode_utf16}
use Rattle.std.specs.Str.{bytes_eq}
use Rattle.mug_text.specs.Text.{IsText, utf8_of}
use Rattle.mug_text.proofs.Texts.{bytes_back}
use lib.Utf8.{encode}
use Rattle.html_profile.specs.Names.{is_void, void_names, firsts}
use Rattle.html_profile.specs.Numbering.{parent_in, is_text_content, is_text_in, is_document_content, is_document_in}
use Rattle.html_profile.specs.Decoding.{DecodingTag, DecodingPiece}
use Rattle.html_profile.specs.FirstPlace.{mark_len}
use Rattle.html_profile.specs.Pieces.{IsPiece, Reads}
use Rattle.html_profile.specs.Tree.{State, units, innermost, with_text, settled, closed, with_closed, opened, element_of, with_element, step, beginning}
use Rattle.html_profile.specs.Page.{Page, IsTree, IsPage, IsWholePage, without_prelude, page_of}
use Rattle.html_profile.specs.declared.piece.Tag.{Tag}
use Rattle.html_profile.specs.declared.piece.Piece.{Piece}
use Rattle.html_profile.specs.declared.piece.Piece.TheVariants.{Dropped, Text, EndTag, StartTag}
use Rattle.html_profile.specs.declared.document.DocNode.{DocNode}
use Rattle.html_profile.specs.declared.document.Content.{Content}
use Rattle.html_profile.specs.declared.document.Content.TheVariants.{Document as document, Element as element, Text as text_node}
use Rattle.html_profile.specs.declared.tree.Open.{Open}
use Rattle.html_profile.proofs.Trees.{units_are}
use Rattle.html_profile.proofs.Utf8Pieces.{utf8, piece_decodes}
use Rattle.html_profile.proofs.Utf8Page.{behind_mark, page_utf8}
use Rattle.html_profile.specs.Shape.{is_empty_text, is_void_content, is_void_in, is_one, contents_in, begins_in_text, TextsApart, steps_up, StandsIn, HasShape}

none_some : {P : Type 0} (x : ℕ) → None ≡ Some x → P
none_some x is = absurd cc

some_same : (x y : ℕ) → Some x ≡ Some y → x ≡ y
some_same x y is = cc

-- ---- units and bytes

text_from : (bytes : List ℕ) → IsUtf8 bytes → (u : List ℕ) × IsText bytes u
text_from bytes is = (flat_map encode_utf16 is.0, record { points = is.0; scalars = is.1.0; bytes_are = sym is.1.1; units_are = refl })

back : (bytes : List ℕ) → IsUtf8 bytes → utf8_of (units bytes) ≡ bytes
back bytes is = let text = text_from bytes is in ap utf8_of (sym (units_are text.1)) ∙ bytes_back text.1

abbrev AreBytes : List (List ℕ) → Type 0
AreBytes [] = Unit {0}
AreBytes (v ∷ vs) = (utf8_of v ≡ v) × AreBytes vs

bytes_are_same : (a b : List ℕ) → bytes_eq a b ≡ true → a ≡ b
bytes_are_same [] [] is = refl
bytes_are_same [] (y ∷ ys) is = absurd (false≢true is)
bytes_are_same (x ∷ xs) [] is = absurd (false≢true is)
bytes_are_same (x ∷ xs) (y ∷ ys) is = by_test (x == y) refl is (bytes_are_same xs ys)
  where
    by_test : (t : Bool) → (x == y) ≡ t → (t && bytes_eq xs ys) ≡ true → (bytes_eq xs ys ≡ true → xs ≡ ys) → x ∷ xs ≡ y ∷ ys
    by_test true hit more again = ap (λ z. z ∷ xs) (eqb-true x y hit) ∙ ap (λ l. y ∷ l) (again more)
    by_test false miss more again = absurd (false≢true more)

same_bytes : (a : List ℕ) → bytes_eq a a ≡ true
same_bytes [] = refl
same_bytes (x ∷ xs) = ap (λ t. t && bytes_eq xs xs) (eq-eqb x x refl) ∙ same_bytes xs

any_back : (vs : List (List ℕ)) (u : List ℕ) → AreBytes vs → list_any (λ v. bytes_eq v u) vs ≡ true → list_any (λ v. bytes_eq v (utf8_of u)) vs ≡ true
any_back [] u are is = absurd (false≢true is)
any_back (v ∷ vs) u are is = by_test (bytes_eq v u) refl is (any_back vs u are.1)
  where
    or_more : (b : Bool) (c : Bool) → c ≡ true → (b || c) ≡ true
    or_more true c is = refl
    or_more false c is = is

    by_test : (t : Bool) → bytes_eq v u ≡ t → (t || list_any (λ w. bytes_eq w u) vs) ≡ true
        → (list_any (λ w. bytes_eq w u) vs ≡ true → list_any (λ w. bytes_eq w (utf8_of u)) vs ≡ true) → (bytes_eq v (utf8_of u) || list_any (λ w. bytes_eq w (utf8_of u)) vs) ≡ true
    by_test true hit more again =
        let e : utf8_of u ≡ v = ap utf8_of (sym (bytes_are_same v u hit)) ∙ are.0 in
        ap (λ t. t || list_any (λ x. bytes_eq x (utf8_of u)) vs) (ap (bytes_eq v) e ∙ same_bytes v)
    by_test false miss more again = or_more (bytes_eq v (utf8_of u)) (list_any (λ w. bytes_eq w (utf8_of u)) vs) (again more)

void_bytes : AreBytes void_names
unfolding encode
void_bytes = (refl, (refl, (refl, (refl, (refl, (refl, (refl, (refl, (refl, (refl, (refl, (refl, (refl, (refl, tt))))))))))))))

void_units : (name : List ℕ) → IsUtf8 name → is_void name ≡ false → is_void (units name) ≡ false
void_units name is none =
    ⊎_elim
    (λ hit. absurd (false≢true (sym none ∙ ap is_void (sym (back name is)) ∙ any_back void_names (units name) void_bytes hit)))
    (λ miss. miss)
    (cases_Bool (is_void (units name)))

some_units : (c : ℕ) (words : List ℕ) → IsUtf8 (c ∷ words) → (length (units (c ∷ words)) == 0) ≡ false
some_units c words is = by_units (units (c ∷ words)) (back (c ∷ words) is)
  where
    by_units : (u : List ℕ) → utf8_of u ≡ c ∷ words → (length u == 0) ≡ false
    by_units [] e = let none : [] ≡ c ∷ words = e in absurd cc
    by_units (x ∷ u) e = ne_eqb (length (x ∷ u)) 0 (λ z. absurd (omega arith))

-- ---- one more node

at_before : (node : DocNode) (nodes : List DocNode) (x : ℕ) → x < length nodes → slice_get (nodes ++ node ∷ []) x ≡ slice_get nodes x
at_before node [] x inside = absurd (omega arith)
at_before node (n ∷ nodes) zero inside = refl
at_before node (n ∷ nodes) (suc x) inside = at_before node nodes x (omega arith)

at_last : (node : DocNode) (nodes : List DocNode) → slice_get (nodes ++ node ∷ []) (length nodes) ≡ Some node
at_last node [] = refl
at_last node (n ∷ nodes) = at_last node nodes

nothing_behind : (nodes : List DocNode) (x : ℕ) → length nodes ≤ x → slice_get nodes x ≡ None
nothing_behind [] x behind = refl
nothing_behind (n ∷ nodes) zero behind = absurd (omega arith)
nothing_behind (n ∷ nodes) (suc x) behind = nothing_behind nodes x (omega arith)

inside_from : (nodes : List DocNode) (x p : ℕ) → parent_in (slice_get nodes x) ≡ Some p → x < length nodes
inside_from nodes x p is = ⊎_elim (λ inside. inside) (λ past. none_some p (sym (ap parent_in (nothing_behind nodes x past)) ∙ is)) (cases_lt x (length nodes))

contents_push : (p : ℕ) (nodes : List DocNode) (n : DocNode) → contents_in p (nodes ++ n ∷ []) ≡ contents_in p nodes ++ cond (is_one p n.parent) (n.content ∷ []) []
contents_push p [] n = refl
contents_push p (m ∷ nodes) n = by_test (is_one p m.parent) (contents_push p nodes n)
  where
    by_test : (t : Bool) → contents_in p (nodes ++ n ∷ []) ≡ contents_in p nodes ++ cond (is_one p n.parent) (n.content ∷ []) [] → cond t (m.content ∷ contents_in p (nodes ++ n ∷ [])) (contents_in p (nodes ++ n ∷ [])) ≡ cond t (m.content ∷ contents_in p nodes) (contents_in p nodes) ++ cond (is_one p n.parent) (n.content ∷ []) []
    by_test true again = ap (λ l. m.content ∷ l) again
    by_test false again = again

-- the last content is a text
ends_in_text : List Content → Bool
ends_in_text [] = false
ends_in_text (c ∷ []) = is_text_content c
ends_in_text (c ∷ d ∷ more) = ends_in_text (d ∷ more)

none_ends : ends_in_text [] ≡ false
unfolding ends_in_text
none_ends = refl

ends_push : (l : List Content) (c : Content) → ends_in_text (l ++ c ∷ []) ≡ is_text_content c
unfolding ends_in_text
ends_push [] c = refl
ends_push (d ∷ []) c = refl
ends_push (d ∷ e ∷ more) c = ends_push (e ∷ more) c

and_none : (b : Bool) → (b && false) ≡ false
and_none true = refl
and_none false = refl

apart_push : (l : List Content) (c : Content) → TextsApart l → (ends_in_text l && is_text_content c) ≡ false → TextsApart (l ++ c ∷ [])
unfolding ends_in_text
apart_push [] c apart other = (and_none (is_text_content c), tt)
apart_push (d ∷ []) c apart other = (other, (and_none (is_text_content c), tt))
apart_push (d ∷ e ∷ more) c apart other = (apart.0, apart_push (e ∷ more) c apart.1 other)

-- no node has this parent
contents_none : (p : ℕ) (nodes : List DocNode) → ((x : ℕ) → parent_in (slice_get nodes x) ≡ Some p → ⊥) → contents_in p nodes ≡ []
contents_none p [] none = refl
contents_none p (n ∷ nodes) none =
    cond-false (is_one p n.parent) (n.content ∷ contents_in p nodes) (contents_in p nodes) (other n.parent (none 0)) ∙ contents_none p nodes (λ x is. none (suc x) is)
  where
    other : (o : Option ℕ) → (o ≡ Some p → ⊥) → is_one p o ≡ false
    other None differ = refl
    other (Some q) differ = ne_eqb q p (λ is. differ (ap Some is))

steps_none : (nodes : List DocNode) (k : ℕ) (p : ℕ) → steps_up nodes k None ≡ Some p → ⊥
steps_none nodes zero p is = none_some p is
steps_none nodes (suc k) p is = none_some p is

steps_add : (nodes : List DocNode) (j k : ℕ) (o : Option ℕ) (q p : ℕ) → steps_up nodes j o ≡ Some q → steps_up nodes k (Some q) ≡ Some p → (m : ℕ) × (steps_up nodes m o ≡ Some p)
steps_add nodes zero k o q p first second = (k, ap (steps_up nodes k) first ∙ second)
steps_add nodes (suc j) k None q p first second = none_some q first
steps_add nodes (suc j) k (Some x) q p first second =
    let more = steps_add nodes j k (parent_in (slice_get nodes x)) q p first second in
    (suc more.0, more.1)

abbrev Chain : List DocNode → ℕ → List Open → Type 0
Chain nodes x [] = StandsIn nodes 0 x
Chain nodes x (o ∷ os) = StandsIn nodes o.node x × Chain nodes o.node os

-- the numbers of open elements fall, and none is that of the document
abbrev Falls : ℕ → List Open → Type 0
Falls end [] = 0 < end
Falls end (o ∷ os) = (o.node < end) × Falls o.node os

-- what may have children
abbrev MayHold : List DocNode → ℕ → Type 0
MayHold nodes p = (is_text_in (slice_get nodes p) ≡ false) × (is_void_in (slice_get nodes p) ≡ false)

abbrev AllMayHold : List DocNode → List Open → Type 0
AllMayHold nodes [] = MayHold nodes 0
AllMayHold nodes (o ∷ os) = MayHold nodes o.node × AllMayHold nodes os

-- no text is the last child of an open element or the document
abbrev NoTails : List DocNode → List Open → Type 0
NoTails nodes [] = ends_in_text (contents_in 0 nodes) ≡ false
NoTails nodes (o ∷ os) = (ends_in_text (contents_in o.node nodes) ≡ false) × NoTails nodes os

abbrev NoTailsAround : List DocNode → List Open → Type 0
NoTailsAround nodes [] = Unit {0}
NoTailsAround nodes (o ∷ os) = NoTails nodes os

record Shaped (nodes : List DocNode) (os : List Open) (last : ℕ) : Type 0 where
  shape : HasShape nodes
  length_is : length nodes ≡ suc last
  parents : (x p : ℕ) → parent_in (slice_get nodes x) ≡ Some p → p < length nodes
  chain : Chain nodes last os
  falls : Falls (length nodes) os
  hold : AllMayHold nodes os

innermost_below : (end : ℕ) (os : List Open) → Falls end os → innermost os < end
innermost_below end [] falls = falls
innermost_below end (o ∷ os) falls = falls.0

falls_more : (end more : ℕ) (os : List Open) → end ≤ more → Falls end os → Falls more os
falls_more end more [] within falls = omega arith
falls_more end more (o ∷ os) within falls = let less : o.node < end = falls.0 in (omega arith, falls.1)

innermost_holds : (nodes : List DocNode) (os : List Open) → AllMayHold nodes os → MayHold nodes (innermost os)
innermost_holds nodes [] hold = hold
innermost_holds nodes (o ∷ os) hold = hold.0

innermost_in : (nodes : List DocNode) (x : ℕ) (os : List Open) → Chain nodes x os → StandsIn nodes (innermost os) x
innermost_in nodes x [] chain = chain
innermost_in nodes x (o ∷ os) chain = chain.0

innermost_tail : (nodes : List DocNode) (os : List Open) → NoTails nodes os → ends_in_text (contents_in (innermost os) nodes) ≡ false
innermost_tail nodes [] tails = tails
innermost_tail nodes (o ∷ os) tails = tails.0

module _ (nodes : List DocNode) (os : List Open) (last : ℕ) (shaped : Shaped nodes os last) (n : DocNode) (parent_is : n.parent ≡ Some (innermost os)) where
  q_inside : innermost os < length nodes
  q_inside = innermost_below (length nodes) os shaped.falls

  abbrev more : List DocNode
  more = nodes ++ n ∷ []

  long : length more ≡ suc (length nodes)
  long = let e = length-append nodes (n ∷ []) in omega arith

  steps_more : (k : ℕ) (o : Option ℕ) (p : ℕ) → steps_up nodes k o ≡ Some p → steps_up more k o ≡ Some p
  steps_more zero o p is = is
  steps_more (suc k) None p is = none_some p is
  steps_more (suc k) (Some x) p is =
      ⊎_elim
      (λ inside. ap (λ o. steps_up more k (parent_in o)) (at_before n nodes x inside) ∙ steps_more k (parent_in (slice_get nodes x)) p is)
      (λ past. absurd (steps_none nodes k p (sym (ap (λ o. steps_up nodes k (parent_in o)) (nothing_behind nodes x past)) ∙ is)))
      (cases_lt x (length nodes))

  stands_more : (p x : ℕ) → StandsIn nodes p x → StandsIn more p x
  stands_more p x up = (up.0, steps_more up.0 (Some x) p up.1)

  chain_more : (x : ℕ) (opens : List Open) → Chain nodes x opens → Chain more x opens
  chain_more x [] chain = stands_more 0 x chain
  chain_more x (o ∷ opens) chain = (stands_more o.node x chain.0, chain_more o.node opens chain.1)

  hold_more : (p : ℕ) → p < length nodes → MayHold nodes p → MayHold more p
  hold_more p inside hold = (ap is_text_in (at_before n nodes p inside) ∙ hold.0, ap is_void_in (at_before n nodes p inside) ∙ hold.1)

  all_hold_more : (end : ℕ) (opens : List Open) → end ≤ length nodes → Falls end opens → AllMayHold nodes opens → AllMayHold more opens
  all_hold_more end [] within falls hold = hold_more 0 (omega arith) hold
  all_hold_more end (o ∷ opens) within falls hold =
      let less : o.node < end = falls.0 in
      (hold_more o.node (omega arith) hold.0, all_hold_more o.node opens (omega arith) falls.1 hold.1)

  -- a parent in the longer list is the new node's, or one of before
  parent_cases : (P : ℕ → Type 0) (x p : ℕ) → parent_in (slice_get more x) ≡ Some p → P (innermost os) → (x < length nodes → parent_in (slice_get nodes x) ≡ Some p → P p) → P p
  parent_cases P x p is here before =
      ⊎_elim
      (λ inside. before inside (sym (ap parent_in (at_before n nodes x inside)) ∙ is))
      (λ past.
      ⊎_elim
      (λ last_one. subst P (some_same (innermost os) p (sym parent_is ∙ sym (ap parent_in (ap (slice_get more) last_one ∙ at_last n nodes)) ∙ is)) here)
      (λ other. let e = long in none_some p (sym (ap parent_in (nothing_behind more x (omega arith))) ∙ is))
      (cases_eq x (length nodes)))
      (cases_lt x (length nodes))

  new_parents : (x p : ℕ) → parent_in (slice_get more x) ≡ Some p → p < length more
  new_parents x p is =
      let e = long in
      parent_cases (λ r. r < length more) x p is (let inside = q_inside in omega arith) (λ inside old. let less = shaped.parents x p old in omega arith)

  chain_new : Chain more (length nodes) os
  chain_new = step_up os shaped.chain parent_is
    where
      step_up : (opens : List Open) → Chain nodes last opens → n.parent ≡ Some (innermost opens) → Chain more (length nodes) opens
      step_up [] chain is = (1, ap parent_in (at_last n nodes) ∙ is)
      step_up (o ∷ opens) chain is = ((1, ap parent_in (at_last n nodes) ∙ is), chain_more o.node opens chain.1)

  order_new : (x p : ℕ) → parent_in (slice_get more (suc x)) ≡ Some p → StandsIn more p x
  order_new x p is =
      ⊎_elim
      (λ inside. stands_more p x (shaped.shape.order x p (sym (ap parent_in (at_before n nodes (suc x) inside)) ∙ is)))
      (λ past.
      ⊎_elim
      (λ last_one.
      let e = shaped.length_is in
      let here : last ≡ x = omega arith in
      let same : innermost os ≡ p = some_same (innermost os) p (sym parent_is ∙ sym (ap parent_in (ap (slice_get more) last_one ∙ at_last n nodes)) ∙ is) in
      subst (λ y. StandsIn more p y) here (subst (λ r. StandsIn more r last) same (stands_more (innermost os) last (innermost_in nodes last os shaped.chain))))
      (λ other. let e = long in none_some p (sym (ap parent_in (nothing_behind more (suc x) (omega arith))) ∙ is))
      (cases_eq (suc x) (length nodes)))
      (cases_lt (suc x) (length nodes))

  contents_here : contents_in (innermost os) more ≡ contents_in (innermost os) nodes ++ n.content ∷ []
  contents_here =
      contents_push (innermost os) nodes n ∙ ap (λ o. contents_in (innermost os) nodes ++ cond (is_one (innermost os) o) (n.content ∷ []) []) parent_is
      ∙ ap (λ t. contents_in (innermost os) nodes ++ cond t (n.content ∷ []) []) (eq-eqb (innermost os) (innermost os) refl)

  contents_there : (p : ℕ) → innermost os ≢ p → contents_in p more ≡ contents_in p nodes
  contents_there p other =
      contents_push p nodes n ∙ ap (λ o. contents_in p nodes ++ cond (is_one p o) (n.content ∷ []) []) parent_is
      ∙ ap (λ t. contents_in p nodes ++ cond t (n.content ∷ []) []) (ne_eqb (innermost os) p other) ∙ append-nil (contents_in p nodes)

  apart_new : (ends_in_text (contents_in (innermost os) nodes) && is_text_content n.content) ≡ false → (p : ℕ) → TextsApart (contents_in p more)
  apart_new other p =
      ⊎_elim
      (λ same. subst (λ r. TextsApart (contents_in r more)) same (subst TextsApart (sym contents_here) (apart_push (contents_in (innermost os) nodes) n.content (shaped.shape.apart (innermost os)) other)))
      (λ differ. subst TextsApart (sym (contents_there p differ)) (shaped.shape.apart p))
      (cases_eq (innermost os) p)

  shape_new : is_empty_text n.content ≡ false → (ends_in_text (contents_in (innermost os) nodes) && is_text_content n.content) ≡ false → HasShape more
  shape_new some other =
      let P : DocNode → Type 0 = λ node. is_empty_text node.content ≡ false in
      let holds = innermost_holds nodes os shaped.hold in
      record {
        texts = All-append P nodes (n ∷ []) shaped.shape.texts (All-cons P n [] some (All-nil P));
        apart = apart_new other;
        texts_childless = λ x p is.
            parent_cases (λ r. is_text_in (slice_get more r) ≡ false) x p is (ap is_text_in (at_before n nodes (innermost os) q_inside) ∙ holds.0)
            (λ inside old. ap is_text_in (at_before n nodes p (shaped.parents x p old)) ∙ shaped.shape.texts_childless x p old);
        voids_childless = λ x p is.
            parent_cases (λ r. is_void_in (slice_get more r) ≡ false) x p is (ap is_void_in (at_before n nodes (innermost os) q_inside) ∙ holds.1)
            (λ inside old. ap is_void_in (at_before n nodes p (shaped.parents x p old)) ∙ shaped.shape.voids_childless x p old);
        order = order_new;
      }

  shaped_new : is_empty_text n.content ≡ false → (ends_in_text (contents_in (innermost os) nodes) && is_text_content n.content) ≡ false → Shaped more os (length nodes)
  shaped_new some other = record {
    shape = shape_new some other;
    length_is = long;
    parents = new_parents;
    chain = chain_new;
    falls = let e = long in falls_more (length nodes) (length more) os (omega arith) shaped.falls;
    hold = all_hold_more (length nodes) os (omega arith) shaped.falls shaped.hold;
  }

  -- elements around the innermost one have no more children than before
  tails_around : (end : ℕ) (opens : List Open) → end ≤ innermost os → Falls end opens → NoTails nodes opens → NoTails more opens
  tails_around end [] within falls tails = ap ends_in_text (contents_there 0 (λ is. absurd (omega arith))) ∙ tails
  tails_around end (o ∷ opens) within falls tails =
      let less : o.node < end = falls.0 in
      (ap ends_in_text (contents_there o.node (λ is. absurd (omega arith))) ∙ tails.0, tails_around o.node opens (omega arith) falls.1 tails.1)

  around_new : (opens : List Open) → opens ≡ os → NoTailsAround nodes opens → NoTailsAround more opens
  around_new [] is tails = tt
  around_new (o ∷ opens) is tails =
      let falls : Falls (length nodes) (o ∷ opens) = subst (Falls (length nodes)) (sym is) shaped.falls in
      let here : o.node ≡ innermost os = ap innermost is in
      tails_around o.node opens (omega arith) falls.1 tails

  -- behind an element no text is the last child
  tails_new : is_text_content n.content ≡ false → (opens : List Open) → opens ≡ os → NoTailsAround nodes opens → NoTails more opens
  tails_new no_text [] is tails =
      let here : 0 ≡ innermost os = ap innermost is in
      ap (λ r. ends_in_text (contents_in r more)) here ∙ ap ends_in_text contents_here ∙ ends_push (contents_in (innermost os) nodes) n.content ∙ no_text
  tails_new no_text (o ∷ opens) is tails =
      let here : o.node ≡ innermost os = ap innermost is in
      (ap (λ r. ends_in_text (contents_in r more)) here ∙ ap ends_in_text contents_here ∙ ends_push (contents_in (innermost os) nodes) n.content ∙ no_text, around_new (o ∷ opens) is tails)

  no_child_yet : contents_in (length nodes) more ≡ []
  no_child_yet =
      contents_none (length nodes) more
      (λ x is. let less : length nodes < length nodes = parent_cases (λ r. r < length nodes) x (length nodes) is q_inside (λ inside old. shaped.parents x (length nodes) old) in absurd (omega arith))

-- ---- states

around_from : (nodes : List DocNode) (os : List Open) → NoTails nodes os → NoTailsAround nodes os
around_from nodes [] tails = tt
around_from nodes (o ∷ os) tails = tails.1

record Fine (s : State) : Type 0 where
  last : ℕ
  shaped : Shaped s.nodes s.open_elements last
  tails : NoTails s.nodes s.open_elements
  words : IsUtf8 s.words

record Settled (s : State) : Type 0 where
  last : ℕ
  shaped : Shaped s.nodes s.open_elements last
  tails : NoTailsAround s.nodes s.open_elements

words_settled : (words : List ℕ) (s : State) (last : ℕ) → Shaped s.nodes s.open_elements last → NoTails s.nodes s.open_elements → IsUtf8 words
    → Settled (record s { nodes = with_text s.nodes (innermost s.open_elements) words; words = [] })
words_settled [] s last shaped tails is = record { last = last; shaped = shaped; tails = around_from s.nodes s.open_elements tails }
words_settled (c ∷ words) s last shaped tails is =
    let node : DocNode = record { parent = Some (innermost s.open_elements); content = text_node (units (c ∷ words)) } in
    let apart : (ends_in_text (contents_in (innermost s.open_elements) s.nodes) && true) ≡ false = ap (λ b. b && true) (innermost_tail s.nodes s.open_elements tails) in
    record {
      last = length s.nodes;
      shaped = shaped_new s.nodes s.open_elements last shaped node refl (some_units c words is) apart;
      tails = around_new s.nodes s.open_elements last shaped node refl s.open_elements refl (around_from s.nodes s.open_elements tails);
    }

settled_fine : (s : State) → Fine s → Settled (settled s)
settled_fine s fine = words_settled s.words s fine.last fine.shaped fine.tails fine.words

-- what stays open where some are closed
chain_join : (nodes : List DocNode) (x y : ℕ) (os : List Open) → StandsIn nodes y x → Chain nodes y os → Chain nodes x os
chain_join nodes x y [] up chain = steps_add nodes up.0 chain.0 (Some x) y 0 up.1 chain.1
chain_join nodes x y (o ∷ os) up chain = (steps_add nodes up.0 chain.0.0 (Some x) y o.node up.1 chain.0.1, chain.1)

record Stays (nodes : List DocNode) (x end : ℕ) (os : List Open) : Type 0 where
  chain : Chain nodes x os
  falls : Falls end os
  hold : AllMayHold nodes os
  tails : NoTails nodes os

closed_stays : (nodes : List DocNode) (x end : ℕ) (name : List ℕ) (os more : List Open) → closed name os ≡ Some more → Chain nodes x os → Falls end os → AllMayHold nodes os → NoTailsAround nodes os → Stays nodes x end more
closed_stays nodes x end name [] more is chain falls hold tails = absurd cc
closed_stays nodes x end name (o ∷ os) more is chain falls hold tails =
    ⊎_elim
    (λ same.
    let e : os ≡ more = some_list os more (sym (cond-true (bytes_eq o.name name) (Some os) (closed name os) same) ∙ is) in
    subst (Stays nodes x end) e
    (record {
      chain = chain_join nodes x o.node os chain.0 chain.1;
      falls = let less : o.node < end = falls.0 in falls_more o.node end os (omega arith) falls.1;
      hold = hold.1;
      tails = tails;
    }))
    (λ other.
    let found = closed_stays nodes o.node o.node name os more (sym (cond-false (bytes_eq o.name name) (Some os) (closed name os) other) ∙ is) chain.1 falls.1 hold.1 (around_from nodes os tails) in
    record {
      chain = chain_join nodes x o.node more chain.0 found.chain;
      falls = let less : o.node < end = falls.0 in falls_more o.node end more (omega arith) found.falls;
      hold = found.hold;
      tails = found.tails;
    })
    (cases_Bool (bytes_eq o.name name))
  where
    some_list : (a b : List Open) → Some a ≡ Some b → a ≡ b
    some_list a b e = cc

closed_fine : (s : State) (name : List ℕ) (found : Option (List Open)) → closed name s.open_elements ≡ found → Fine s → Fine (with_closed s found)
closed_fine s name None is fine = fine
closed_fine s name (Some more) is fine =
    let done = settled_fine s fine in
    let stays = closed_stays (settled s).nodes done.last (length (settled s).nodes) name s.open_elements more is done.shaped.chain done.shaped.falls done.shaped.hold done.tails in
    record {
      last = done.last;
      shaped = record { shape = done.shaped.shape; length_is = done.shaped.length_is; parents = done.shaped.parents; chain = stays.chain; falls = stays.falls; hold = stays.hold };
      tails = stays.tails;
      words = IsUtf8-nil;
    }

module _ (total : ℕ) (s : State) (done : Settled s) (tag : Tag) (decodes : DecodingTag tag) where
  abbrev all_nodes : List DocNode
  all_nodes = s.nodes ++ element_of (innermost s.open_elements) tag ∷ []

  shaped_all : Shaped all_nodes s.open_elements (length s.nodes)
  shaped_all =
      shaped_new s.nodes s.open_elements done.last done.shaped (element_of (innermost s.open_elements) tag) refl refl (and_none (ends_in_text (contents_in (innermost s.open_elements) s.nodes)))

  tails_all : NoTails all_nodes s.open_elements
  tails_all = tails_new s.nodes s.open_elements done.last done.shaped (element_of (innermost s.open_elements) tag) refl refl s.open_elements refl done.tails

  open_shaped : (void : Bool) → is_void tag.name ≡ void → Shaped all_nodes (cond void s.open_elements (record { node = length s.nodes; name = tag.name } ∷ s.open_elements)) (length s.nodes)
  open_shaped true is = shaped_all
  open_shaped false is =
      let all = shaped_all in
      let long = all.length_is in
      let here = at_last (element_of (innermost s.open_elements) tag) s.nodes in
      record {
        shape = all.shape;
        length_is = all.length_is;
        parents = all.parents;
        chain = ((0, refl), all.chain);
        falls = (omega arith, done.shaped.falls);
        hold = ((ap is_text_in here, ap is_void_in here ∙ void_units tag.name decodes.name is), all.hold);
      }

  open_tails : (void : Bool) → NoTails all_nodes (cond void s.open_elements (record { node = length s.nodes; name = tag.name } ∷ s.open_elements))
  open_tails true = tails_all
  open_tails false =
      (ap ends_in_text (no_child_yet s.nodes s.open_elements done.last done.shaped (element_of (innermost s.open_elements) tag) refl) ∙ none_ends, tails_all)

  element_fine : Fine (with_element total s tag)
  element_fine = record { last = length s.nodes; shaped = open_shaped (is_void tag.name) refl; tails = open_tails (is_void tag.name); words = decodes.text }

step_fine : (total : ℕ) (s : State) (piece : Piece) → DecodingPiece piece → Fine s → Fine (step total s piece)
step_fine total s Dropped decodes fine = fine
step_fine total s (Text words) decodes fine = record { last = fine.last; shaped = fine.shaped; tails = fine.tails; words = IsUtf8-append s.words words fine.words decodes }
step_fine total s (EndTag name) decodes fine = closed_fine s name (closed name s.open_elements) refl fine
step_fine total s (StartTag tag) decodes fine = element_fine total (settled s) (settled_fine s fine) tag decodes

steps_fine : (total : ℕ) (text : List ℕ) (pieces : List Piece) (s : State) → IsUtf8 text → Reads text pieces [] → Fine s → Fine (fold (step total) s pieces)
steps_fine total text [] s is reads fine = fine
steps_fine total text (piece ∷ pieces) s is reads fine =
    let decodes = piece_decodes text piece reads.0 is reads.2 in
    steps_fine total reads.0 pieces (step total s piece) decodes.1 reads.3 (step_fine total s piece decodes.0 fine)

no_parent : (x p : ℕ) → parent_in (slice_get beginning.nodes x) ≡ Some p → ⊥
no_parent zero p is = none_some p is
no_parent (suc x) p is = none_some p is

begun : Fine beginning
begun =
    let P : DocNode → Type 0 = λ node. is_empty_text node.content ≡ false in
    record {
      last = 0;
      shaped = record {
        shape = record {
          texts = All-cons P _ [] refl (All-nil P);
          apart = λ p. tt;
          texts_childless = λ x p is. absurd (no_parent x p is);
          voids_childless = λ x p is. absurd (no_parent x p is);
          order = λ x p is. absurd (no_parent (suc x) p is);
        };
        length_is = refl;
        parents = λ x p is. absurd (no_parent x p is);
        chain = (0, refl);
        falls = omega arith;
        hold = (refl, refl);
      };
      tails = none_ends;
      words = IsUtf8-nil;
    }

tree_shape : (total : ℕ) (text : List ℕ) (s : State) → IsUtf8 text → IsTree total text s → HasShape s.nodes
tree_shape total text s is tree =
    let done = settled_fine (fold (step total) beginning tree.0) (steps_fine total text tree.0 beginning is tree.1 begun) in
    subst (λ (t : State). HasShape t.nodes) (sym tree.2) done.shaped.shape

pub page_shape : (bytes text : List ℕ) (page : Page) → IsText bytes text → IsPage bytes page → HasShape page.nodes
page_shape bytes text page is tree =
    subst (λ (p : Page). HasShape p.nodes) (sym tree.2) (tree_shape (length (without_prelude bytes)) _ tree.0 (page_utf8 bytes (utf8 is)) tree.1)

pub whole_shape : (bytes text : List ℕ) (page : Page) → IsText bytes text → IsWholePage bytes page → HasShape page.nodes
whole_shape bytes text page is tree =
    subst (λ (p : Page). HasShape p.nodes) (sym tree.2) (tree_shape (length bytes) _ tree.0 (behind_mark bytes (utf8 is)) tree.1)
