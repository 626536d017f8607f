-- The children that a page's pieces are, as the pieces are read one by one.
use Rattle.std.proofs.Common.{◌≡◌, ◌≢◌, ℕ, ◌+◌, ◌||◌, Bool, true, false, cond, List, [], ◌∷◌, ◌++◌, length, drop, fold, codes, nat_lt, All, Option, Some, None, refl, sym, ap, subst, ◌∙◌, arith, ⊎_elim, append-nil, append_assoc, length-append}
use Rattle.std.proofs.lemmas.Bool.{cases_Bool, cond-true, cond-false, cond_both, false≢true}
use Rattle.std.proofs.lemmas.List.Elements.{All-nil, All-cons, All-head, All-tail}
use Rattle.std.proofs.lemmas.List.Sums.{fold-append}
use Rattle.html_profile.proofs.LastOnes.{none_closed}
use Rattle.html_profile.proofs.OnePage.{one_list}
use Rattle.std.specs.List.{list_any}
use Rattle.std.specs.Str.{bytes_eq}
use Rattle.std.specs.Cmp.Lexicographic.{bytes_decides, nat_list_eq_equiv}
use Rattle.html_profile.specs.Names.{is_void}
use Rattle.html_profile.specs.FirstPlace.{mark_len}
use Rattle.html_profile.specs.Pieces.{raw_of, source, read_source, IsTag, end_name, IsPieceOf, kind_of, Reads}
use Rattle.html_profile.specs.Page.{Page, IsPageBehind, IsPage, IsWholePage, without_prelude}
use Rattle.html_profile.specs.Marks.{place}
use Rattle.html_profile.specs.Standing.{names_of}
use Rattle.html_profile.specs.Tree.{State, innermost, with_text, settled, closed, with_closed, element_of, with_element, step, beginning, made}
use Rattle.html_profile.specs.Nesting.{Children, Words, Element, nothing, numbered, IsQuiet, words_in, words_of, AreChildren, words_alone, void_element, closed_element, open_element, AreNested, IsNested}
use Rattle.html_profile.specs.declared.mark.Mark.TheVariants.{TagEnd}
use Rattle.html_profile.specs.declared.piece.Kind.{Kind}
use Rattle.html_profile.specs.declared.piece.Kind.TheVariants.{Comment, Other, Ending, Starting, Words as words_kind}
use Rattle.html_profile.specs.declared.tag.Attribute.{Attribute}
use Rattle.html_profile.specs.declared.piece.Tag.{Tag}
use Rattle.html_profile.specs.declared.piece.Piece.{Piece}
use Rattle.html_profile.specs.declared.piece.Piece.TheVariants.{Dropped, Text, EndTag, StartTag}
use Rattle.html_profile.specs.declared.document.DocNode.{DocNode}
use Rattle.html_profile.specs.declared.tree.Open.{Open}

-- ---- words in front

abbrev fronted : List ℕ → Children → Children
fronted w (Words v) = Words (w ++ v)
fronted w (Element v tag own behind) = Element (w ++ v) tag own behind

fronted_twice : (w v : List ℕ) (c : Children) → fronted w (fronted v c) ≡ fronted (w ++ v) c
fronted_twice w v (Words u) = ap Words (sym (append_assoc w v u))
fronted_twice w v (Element u tag own behind) = ap (λ l. Element l tag own behind) (sym (append_assoc w v u))

fronted_none : (c : Children) → fronted [] c ≡ c
fronted_none (Words u) = refl
fronted_none (Element u tag own behind) = refl

no_run : (around : List (List ℕ)) → All (IsQuiet around) []
no_run around = All-nil (IsQuiet around)

piece_before : {around : List (List ℕ)} {end : Option (List ℕ)} {pieces : List Piece} {c : Children} (piece : Piece) → IsQuiet around piece
    → AreChildren around end pieces c → AreChildren around end (piece ∷ pieces) (fronted (words_in piece) c)
piece_before {around = around} piece quiet (words_alone run all) = words_alone (piece ∷ run) (All-cons (IsQuiet around) piece run quiet all)
piece_before {around = around} piece quiet (void_element run all is behind) =
    void_element (piece ∷ run) (All-cons (IsQuiet around) piece run quiet all) is behind
piece_before {around = around} piece quiet (closed_element run all is own behind) =
    closed_element (piece ∷ run) (All-cons (IsQuiet around) piece run quiet all) is own behind
piece_before {around = around} piece quiet (open_element run all is differs own) =
    open_element (piece ∷ run) (All-cons (IsQuiet around) piece run quiet all) is differs own

-- ---- nodes

with_text_behind : (nodes : List DocNode) (p : ℕ) (words : List ℕ) → with_text nodes p words ≡ nodes ++ with_text [] p words
with_text_behind nodes p [] = sym (append-nil nodes)
with_text_behind nodes p (c ∷ words) = refl

text_count : (nodes : List DocNode) (p : ℕ) (words : List ℕ) → length (with_text nodes p words) ≡ length nodes + length (with_text [] p words)
text_count nodes p words = ap length (with_text_behind nodes p words) ∙ length-append nodes (with_text [] p words)

module _ (p n : ℕ) (w : List ℕ) (tag : Tag) (own : Children) where
  abbrev text_before : List DocNode
  text_before = with_text [] p w

  abbrev number : ℕ
  number = n + length text_before

  abbrev nodes_below : List DocNode
  nodes_below = numbered number (number + 1) own

  element_nodes : (behind : Children) → numbered p n (fronted w (Element [] tag own behind)) ≡ (text_before ++ element_of p tag ∷ nodes_below) ++ numbered p (number + 1 + length nodes_below) behind
  element_nodes behind =
      ap (λ l. numbered p n (Element l tag own behind)) (append-nil w)
      ∙ sym (append_assoc text_before (element_of p tag ∷ nodes_below) (numbered p (number + 1 + length nodes_below) behind))

-- ---- what is still to be read, where these elements are open, from this number on, and behind these words: the rest of what the innermost
-- one holds, and, behind an end tag that closes some, the rest of what is open then

data Rest : List Open → ℕ → List ℕ → List Piece → List DocNode → Type 0 where
  to_page_end : {os : List Open} {n : ℕ} {w : List ℕ} {pieces : List Piece} {nodes : List DocNode} (c : Children) →
      AreChildren (names_of os) None pieces c → nodes ≡ numbered (innermost os) n (fronted w c) → Rest os n w pieces nodes
  to_end_tag : {os : List Open} {n : ℕ} {w : List ℕ} {pieces : List Piece} {nodes : List DocNode} (name : List ℕ) (inner after : List Piece) (c : Children) (more : List Open) (behind : List DocNode) →
      AreChildren (names_of os) (Some name) inner c → closed name os ≡ Some more →
      Rest more (n + length (numbered (innermost os) n (fronted w c))) [] after behind →
      pieces ≡ inner ++ EndTag name ∷ after → nodes ≡ numbered (innermost os) n (fronted w c) ++ behind → Rest os n w pieces nodes

module _ (os : List Open) (n m : ℕ) (w v : List ℕ) (front : List Piece) (first : List DocNode) (put : Children → Children) (count : m ≡ n + length first)
    (are : (end : Option (List ℕ)) (pieces : List Piece) (c : Children) → AreChildren (names_of os) end pieces c → AreChildren (names_of os) end (front ++ pieces) (put c))
    (nodes_are : (c : Children) → numbered (innermost os) n (fronted w (put c)) ≡ first ++ numbered (innermost os) m (fronted v c)) where
  count_on : (c : Children) → m + length (numbered (innermost os) m (fronted v c)) ≡ n + length (numbered (innermost os) n (fronted w (put c)))
  count_on c =
      let e = ap length (nodes_are c) in
      let l = length-append first (numbered (innermost os) m (fronted v c)) in
      omega arith

  prefixed : (pieces : List Piece) (nodes : List DocNode) → Rest os m v pieces nodes → Rest os n w (front ++ pieces) (first ++ nodes)
  prefixed pieces nodes (to_page_end c holds is) = to_page_end (put c) (are None pieces c holds) (ap (λ l. first ++ l) is ∙ sym (nodes_are c))
  prefixed pieces nodes (to_end_tag name inner after c more behind holds found rest pieces_are is) =
      to_end_tag name (front ++ inner) after (put c) more behind (are (Some name) inner c holds) found
      (subst (λ k. Rest more k [] after behind) (count_on c) rest)
      (ap (λ l. front ++ l) pieces_are ∙ sym (append_assoc front inner (EndTag name ∷ after)))
      (ap (λ l. first ++ l) is ∙ sym (append_assoc first (numbered (innermost os) m (fronted v c)) behind) ∙ ap (λ l. l ++ behind) (sym (nodes_are c)))

quiet_rest : (os : List Open) (n : ℕ) (w : List ℕ) (piece : Piece) (pieces : List Piece) (nodes : List DocNode) → IsQuiet (names_of os) piece → Rest os n (w ++ words_in piece) pieces nodes → Rest os n w (piece ∷ pieces) nodes
quiet_rest os n w piece pieces nodes quiet rest =
    prefixed os n n w (w ++ words_in piece) (piece ∷ []) [] (fronted (words_in piece)) (omega arith) (λ end pieces c holds. piece_before piece quiet holds)
    (λ c. ap (numbered (innermost os) n) (fronted_twice w (words_in piece) c)) pieces nodes rest

-- ---- names

or_none : (a b : Bool) → a ≡ false → b ≡ false → (a || b) ≡ false
or_none a b one two = ap (λ x. x || b) one ∙ two

none_around : (name : List ℕ) (os : List Open) → closed name os ≡ None → list_any (bytes_eq name) (names_of os) ≡ false
none_around name [] is = refl
none_around name (o ∷ os) is =
    ⊎_elim
    (λ same. let e : Some os ≡ None = sym (cond-true (bytes_eq o.name name) (Some os) (closed name os) same) ∙ is in absurd cc)
    (λ other.
    or_none (bytes_eq name o.name) (list_any (bytes_eq name) (names_of os)) (nat_list_eq_equiv.symm name o.name ∙ other)
    (none_around name os (sym (cond-false (bytes_eq o.name name) (Some os) (closed name os) other) ∙ is)))
    (cases_Bool (bytes_eq o.name name))

some_open : (a b : List Open) → Some a ≡ Some b → a ≡ b
some_open a b is = cc

some_name : (a b : List ℕ) → Some a ≡ Some b → a ≡ b
some_name a b is = cc

none_name : (a : List ℕ) → None ≡ Some a → ⊥
none_name a is = cc

-- ---- an element that is opened

module _ (os : List Open) (n : ℕ) (w : List ℕ) (tag : Tag) (is : is_void tag.name ≡ false) where
  abbrev x : ℕ
  x = n + length (with_text [] (innermost os) w)

  abbrev here : Open
  here = record { node = x; name = tag.name }

  abbrev first_nodes : List DocNode
  first_nodes = with_text [] (innermost os) w ++ element_of (innermost os) tag ∷ []

  left_open : (c : Children) → first_nodes ++ numbered x (x + 1) (fronted tag.text c) ≡ numbered (innermost os) n (fronted w (Element [] tag (fronted tag.text c) nothing))
  left_open c =
      append_assoc (with_text [] (innermost os) w) (element_of (innermost os) tag ∷ []) (numbered x (x + 1) (fronted tag.text c))
      ∙ sym (append-nil (with_text [] (innermost os) w ++ element_of (innermost os) tag ∷ numbered x (x + 1) (fronted tag.text c)))
      ∙ sym (element_nodes (innermost os) n w tag (fronted tag.text c) nothing)

  open_one : (end : Option (List ℕ)) (inner : List Piece) (c : Children) → end ≢ Some tag.name → AreChildren (tag.name ∷ names_of os) end inner c
      → AreChildren (names_of os) end (StartTag tag ∷ inner) (Element [] tag (fronted tag.text c) nothing)
  open_one end inner c differs holds = open_element [] (no_run (names_of os)) is differs (piece_before (Text tag.text) tt holds)

  closed_one : (inner : List Piece) (c : Children) → AreChildren (tag.name ∷ names_of os) (Some tag.name) inner c → (end : Option (List ℕ)) (pieces : List Piece) (behind : Children)
      → AreChildren (names_of os) end pieces behind → AreChildren (names_of os) end ((StartTag tag ∷ (inner ++ EndTag tag.name ∷ [])) ++ pieces) (Element [] tag (fronted tag.text c) behind)
  closed_one inner c holds end pieces behind more =
      subst (λ l. AreChildren (names_of os) end (StartTag tag ∷ l) (Element [] tag (fronted tag.text c) behind)) (sym (append_assoc inner (EndTag tag.name ∷ []) pieces))
      (closed_element [] (no_run (names_of os)) is (piece_before (Text tag.text) tt holds) more)

  closed_nodes : (c behind : Children) → numbered (innermost os) n (fronted w (Element [] tag (fronted tag.text c) behind))
      ≡ (first_nodes ++ numbered x (x + 1) (fronted tag.text c)) ++ numbered (innermost os) (x + 1 + length (numbered x (x + 1) (fronted tag.text c))) (fronted [] behind)
  closed_nodes c behind =
      element_nodes (innermost os) n w tag (fronted tag.text c) behind
      ∙ ap (λ l. l ++ numbered (innermost os) (x + 1 + length (numbered x (x + 1) (fronted tag.text c))) behind)
      (sym (append_assoc (with_text [] (innermost os) w) (element_of (innermost os) tag ∷ []) (numbered x (x + 1) (fronted tag.text c))))
      ∙ ap (λ b. (first_nodes ++ numbered x (x + 1) (fronted tag.text c)) ++ numbered (innermost os) (x + 1 + length (numbered x (x + 1) (fronted tag.text c))) b) (sym (fronted_none behind))

  closed_count : (c : Children) → x + 1 + length (numbered x (x + 1) (fronted tag.text c)) ≡ n + length (first_nodes ++ numbered x (x + 1) (fronted tag.text c))
  closed_count c =
      let e = length-append first_nodes (numbered x (x + 1) (fronted tag.text c)) in
      let f = length-append (with_text [] (innermost os) w) (element_of (innermost os) tag ∷ []) in
      omega arith

  opened_rest : (pieces : List Piece) (nodes : List DocNode) → Rest (here ∷ os) (x + 1) tag.text pieces nodes → Rest os n w (StartTag tag ∷ pieces) (first_nodes ++ nodes)
  opened_rest pieces nodes (to_page_end c holds nodes_are) =
      to_page_end (Element [] tag (fronted tag.text c) nothing) (open_one None pieces c (none_name tag.name) holds) (ap (λ l. first_nodes ++ l) nodes_are ∙ left_open c)
  opened_rest pieces nodes (to_end_tag name inner after c more behind holds found rest pieces_are nodes_are) =
      ⊎_elim
      (λ same.
      let name_is : tag.name ≡ name = (bytes_decides tag.name name).0 same in
      let more_is : os ≡ more = some_open os more (sym (cond-true (bytes_eq tag.name name) (Some os) (closed name os) same) ∙ found) in
      let held = subst (λ l. AreChildren (tag.name ∷ names_of os) (Some l) inner c) (sym name_is) holds in
      let again : Rest os (x + 1 + length (numbered x (x + 1) (fronted tag.text c))) [] after behind = subst (λ l. Rest l (x + 1 + length (numbered x (x + 1) (fronted tag.text c))) [] after behind) (sym more_is) rest in
      let all = prefixed os n (x + 1 + length (numbered x (x + 1) (fronted tag.text c))) w [] (StartTag tag ∷ (inner ++ EndTag tag.name ∷ [])) (first_nodes ++ numbered x (x + 1) (fronted tag.text c)) (λ b. Element [] tag (fronted tag.text c) b)
      (closed_count c) (closed_one inner c held) (closed_nodes c) after behind again in
      let these : (StartTag tag ∷ (inner ++ EndTag tag.name ∷ [])) ++ after ≡ StartTag tag ∷ pieces =
      ap (λ l. StartTag tag ∷ l) (append_assoc inner (EndTag tag.name ∷ []) after ∙ ap (λ l. inner ++ EndTag l ∷ after) name_is ∙ sym pieces_are) in
      let those : (first_nodes ++ numbered x (x + 1) (fronted tag.text c)) ++ behind ≡ first_nodes ++ nodes =
      append_assoc first_nodes (numbered x (x + 1) (fronted tag.text c)) behind ∙ ap (λ l. first_nodes ++ l) (sym nodes_are) in
      subst (Rest os n w (StartTag tag ∷ pieces)) those (subst (λ l. Rest os n w l ((first_nodes ++ numbered x (x + 1) (fronted tag.text c)) ++ behind)) these all))
      (λ other.
      let found_is : closed name os ≡ Some more = sym (cond-false (bytes_eq tag.name name) (Some os) (closed name os) other) ∙ found in
      let differs : Some name ≢ Some tag.name = λ e. false≢true (sym other ∙ (bytes_decides tag.name name).1 (sym (some_name name tag.name e))) in
      let nodes_long : first_nodes ++ numbered x (x + 1) (fronted tag.text c) ≡ numbered (innermost os) n (fronted w (Element [] tag (fronted tag.text c) nothing)) = left_open c in
      let count : x + 1 + length (numbered x (x + 1) (fronted tag.text c)) ≡ n + length (numbered (innermost os) n (fronted w (Element [] tag (fronted tag.text c) nothing))) =
      closed_count c ∙ ap (λ l. n + length l) nodes_long in
      to_end_tag name (StartTag tag ∷ inner) after (Element [] tag (fronted tag.text c) nothing) more behind (open_one (Some name) inner c differs holds) found_is
      (subst (λ k. Rest more k [] after behind) count rest)
      (ap (λ l. StartTag tag ∷ l) pieces_are)
      (ap (λ l. first_nodes ++ l) nodes_are ∙ sym (append_assoc first_nodes (numbered x (x + 1) (fronted tag.text c)) behind) ∙ ap (λ l. l ++ behind) nodes_long))
      (cases_Bool (bytes_eq tag.name name))

-- ---- a void element has no raw text

abbrev IsTidy : Piece → Type 0
IsTidy Dropped = Unit {0}
IsTidy (Text words) = Unit {0}
IsTidy (EndTag name) = Unit {0}
IsTidy (StartTag tag) = is_void tag.name ≡ true → tag.text ≡ []

abbrev AllTidy : List Piece → Type 0
AllTidy [] = Unit {0}
AllTidy (piece ∷ pieces) = IsTidy piece × AllTidy pieces

not_raw : (name raw : List ℕ) → is_void raw ≡ false → is_void name ≡ true → bytes_eq name raw ≡ false
not_raw name raw is void =
    ⊎_elim
    (λ same. absurd (false≢true (sym is ∙ ap is_void (sym ((bytes_decides name raw).0 same)) ∙ void)))
    (λ other. other)
    (cases_Bool (bytes_eq name raw))

void_not_raw : (name : List ℕ) → is_void name ≡ true → raw_of name ≡ None
void_not_raw name void =
    cond-false _ _ _ (not_raw name (codes "script") refl void) ∙ cond-false _ _ _ (not_raw name (codes "style") refl void)
    ∙ cond-false _ _ _ (not_raw name (codes "title") refl void) ∙ cond-false _ _ _ (not_raw name (codes "textarea") refl void)

tag_tidy : (name : List ℕ) (attributes : List Attribute) (end : Option (List ℕ)) (piece : Piece) (behind : List ℕ) → IsTag name attributes end piece behind → IsTidy piece
tag_tidy name attributes None piece behind is = subst IsTidy (sym is.0) tt
tag_tidy name attributes (Some rest) piece behind is =
    subst IsTidy (sym is.0) (λ void. ap (λ r. read_source r (source r rest)) (void_not_raw name void))

kind_tidy : (kind : Kind) (text : List ℕ) (piece : Piece) (behind : List ℕ) → IsPieceOf kind text piece behind → IsTidy piece
kind_tidy Comment text piece behind is = subst IsTidy (sym is.0) tt
kind_tidy Other text piece behind is = subst IsTidy (sym is.0) tt
kind_tidy Ending text piece behind is =
    subst IsTidy (sym is.0) (cond_both (nat_lt (place TagEnd text) (length text)) (EndTag (end_name text)) Dropped IsTidy (λ _. tt) (λ _. tt))
kind_tidy Starting text piece behind is = tag_tidy _ is.attributes is.rest piece behind is.tag
kind_tidy words_kind text piece behind is = subst IsTidy (sym is.0) tt

all_tidy : (text : List ℕ) (pieces : List Piece) (rest : List ℕ) → Reads text pieces rest → AllTidy pieces
all_tidy text [] rest reads = tt
all_tidy text (piece ∷ pieces) rest reads = (kind_tidy (kind_of text) text piece reads.0 reads.2, all_tidy reads.0 pieces rest reads.3)

-- ---- piece by piece: from one state the pieces lead to another, and what is read on the way is what was still to be read

abbrev Read : State → List Piece → State → Type 0
Read s pieces t = (nodes : List DocNode) × Rest s.open_elements (length s.nodes) s.words pieces nodes × (t.nodes ≡ s.nodes ++ nodes)

quiet_read : (s t : State) (piece : Piece) (pieces : List Piece) → IsQuiet (names_of s.open_elements) piece → words_in piece ≡ [] → Read s pieces t → Read s (piece ∷ pieces) t
quiet_read s t piece pieces quiet none again = (
  again.0,
  quiet_rest s.open_elements (length s.nodes) s.words piece pieces again.0 quiet
      (subst (λ l. Rest s.open_elements (length s.nodes) l pieces again.0) (sym (append-nil s.words) ∙ ap (λ l. s.words ++ l) (sym none)) again.1),
  again.2,
)

module _ (s : State) where
  abbrev inner_one : ℕ
  inner_one = innermost s.open_elements

  abbrev last_text : List DocNode
  last_text = numbered inner_one (length s.nodes) (fronted s.words nothing)

  last_text_is : with_text s.nodes inner_one s.words ≡ s.nodes ++ last_text
  last_text_is = with_text_behind s.nodes inner_one s.words ∙ ap (λ l. s.nodes ++ with_text [] inner_one l) (sym (append-nil s.words))

  end_tag_read : (t : State) (name : List ℕ) (pieces : List Piece) (found : Option (List Open)) → closed name s.open_elements ≡ found → Read (with_closed s found) pieces t → Read s (EndTag name ∷ pieces) t
  end_tag_read t name pieces None is again = quiet_read s t (EndTag name) pieces (none_around name s.open_elements is) refl again
  end_tag_read t name pieces (Some more) is again =
      let count : length (with_text s.nodes inner_one s.words) ≡ length s.nodes + length last_text = ap length last_text_is ∙ length-append s.nodes last_text in (
        last_text ++ again.0,
        to_end_tag name [] pieces nothing more again.0 (words_alone [] (no_run (names_of s.open_elements))) is (subst (λ k. Rest more k [] pieces again.0) count again.1) refl refl,
        again.2 ∙ ap (λ l. l ++ again.0) last_text_is ∙ append_assoc s.nodes last_text again.0,
      )

  module _ (total : ℕ) (tag : Tag) where
    abbrev added_element : DocNode
    added_element = element_of inner_one tag

    abbrev settled_nodes : List DocNode
    settled_nodes = with_text s.nodes inner_one s.words

    abbrev behind_tag : Bool → State
    behind_tag void = record (with_element total (settled s) tag) { open_elements = cond void s.open_elements (record { node = length settled_nodes; name = tag.name } ∷ s.open_elements) }

    abbrev new_nodes : List DocNode
    new_nodes = with_text [] inner_one s.words ++ added_element ∷ []

    all_nodes : settled_nodes ++ added_element ∷ [] ≡ s.nodes ++ new_nodes
    all_nodes = ap (λ l. l ++ added_element ∷ []) (with_text_behind s.nodes inner_one s.words) ∙ append_assoc s.nodes (with_text [] inner_one s.words) (added_element ∷ [])

    all_count : length (settled_nodes ++ added_element ∷ []) ≡ length s.nodes + length new_nodes
    all_count = ap length all_nodes ∙ length-append s.nodes new_nodes

    abbrev spot : ℕ
    spot = length s.nodes + length (with_text [] inner_one s.words)

    next_count : length (settled_nodes ++ added_element ∷ []) ≡ spot + 1
    next_count = let e = length-append (with_text [] inner_one s.words) (added_element ∷ []) in let f = all_count in omega arith

    void_nodes : (c : Children) → numbered inner_one (length s.nodes) (fronted s.words (Element [] tag nothing c))
        ≡ new_nodes ++ numbered inner_one (length (settled_nodes ++ added_element ∷ [])) (fronted [] c)
    void_nodes c =
        let e : spot + 1 + 0 ≡ length (settled_nodes ++ added_element ∷ []) = let f = next_count in omega arith in
        element_nodes inner_one (length s.nodes) s.words tag nothing c
        ∙ ap (λ k. new_nodes ++ numbered inner_one k c) e
        ∙ ap (λ b. new_nodes ++ numbered inner_one (length (settled_nodes ++ added_element ∷ [])) b) (sym (fronted_none c))

    start_tag_read : (t : State) (pieces : List Piece) → IsTidy (StartTag tag) → (void : Bool) → is_void tag.name ≡ void → Read (behind_tag void) pieces t → Read s (StartTag tag ∷ pieces) t
    start_tag_read t pieces tidy true is again = (
      new_nodes ++ again.0,
      prefixed s.open_elements (length s.nodes) (length (settled_nodes ++ added_element ∷ [])) s.words [] (StartTag tag ∷ []) new_nodes (λ c. Element [] tag nothing c) all_count
          (λ end inner c holds. void_element [] (no_run (names_of s.open_elements)) is holds) void_nodes pieces again.0
          (subst (λ l. Rest s.open_elements (length (settled_nodes ++ added_element ∷ [])) l pieces again.0) (tidy is) again.1),
      again.2 ∙ ap (λ l. l ++ again.0) all_nodes ∙ append_assoc s.nodes new_nodes again.0,
    )
    start_tag_read t pieces tidy false is again = (
      new_nodes ++ again.0,
      opened_rest s.open_elements (length s.nodes) s.words tag is pieces again.0
          (subst (λ k. Rest (record { node = k; name = tag.name } ∷ s.open_elements) (spot + 1) tag.text pieces again.0) (text_count s.nodes inner_one s.words)
          (subst (λ k. Rest (record { node = length settled_nodes; name = tag.name } ∷ s.open_elements) k tag.text pieces again.0) next_count again.1)),
      again.2 ∙ ap (λ l. l ++ again.0) all_nodes ∙ append_assoc s.nodes new_nodes again.0,
    )

reads : (total : ℕ) (pieces : List Piece) (s : State) → AllTidy pieces → Read s pieces (settled (fold (step total) s pieces))
reads total [] s tidy = (last_text s, to_page_end nothing (words_alone [] (no_run (names_of s.open_elements))) refl, last_text_is s)
reads total (Dropped ∷ pieces) s tidy = quiet_read s (settled (fold (step total) s pieces)) Dropped pieces tt refl (reads total pieces s tidy.1)
reads total (Text words ∷ pieces) s tidy =
    let again = reads total pieces (record s { words = s.words ++ words }) tidy.1 in
    (again.0, quiet_rest s.open_elements (length s.nodes) s.words (Text words) pieces again.0 tt again.1, again.2)
reads total (EndTag name ∷ pieces) s tidy =
    let found = closed name s.open_elements in
    end_tag_read s (settled (fold (step total) (with_closed s found) pieces)) name pieces found refl (reads total pieces (with_closed s found) tidy.1)
reads total (StartTag tag ∷ pieces) s tidy =
    start_tag_read s total tag (settled (fold (step total) (step total s (StartTag tag)) pieces)) pieces tidy.0 (is_void tag.name) refl (reads total pieces (step total s (StartTag tag)) tidy.1)

no_open : (more : List Open) → None ≡ Some more → ⊥
no_open more is = cc

top_read : (pieces : List Piece) (nodes : List DocNode) → Rest [] 1 [] pieces nodes → (c : Children) × AreChildren [] None pieces c × (nodes ≡ numbered 0 1 c)
top_read pieces nodes (to_page_end c holds is) = (c, holds, is ∙ ap (numbered 0 1) (fronted_none c))
top_read pieces nodes (to_end_tag name inner after c more behind holds found rest pieces_are is) = absurd (no_open more found)

made_nested : (total : ℕ) (pieces : List Piece) → AllTidy pieces → AreNested pieces (made total pieces).nodes
made_nested total pieces tidy =
    let all = reads total pieces beginning tidy in
    let top = top_read pieces all.0 all.1 in
    (top.0, top.1, all.2 ∙ ap (λ l. beginning.nodes ++ l) top.2)

behind_nested : (mark : ℕ) (bytes : List ℕ) (page : Page) → IsPageBehind mark bytes page → IsNested (drop mark bytes) page.nodes
behind_nested mark bytes page is =
    subst (λ (p : Page). IsNested (drop mark bytes) p.nodes) (sym is.2)
    (subst (λ (t : State). IsNested (drop mark bytes) t.nodes) (sym is.1.2)
    (is.1.0, is.1.1, made_nested (length bytes) is.1.0 (all_tidy (drop mark bytes) is.1.0 [] is.1.1)))

pub page_nested : (bytes : List ℕ) (page : Page) → IsPage bytes page → IsNested (drop (mark_len bytes) (without_prelude bytes)) page.nodes
page_nested bytes page is = behind_nested (mark_len bytes) (without_prelude bytes) page is

pub whole_nested : (bytes : List ℕ) (page : Page) → IsWholePage bytes page → IsNested (drop (mark_len bytes) bytes) page.nodes
whole_nested bytes page is = behind_nested (mark_len bytes) bytes page is

-- ---- the other way: pieces that are some children lead to the nodes of these children

tidy_front : (front back : List Piece) → AllTidy (front ++ back) → AllTidy front
tidy_front [] back tidy = tt
tidy_front (piece ∷ front) back tidy = (tidy.0, tidy_front front back tidy.1)

tidy_back : (front back : List Piece) → AllTidy (front ++ back) → AllTidy back
tidy_back [] back tidy = tidy
tidy_back (piece ∷ front) back tidy = tidy_back front back tidy.1

-- what stays open where children end
abbrev left : Option (List ℕ) → List Open → Option (List Open)
left None os = Some []
left (Some name) os = closed name os

abbrev finish : Option (List ℕ) → State → State
finish end s = with_closed s (left end s.open_elements)

record Ended (t : State) (nodes : List DocNode) (more : List Open) : Type 0 where
  nodes_are : t.nodes ≡ nodes
  open_are : t.open_elements ≡ more
  words_are : t.words ≡ []

abbrev with_words : State → List ℕ → State
with_words s words = record s { words = s.words ++ words }

module _ (total : ℕ) where
  quiet_step : (s : State) (piece : Piece) → IsQuiet (names_of s.open_elements) piece → step total s piece ≡ with_words s (words_in piece)
  quiet_step s Dropped quiet = ap (λ w. record s { words = w }) (sym (append-nil s.words))
  quiet_step s (Text words) quiet = refl
  quiet_step s (EndTag name) quiet = ap (with_closed s) (none_closed name s.open_elements quiet) ∙ ap (λ w. record s { words = w }) (sym (append-nil s.words))
  quiet_step s (StartTag tag) quiet = absurd quiet

  quiet_fold : (run : List Piece) (s : State) → All (IsQuiet (names_of s.open_elements)) run → fold (step total) s run ≡ with_words s (words_of run)
  quiet_fold [] s all = ap (λ w. record s { words = w }) (sym (append-nil s.words))
  quiet_fold (piece ∷ run) s all =
      let P : Piece → Type 0 = IsQuiet (names_of s.open_elements) in
      ap (λ u. fold (step total) u run) (quiet_step s piece (All-head P piece run all))
      ∙ quiet_fold run (with_words s (words_in piece)) (All-tail P piece run all)
      ∙ ap (λ w. record s { words = w }) (append_assoc s.words (words_in piece) (words_of run))

  -- behind words and a start tag
  after_tag : (run : List Piece) (tag : Tag) (pieces : List Piece) (s : State) → All (IsQuiet (names_of s.open_elements)) run
      → fold (step total) s (run ++ StartTag tag ∷ pieces) ≡ fold (step total) (with_element total (settled (with_words s (words_of run))) tag) pieces
  after_tag run tag pieces s all =
      fold-append (step total) s run (StartTag tag ∷ pieces) ∙ ap (λ u. fold (step total) (step total u (StartTag tag)) pieces) (quiet_fold run s all)

  ended_words : (end : Option (List ℕ)) (s : State) (more : List Open) → left end s.open_elements ≡ Some more
      → Ended (finish end s) (s.nodes ++ numbered (innermost s.open_elements) (length s.nodes) (Words s.words)) more
  ended_words end s more is =
      subst (λ o. Ended (with_closed s o) (s.nodes ++ with_text [] (innermost s.open_elements) s.words) more) (sym is)
      (record { nodes_are = with_text_behind s.nodes (innermost s.open_elements) s.words; open_are = refl; words_are = refl })

  -- an element's nodes, and what stands behind it
  element_split : (s : State) (tag : Tag) (own behind : Children) (m : ℕ) →
      m ≡ spot s total tag + 1 + length (numbered (spot s total tag) (spot s total tag + 1) own)
      → (s.nodes ++ new_nodes s total tag) ++ (numbered (spot s total tag) (spot s total tag + 1) own ++ numbered (innermost s.open_elements) m behind)
      ≡ s.nodes ++ numbered (innermost s.open_elements) (length s.nodes) (Element s.words tag own behind)
  element_split s tag own behind m is =
      let below = numbered (spot s total tag) (spot s total tag + 1) own in
      let text = with_text [] (innermost s.open_elements) s.words in
      let e = element_of (innermost s.open_elements) tag in
      append_assoc s.nodes (text ++ e ∷ []) (below ++ numbered (innermost s.open_elements) m behind)
      ∙ ap (λ l. s.nodes ++ l) (append_assoc text (e ∷ []) (below ++ numbered (innermost s.open_elements) m behind))
      ∙ ap (λ k. s.nodes ++ (text ++ e ∷ (below ++ numbered (innermost s.open_elements) k behind))) is

  -- the nodes up to the last of an element's own
  own_nodes : (s : State) (tag : Tag) (own : Children) →
      (settled_nodes s total tag ++ added_element s total tag ∷ []) ++ numbered (length (settled_nodes s total tag)) (length (settled_nodes s total tag ++ added_element s total tag ∷ [])) (fronted [] own)
      ≡ (s.nodes ++ new_nodes s total tag) ++ numbered (spot s total tag) (spot s total tag + 1) own
  own_nodes s tag own =
      let before = settled_nodes s total tag in
      let all = before ++ added_element s total tag ∷ [] in
      ap (λ c. all ++ numbered (length before) (length all) c) (fronted_none own)
      ∙ ap (λ k. all ++ numbered k (length all) own) (text_count s.nodes (innermost s.open_elements) s.words)
      ∙ ap (λ k. all ++ numbered (spot s total tag) k own) (next_count s total tag)
      ∙ ap (λ l. l ++ numbered (spot s total tag) (spot s total tag + 1) own) (all_nodes s total tag)

  own_count : (s : State) (tag : Tag) (own : Children) →
      length ((s.nodes ++ new_nodes s total tag) ++ numbered (spot s total tag) (spot s total tag + 1) own) ≡ spot s total tag + 1 + length (numbered (spot s total tag) (spot s total tag + 1) own)
  own_count s tag own =
      let e = length-append (s.nodes ++ new_nodes s total tag) (numbered (spot s total tag) (spot s total tag + 1) own) in
      let f = ap length (all_nodes s total tag) in
      let g = next_count s total tag in
      omega arith

  void_ends : (s t : State) (tag : Tag) (behind : Children) (more : List Open) → tag.text ≡ [] → Ended t ((behind_tag s total tag true).nodes ++ numbered (innermost s.open_elements) (length (behind_tag s total tag true).nodes) (fronted tag.text behind)) more
      → Ended t (s.nodes ++ numbered (innermost s.open_elements) (length s.nodes) (Element s.words tag nothing behind)) more
  void_ends s t tag behind more none ended =
      let all = settled_nodes s total tag ++ added_element s total tag ∷ [] in
      let count : length all ≡ spot s total tag + 1 + 0 = let e = next_count s total tag in omega arith in
      subst (λ l. Ended t l more)
      (ap (λ w. all ++ numbered (innermost s.open_elements) (length all) (fronted w behind)) none
      ∙ ap (λ c. all ++ numbered (innermost s.open_elements) (length all) c) (fronted_none behind)
      ∙ ap (λ l. l ++ numbered (innermost s.open_elements) (length all) behind) (all_nodes s total tag)
      ∙ element_split s tag nothing behind (length all) count)
      ended

  open_ends : (s t : State) (tag : Tag) (own : Children) (more : List Open) →
      Ended t ((behind_tag s total tag false).nodes ++ numbered (length (settled_nodes s total tag)) (length (behind_tag s total tag false).nodes) (fronted [] own)) more
      → Ended t (s.nodes ++ numbered (innermost s.open_elements) (length s.nodes) (Element s.words tag own nothing)) more
  open_ends s t tag own more ended =
      let below = numbered (spot s total tag) (spot s total tag + 1) own in
      subst (λ l. Ended t l more)
      (own_nodes s tag own
      ∙ ap (λ l. (s.nodes ++ new_nodes s total tag) ++ l) (sym (append-nil below))
      ∙ element_split s tag own nothing (spot s total tag + 1 + length below) refl)
      ended

  closed_ends : (s u t : State) (tag : Tag) (own behind : Children) (more : List Open) →
      Ended u ((behind_tag s total tag false).nodes ++ numbered (length (settled_nodes s total tag)) (length (behind_tag s total tag false).nodes) (fronted [] own)) s.open_elements
      → Ended t (u.nodes ++ numbered (innermost u.open_elements) (length u.nodes) (fronted u.words behind)) more
      → Ended t (s.nodes ++ numbered (innermost s.open_elements) (length s.nodes) (Element s.words tag own behind)) more
  closed_ends s u t tag own behind more inner ended =
      let below = numbered (spot s total tag) (spot s total tag + 1) own in
      let so_far = (s.nodes ++ new_nodes s total tag) ++ below in
      let nodes_are : u.nodes ≡ so_far = inner.nodes_are ∙ own_nodes s tag own in
      subst (λ l. Ended t l more)
      (ap (λ w. u.nodes ++ numbered (innermost u.open_elements) (length u.nodes) (fronted w behind)) inner.words_are
      ∙ ap (λ c. u.nodes ++ numbered (innermost u.open_elements) (length u.nodes) c) (fronted_none behind)
      ∙ ap (λ o. u.nodes ++ numbered (innermost o) (length u.nodes) behind) inner.open_are
      ∙ ap (λ l. l ++ numbered (innermost s.open_elements) (length l) behind) nodes_are
      ∙ append_assoc (s.nodes ++ new_nodes s total tag) below (numbered (innermost s.open_elements) (length so_far) behind)
      ∙ element_split s tag own behind (length so_far) (own_count s tag own))
      ended

  left_more : (end : Option (List ℕ)) (tag : Tag) (node : ℕ) (os more : List Open) → end ≢ Some tag.name → left end os ≡ Some more → left end (record { node = node; name = tag.name } ∷ os) ≡ Some more
  left_more None tag node os more differs is = is
  left_more (Some name) tag node os more differs is =
      ⊎_elim
      (λ same. absurd (differs (ap Some (sym ((bytes_decides tag.name name).0 same)))))
      (λ other. cond-false (bytes_eq tag.name name) (Some os) (closed name os) other ∙ is)
      (cases_Bool (bytes_eq tag.name name))

  -- behind words and a start tag, where it is known whether it is that of a void element
  at_tag : (run : List Piece) (tag : Tag) (pieces : List Piece) (s : State) (void : Bool) → All (IsQuiet (names_of s.open_elements)) run → is_void tag.name ≡ void
      → fold (step total) s (run ++ StartTag tag ∷ pieces) ≡ fold (step total) (behind_tag (with_words s (words_of run)) total tag void) pieces
  at_tag run tag pieces s void all is = after_tag run tag pieces s all ∙ ap (λ b. fold (step total) (behind_tag (with_words s (words_of run)) total tag b) pieces) is

  abbrev Folds : List (List ℕ) → Option (List ℕ) → List Piece → Children → Type 0
  Folds around end pieces c = AllTidy pieces → (s : State) → around ≡ names_of s.open_elements → (more : List Open) → left end s.open_elements ≡ Some more
      → Ended (finish end (fold (step total) s pieces)) (s.nodes ++ numbered (innermost s.open_elements) (length s.nodes) (fronted s.words c)) more

  module _ (around : List (List ℕ)) (end : Option (List ℕ)) (run : List Piece) (all : All (IsQuiet around) run) where
    quiet_here : (s : State) → around ≡ names_of s.open_elements → All (IsQuiet (names_of s.open_elements)) run
    quiet_here s same = subst (λ a. All (IsQuiet a) run) same all

    words_fold : Folds around end run (Words (words_of run))
    words_fold tidy s same more is =
        subst (λ u. Ended (finish end u) (s.nodes ++ numbered (innermost s.open_elements) (length s.nodes) (Words (s.words ++ words_of run))) more) (sym (quiet_fold run s (quiet_here s same)))
        (ended_words end (with_words s (words_of run)) more is)

    module _ (tag : Tag) where
      void_fold : (pieces : List Piece) (behind : Children) → is_void tag.name ≡ true → Folds around end pieces behind → Folds around end (run ++ StartTag tag ∷ pieces) (Element (words_of run) tag nothing behind)
      void_fold pieces behind void again tidy s same more is =
          let rest = tidy_back run (StartTag tag ∷ pieces) tidy in
          let u = with_words s (words_of run) in
          subst (λ v. Ended (finish end v) (s.nodes ++ numbered (innermost s.open_elements) (length s.nodes) (Element u.words tag nothing behind)) more) (sym (at_tag run tag pieces s true (quiet_here s same) void))
          (void_ends u _ tag behind more (rest.0 void) (again rest.1 (behind_tag u total tag true) same more is))

      open_fold : (inner : List Piece) (own : Children) → is_void tag.name ≡ false → end ≢ Some tag.name → Folds (tag.name ∷ around) end (Text tag.text ∷ inner) own
          → Folds around end (run ++ StartTag tag ∷ inner) (Element (words_of run) tag own nothing)
      open_fold inner own void differs again tidy s same more is =
          let rest = tidy_back run (StartTag tag ∷ inner) tidy in
          let u = with_words s (words_of run) in
          subst (λ v. Ended (finish end v) (s.nodes ++ numbered (innermost s.open_elements) (length s.nodes) (Element u.words tag own nothing)) more) (sym (at_tag run tag inner s false (quiet_here s same) void))
          (open_ends u _ tag own more
          (again (tt, rest.1) (record (behind_tag u total tag false) { words = [] }) (ap (λ l. tag.name ∷ l) same) more (left_more end tag (length (settled_nodes u total tag)) s.open_elements more differs is)))

      closed_fold : (inner pieces : List Piece) (own behind : Children) → is_void tag.name ≡ false → Folds (tag.name ∷ around) (Some tag.name) (Text tag.text ∷ inner) own → Folds around end pieces behind
          → Folds around end (run ++ StartTag tag ∷ (inner ++ EndTag tag.name ∷ pieces)) (Element (words_of run) tag own behind)
      closed_fold inner pieces own behind void within again tidy s same more is =
          let rest = tidy_back run (StartTag tag ∷ (inner ++ EndTag tag.name ∷ pieces)) tidy in
          let after = tidy_back inner (EndTag tag.name ∷ pieces) rest.1 in
          let u = with_words s (words_of run) in
          let closes : left (Some tag.name) (record { node = length (settled_nodes u total tag); name = tag.name } ∷ s.open_elements) ≡ Some s.open_elements =
          cond-true (bytes_eq tag.name tag.name) (Some s.open_elements) (closed tag.name s.open_elements) ((bytes_decides tag.name tag.name).1 refl) in
          let ended = within (tt, tidy_front inner (EndTag tag.name ∷ pieces) rest.1) (record (behind_tag u total tag false) { words = [] }) (ap (λ l. tag.name ∷ l) same) s.open_elements closes in
          let v = finish (Some tag.name) (fold (step total) (behind_tag u total tag false) inner) in
          let e : fold (step total) s (run ++ StartTag tag ∷ (inner ++ EndTag tag.name ∷ pieces)) ≡ fold (step total) v pieces =
          at_tag run tag (inner ++ EndTag tag.name ∷ pieces) s false (quiet_here s same) void ∙ fold-append (step total) (behind_tag u total tag false) inner (EndTag tag.name ∷ pieces) in
          subst (λ z. Ended (finish end z) (s.nodes ++ numbered (innermost s.open_elements) (length s.nodes) (Element u.words tag own behind)) more) (sym e)
          (closed_ends u v _ tag own behind more ended (again after.1 v (same ∙ ap names_of (sym ended.open_are)) more (ap (left end) ended.open_are ∙ is)))

  folds : {around : List (List ℕ)} {end : Option (List ℕ)} {pieces : List Piece} {c : Children} → AreChildren around end pieces c → Folds around end pieces c
  folds {around = around} {end = end} (words_alone run all) = words_fold around end run all
  folds {around = around} {end = end} (void_element {pieces = pieces} {tag = tag} {behind = behind} run all void more) = void_fold around end run all tag pieces behind void (folds more)
  folds {around = around} {end = end} (closed_element {inner = inner} {pieces = pieces} {tag = tag} {own = own} {behind = behind} run all void within more) =
      closed_fold around end run all tag inner pieces own behind void (folds within) (folds more)
  folds {around = around} {end = end} (open_element {inner = inner} {tag = tag} {own = own} run all void differs within) = open_fold around end run all tag inner own void differs (folds within)

nested_made : (total : ℕ) (pieces : List Piece) (nodes : List DocNode) → AllTidy pieces → AreNested pieces nodes → nodes ≡ (made total pieces).nodes
nested_made total pieces nodes tidy nested =
    let ended = folds total nested.1 tidy beginning refl [] refl in
    nested.2 ∙ ap (λ c. beginning.nodes ++ numbered 0 1 c) (sym (fronted_none nested.0)) ∙ sym ended.nodes_are

pub one_nesting : (text : List ℕ) (nodes others : List DocNode) → IsNested text nodes → IsNested text others → nodes ≡ others
one_nesting text nodes others one two =
    nested_made 0 one.0 nodes (all_tidy text one.0 [] one.1) one.2
    ∙ ap (λ l. (made 0 l).nodes) (one_list text one.0 two.0 one.1 two.1)
    ∙ sym (nested_made 0 two.0 others (all_tidy text two.0 [] two.1) two.2)
