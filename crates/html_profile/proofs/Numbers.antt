-- The nodes that pieces make are numbered.
use Rattle.std.proofs.Common.{◌≡◌, ℕ, zero, suc, ◌+◌, ◌<◌, ◌≤◌, All, map, Bool, true, false, cond, List, [], ◌∷◌, ◌++◌, length, fold, Option, Some, None, refl, sym, ap, subst, ◌∙◌, arith, length-append, ⊎_elim}
use Rattle.std.proofs.lemmas.Bool.{cases_eq, cases_lt, cases_Bool, false≢true, cond-true, cond-false, cond_both}
use Rattle.std.specs.List.{slice_get}
use Rattle.std.specs.Str.{bytes_eq}
use Rattle.html_profile.specs.Names.{is_void, is_run, is_handler, firsts}
use Rattle.std.proofs.lemmas.List.Elements.{All-nil, All-cons, All-append, All-weaker}
use Rattle.html_profile.specs.Numbering.{parent_in, is_text_content, is_text_in, is_document_content, is_document_in, is_element, is_element_in, IsNumbered}
use Rattle.html_profile.specs.Coherence.{IsCoherent}
use Rattle.html_profile.specs.Tree.{State, units, innermost, with_text, settled, closed, with_closed, element_of, with_element, script_of, handler_of, handlers_of, name_at, step, beginning}
use Rattle.html_profile.specs.Page.{IsTree, page_of}
use Rattle.html_profile.specs.declared.tag.Attribute.{Attribute}
use Rattle.html_profile.specs.declared.piece.Tag.{Tag}
use Rattle.html_profile.specs.declared.document.ScriptAt.{ScriptAt}
use Rattle.html_profile.specs.declared.document.HandlerAt.{HandlerAt}
use Rattle.html_profile.specs.declared.document.NameAt.{NameAt}
use Rattle.html_profile.specs.declared.piece.Piece.{Piece}
use Rattle.html_profile.specs.declared.piece.Piece.TheVariants.{Dropped, Text, EndTag, StartTag}
use Rattle.html_profile.specs.declared.document.DocNode.{DocNode}
use Rattle.html_profile.specs.declared.document.Content.TheVariants.{Document as document, Element as element, Text as text_node}
use Rattle.html_profile.specs.declared.document.Content.{Content}
use Rattle.html_profile.specs.declared.tree.Open.{Open}

at_before : (node : DocNode) (nodes : List DocNode) (x : ℕ) → x < length nodes → slice_get (nodes ++ node ∷ []) x ≡ slice_get nodes x
at_before node [] x inside = absurd (omega arith)
at_before node (n ∷ nodes) zero inside = refl
at_before node (n ∷ nodes) (suc x) inside = at_before node nodes x (omega arith)

at_last : (node : DocNode) (nodes : List DocNode) → slice_get (nodes ++ node ∷ []) (length nodes) ≡ Some node
at_last node [] = refl
at_last node (n ∷ nodes) = at_last node nodes

some_node : (nodes : List DocNode) → is_document_in (slice_get nodes 0) ≡ true → 0 < length nodes
some_node [] is = absurd (false≢true is)
some_node (node ∷ nodes) is = omega arith

-- a node that may be a parent
abbrev Holds : List DocNode → ℕ → Type 0
Holds nodes p = (p < length nodes) × (is_text_in (slice_get nodes p) ≡ false)

longer : (nodes : List DocNode) (node : DocNode) → length (nodes ++ node ∷ []) ≡ length nodes + 1
longer nodes node = length-append nodes (node ∷ [])

holds_more : (nodes : List DocNode) (node : DocNode) (p : ℕ) → Holds nodes p → Holds (nodes ++ node ∷ []) p
holds_more nodes node p holds =
    let e = longer nodes node in
    let inside : p < length nodes = holds.0 in
    (omega arith, ap is_text_in (at_before node nodes p inside) ∙ holds.1)

nothing_behind : (nodes : List DocNode) (x : ℕ) → length nodes ≤ x → slice_get nodes x ≡ None
nothing_behind [] x behind = refl
nothing_behind (n ∷ nodes) zero behind = absurd (omega arith)
nothing_behind (n ∷ nodes) (suc x) behind = nothing_behind nodes x (omega arith)

module _ (nodes : List DocNode) (node : DocNode) (p : ℕ) (numbered : IsNumbered nodes) (no_document : is_document_content node.content ≡ false) (parent_is : node.parent ≡ Some p) (holds : Holds nodes p) where
  some : 0 < length nodes
  some = some_node nodes numbered.document

  below_more : (x : ℕ) → 0 < x → x < length (nodes ++ node ∷ []) → (q : ℕ) × (parent_in (slice_get (nodes ++ node ∷ []) x) ≡ Some q) × (q < x) × (is_text_in (slice_get (nodes ++ node ∷ []) q) ≡ false)
  below_more x above inside =
      let e = longer nodes node in
      ⊎_elim
      (λ last.
      let here : parent_in (slice_get (nodes ++ node ∷ []) x) ≡ Some p = ap (λ n. parent_in (slice_get (nodes ++ node ∷ []) n)) last ∙ ap parent_in (at_last node nodes) ∙ parent_is in
      let within : p < length nodes = holds.0 in
      let less : p < x = omega arith in
      (p, here, less, (holds_more nodes node p holds).1))
      (λ other.
      let within : x < length nodes = omega arith in
      let old = numbered.below x above within in
      let less : old.0 < x = old.2 in
      (old.0, ap parent_in (at_before node nodes x within) ∙ old.1, less, ap is_text_in (at_before node nodes old.0 (omega arith)) ∙ old.3))
      (cases_eq x (length nodes))

  alone_more : (x : ℕ) → is_document_in (slice_get (nodes ++ node ∷ []) x) ≡ true → x ≡ 0
  alone_more x is =
      ⊎_elim
      (λ before. numbered.alone x (sym (ap is_document_in (at_before node nodes x before)) ∙ is))
      (λ behind.
      ⊎_elim
      (λ last. absurd (false≢true (sym (ap (λ n. is_document_in (slice_get (nodes ++ node ∷ []) n)) last ∙ ap is_document_in (at_last node nodes) ∙ no_document) ∙ is)))
      (λ other.
      let e = longer nodes node in
      absurd (false≢true (sym (ap is_document_in (nothing_behind (nodes ++ node ∷ []) x (omega arith))) ∙ is)))
      (cases_eq x (length nodes)))
      (cases_lt x (length nodes))

  more : IsNumbered (nodes ++ node ∷ [])
  more = record {
    document = ap is_document_in (at_before node nodes 0 some) ∙ numbered.document;
    alone = alone_more;
    top = ap parent_in (at_before node nodes 0 some) ∙ numbered.top;
    below = below_more;
  }

abbrev AllHold : List DocNode → List Open → Type 0
AllHold nodes [] = Unit {0}
AllHold nodes (o ∷ more) = Holds nodes o.node × AllHold nodes more

all_more : (nodes : List DocNode) (node : DocNode) (os : List Open) → AllHold nodes os → AllHold (nodes ++ node ∷ []) os
all_more nodes node [] all = tt
all_more nodes node (o ∷ os) all = (holds_more nodes node o.node all.0, all_more nodes node os all.1)

-- an element that is there stays one behind which another node is put
element_more : (nodes : List DocNode) (node : DocNode) (x : ℕ) → is_element nodes x ≡ true → is_element (nodes ++ node ∷ []) x ≡ true
element_more nodes node x is =
    ⊎_elim
    (λ before. ap is_element_in (at_before node nodes x before) ∙ is)
    (λ behind. absurd (false≢true (sym (ap is_element_in (nothing_behind nodes x behind)) ∙ is)))
    (cases_lt x (length nodes))

-- what belongs to elements of these nodes
abbrev Ofs : {X : Type 0} → (X → ℕ) → List DocNode → List X → Type 0
Ofs {X} node_of nodes xs = All (λ x. is_element nodes (node_of x) ≡ true) xs

ofs_more : {X : Type 0} (node_of : X → ℕ) (nodes : List DocNode) (node : DocNode) (xs : List X) → Ofs node_of nodes xs → Ofs node_of (nodes ++ node ∷ []) xs
ofs_more {X} node_of nodes node xs of =
    let P : X → Type 0 = λ x. is_element nodes (node_of x) ≡ true in
    let Q : X → Type 0 = λ x. is_element (nodes ++ node ∷ []) (node_of x) ≡ true in
    All-weaker P Q (λ x is. element_more nodes node (node_of x) is) xs of

record Belongs (total : ℕ) (s : State) : Type 0 where
  scripts : Ofs (λ (x : ScriptAt). x.node) s.nodes s.scripts
  handlers : Ofs (λ (x : HandlerAt). x.node) s.nodes s.handlers
  names : Ofs (λ (x : NameAt). x.node) s.nodes s.names
  within : All (λ (x : ScriptAt). x.at ≤ total) s.scripts

record Sound (total : ℕ) (s : State) : Type 0 where
  numbered : IsNumbered s.nodes
  all : AllHold s.nodes s.open_elements
  belongs : Belongs total s

document_content_holds : (c : Content) → is_document_content c ≡ true → is_text_content c ≡ false
document_content_holds document is = refl
document_content_holds (element name attributes) is = refl
document_content_holds (text_node text) is = absurd (false≢true is)

document_holds : (o : Option DocNode) → is_document_in o ≡ true → is_text_in o ≡ false
document_holds None is = refl
document_holds (Some node) is = document_content_holds node.content is

innermost_holds : (nodes : List DocNode) (os : List Open) → IsNumbered nodes → AllHold nodes os → Holds nodes (innermost os)
innermost_holds nodes [] numbered all = (some_node nodes numbered.document, document_holds (slice_get nodes 0) numbered.document)
innermost_holds nodes (o ∷ os) numbered all = all.0

-- a state behind which one more node stands, and none of the lists has changed
belongs_more : (total : ℕ) (s : State) (node : DocNode) (os : List Open) (words : List ℕ) → Belongs total s → Belongs total (record s { nodes = s.nodes ++ node ∷ []; open_elements = os; words = words })
belongs_more total s node os words of = record {
  scripts = ofs_more (λ (x : ScriptAt). x.node) s.nodes node s.scripts of.scripts;
  handlers = ofs_more (λ (x : HandlerAt). x.node) s.nodes node s.handlers of.handlers;
  names = ofs_more (λ (x : NameAt). x.node) s.nodes node s.names of.names;
  within = of.within;
}

words_sound : (total : ℕ) (words : List ℕ) (s : State) → Sound total s → Sound total (record s { nodes = with_text s.nodes (innermost s.open_elements) words; words = [] })
words_sound total [] s sound = record { numbered = sound.numbered; all = sound.all; belongs = record { scripts = sound.belongs.scripts; handlers = sound.belongs.handlers; names = sound.belongs.names; within = sound.belongs.within } }
words_sound total (c ∷ words) s sound =
    let node : DocNode = record { parent = Some (innermost s.open_elements); content = text_node (units (c ∷ words)) } in
    record {
      numbered = more s.nodes node (innermost s.open_elements) sound.numbered refl refl (innermost_holds s.nodes s.open_elements sound.numbered sound.all);
      all = all_more s.nodes node s.open_elements sound.all;
      belongs = belongs_more total s node s.open_elements [] sound.belongs;
    }

settled_all : (words : List ℕ) (nodes : List DocNode) (p : ℕ) (os : List Open) → AllHold nodes os → AllHold (with_text nodes p words) os
settled_all [] nodes p os all = all
settled_all (c ∷ words) nodes p os all = all_more nodes (record { parent = Some p; content = text_node (units (c ∷ words)) }) os all

abbrev AllOf : List DocNode → Option (List Open) → Type 0
AllOf nodes None = Unit {0}
AllOf nodes (Some os) = AllHold nodes os

opened_all : (void : Bool) (nodes : List DocNode) (o : Open) (os : List Open) → Holds nodes o.node → AllHold nodes os → AllHold nodes (cond void os (o ∷ os))
opened_all true nodes o os holds all = all
opened_all false nodes o os holds all = (holds, all)

settled_sound : (total : ℕ) (s : State) → Sound total s → Sound total (settled s)
settled_sound total s sound = words_sound total s.words s sound

closed_holds : (nodes : List DocNode) (name : List ℕ) (os : List Open) → AllHold nodes os → (found : Option (List Open)) → closed name os ≡ found → AllOf nodes found
closed_holds nodes name [] all found is = subst (AllOf nodes) is tt
closed_holds nodes name (o ∷ os) all found is =
    ⊎_elim
    (λ same. subst (AllOf nodes) (sym (cond-true (bytes_eq o.name name) (Some os) (closed name os) same) ∙ is) all.1)
    (λ other. closed_holds nodes name os all.1 found (sym (cond-false (bytes_eq o.name name) (Some os) (closed name os) other) ∙ is))
    (cases_Bool (bytes_eq o.name name))

closed_sound : (total : ℕ) (s : State) (found : Option (List Open)) → Sound total s → AllOf s.nodes found → Sound total (with_closed s found)
closed_sound total s None sound of = sound
closed_sound total s (Some more) sound of =
    let done = settled_sound total s sound in
    record { numbered = done.numbered; all = settled_all s.words s.nodes (innermost s.open_elements) more of; belongs = record { scripts = done.belongs.scripts; handlers = done.belongs.handlers; names = done.belongs.names; within = done.belongs.within } }

-- what a start tag adds belongs to its element
module _ (total : ℕ) (nodes : List DocNode) (node : ℕ) (here : is_element nodes node ≡ true) where
  script_here : (tag : Tag) → Ofs (λ (x : ScriptAt). x.node) nodes (script_of total node tag)
  script_here tag =
      cond_both (is_run tag.name tag.attributes) _ _ (Ofs (λ (x : ScriptAt). x.node) nodes)
      (λ _. All-cons (λ (x : ScriptAt). is_element nodes x.node ≡ true) _ [] here (All-nil (λ (x : ScriptAt). is_element nodes x.node ≡ true)))
      (λ _. All-nil (λ (x : ScriptAt). is_element nodes x.node ≡ true))

  script_within : (tag : Tag) → All (λ (x : ScriptAt). x.at ≤ total) (script_of total node tag)
  script_within tag =
      cond_both (is_run tag.name tag.attributes) _ _ (All (λ (x : ScriptAt). x.at ≤ total))
      (λ _. All-cons (λ (x : ScriptAt). x.at ≤ total) _ [] (omega arith) (All-nil (λ (x : ScriptAt). x.at ≤ total)))
      (λ _. All-nil (λ (x : ScriptAt). x.at ≤ total))

  handlers_here : (attributes : List Attribute) → Ofs (λ (x : HandlerAt). x.node) nodes (handlers_of total node attributes)
  handlers_here [] = All-nil (λ (x : HandlerAt). is_element nodes x.node ≡ true)
  handlers_here (a ∷ attributes) =
      let P : HandlerAt → Type 0 = λ x. is_element nodes x.node ≡ true in
      All-append P (handler_of total node a) (handlers_of total node attributes)
      (cond_both (is_handler a.name) _ _ (All P) (λ _. All-cons P _ [] here (All-nil P)) (λ _. All-nil P))
      (handlers_here attributes)

  names_here : (attributes : List Attribute) → Ofs (λ (x : NameAt). x.node) nodes (map (name_at total node) attributes)
  names_here [] = All-nil (λ (x : NameAt). is_element nodes x.node ≡ true)
  names_here (a ∷ attributes) = All-cons (λ (x : NameAt). is_element nodes x.node ≡ true) (name_at total node a) _ here (names_here attributes)

element_belongs : (total : ℕ) (s : State) (tag : Tag) → Belongs total s → Belongs total (with_element total s tag)
element_belongs total s tag of =
    let node = element_of (innermost s.open_elements) tag in
    let more_nodes = s.nodes ++ node ∷ [] in
    let n = length s.nodes in
    let here : is_element more_nodes n ≡ true = ap is_element_in (at_last node s.nodes) in
    let had = belongs_more total s node s.open_elements s.words of in
    record {
      scripts = All-append (λ (x : ScriptAt). is_element more_nodes x.node ≡ true) s.scripts (script_of total n tag) had.scripts (script_here total more_nodes n here tag);
      handlers = All-append (λ (x : HandlerAt). is_element more_nodes x.node ≡ true) s.handlers (handlers_of total n (firsts [] tag.attributes)) had.handlers (handlers_here total more_nodes n here (firsts [] tag.attributes));
      names = All-append (λ (x : NameAt). is_element more_nodes x.node ≡ true) s.names (map (name_at total n) (firsts [] tag.attributes)) had.names (names_here total more_nodes n here (firsts [] tag.attributes));
      within = All-append (λ (x : ScriptAt). x.at ≤ total) s.scripts (script_of total n tag) had.within (script_within total more_nodes n here tag);
    }

element_sound : (total : ℕ) (s : State) (tag : Tag) → Sound total s → Sound total (with_element total s tag)
element_sound total s tag sound =
    let node = element_of (innermost s.open_elements) tag in
    let here : is_text_in (slice_get (s.nodes ++ node ∷ []) (length s.nodes)) ≡ false = ap is_text_in (at_last node s.nodes) in
    let e = longer s.nodes node in
    record {
      numbered = more s.nodes node (innermost s.open_elements) sound.numbered refl refl (innermost_holds s.nodes s.open_elements sound.numbered sound.all);
      all = opened_all (is_void tag.name) (s.nodes ++ node ∷ []) (record { node = length s.nodes; name = tag.name }) s.open_elements (omega arith, here) (all_more s.nodes node s.open_elements sound.all);
      belongs = element_belongs total s tag sound.belongs;
    }

step_sound : (total : ℕ) (s : State) (piece : Piece) → Sound total s → Sound total (step total s piece)
step_sound total s Dropped sound = sound
step_sound total s (Text words) sound = record { numbered = sound.numbered; all = sound.all; belongs = record { scripts = sound.belongs.scripts; handlers = sound.belongs.handlers; names = sound.belongs.names; within = sound.belongs.within } }
step_sound total s (EndTag name) sound = closed_sound total s (closed name s.open_elements) sound (closed_holds s.nodes name s.open_elements sound.all (closed name s.open_elements) refl)
step_sound total s (StartTag tag) sound = element_sound total (settled s) tag (settled_sound total s sound)

steps_sound : (total : ℕ) (pieces : List Piece) (s : State) → Sound total s → Sound total (fold (step total) s pieces)
steps_sound total [] s sound = sound
steps_sound total (piece ∷ pieces) s sound = steps_sound total pieces (step total s piece) (step_sound total s piece sound)

alone_begun : (x : ℕ) → is_document_in (slice_get beginning.nodes x) ≡ true → x ≡ 0
alone_begun zero is = refl
alone_begun (suc x) is = absurd (false≢true is)

begun : (total : ℕ) → Sound total beginning
begun total = record {
  numbered = record { document = refl; alone = alone_begun; top = refl; below = λ x above inside. absurd (omega arith) };
  all = tt;
  belongs = record { scripts = All-nil _; handlers = All-nil _; names = All-nil _; within = All-nil _ };
}

pub made_coherent : (total end : ℕ) (text : List ℕ) (s : State) → total ≤ end → IsTree total text s → IsCoherent end (page_of s)
made_coherent total end text s within tree =
    let done = settled_sound total (fold (step total) beginning tree.0) (steps_sound total tree.0 beginning (begun total)) in
    let sound : Sound total s = subst (λ (v : State). Sound total v) (sym tree.2) done in
    record {
      numbered = sound.numbered;
      scripts = sound.belongs.scripts;
      handlers = sound.belongs.handlers;
      names = sound.belongs.names;
      within = All-weaker (λ (x : ScriptAt). x.at ≤ total) (λ (x : ScriptAt). x.at ≤ end) (λ x low. omega arith) s.scripts sound.belongs.within;
    }
