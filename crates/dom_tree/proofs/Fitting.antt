-- Nodes that fit still fit where what ties them together stays.
use Rattle.std.proofs.Common.{◌≡◌, ℕ, zero, suc, ◌<◌, ◌≤◌, true, false, cond, List, [], ◌∷◌, ◌++◌, length, get_or, set, Option, Some, None, is_some, refl, sym, ap, subst, ◌∙◌, arith, ⊎_elim, length-append}
use Rattle.std.proofs.lemmas.Bool.{cases_eq, cases_lt, false≢true}
use Rattle.std.proofs.lemmas.Option.{slice_get-get_or, slice_get_past}
use Rattle.std.specs.List.{slice_get}
use Rattle.std.specs.Option.{option_map}
use Rattle.html_profile.specs.declared.document.DocAttribute.{DocAttribute}
use Rattle.dom_tree.specs.Nodes.{parent_in, children_in, is_text_in, is_document_in, has_value_in, is_text_kind, is_document_kind, parent_of, children_of, is_text, is_one, times, Ends, Fits}
use Rattle.dom_tree.specs.Changes.{changed}
use Rattle.dom_tree.specs.Names.{with_attributes, with_text, with_own_value, keeps_value, keeps_value_in}
use Rattle.dom_tree.specs.Node.{DomNode}
use Rattle.dom_tree.specs.declared.parts.Kind.{Kind}
use Rattle.dom_tree.specs.declared.parts.Kind.TheVariants.{Document, Element, Text}
use Rattle.dom_tree.proofs.Items.{length_changed, at_changed, beside_changed}
use Rattle.dom_tree.proofs.Ways.{Ends_more}

Ends_same : (old new : ℕ → Option ℕ) → ((x : ℕ) → new x ≡ old x) → (k : ℕ) (x : Option ℕ) → Ends old k x → Ends new k x
Ends_same old new same zero None ends = tt
Ends_same old new same zero (Some x) ends = absurd ends
Ends_same old new same (suc k) None ends = tt
Ends_same old new same (suc k) (Some x) ends = subst (Ends new k) (sym (same x)) (Ends_same old new same k (old x) ends)

module _ (nodes after : List DomNode) (fits : Fits nodes) (longer : length nodes ≤ length after) (parents_same : (x : ℕ) → parent_of after x ≡ parent_of nodes x)
    (children_same : (x : ℕ) → children_of after x ≡ children_of nodes x) (texts_same : (x : ℕ) → x < length nodes → is_text after x ≡ is_text nodes x)
    (documents_same : (x : ℕ) → is_document_in (slice_get after x) ≡ is_document_in (slice_get nodes x))
    (values_are : (x : ℕ) → has_value_in (slice_get after x) ≡ keeps_value_in (slice_get after x)) where
  old_parent : (x p : ℕ) → parent_of after x ≡ Some p → (p < length nodes) × (is_text nodes p ≡ false)
  old_parent x p is = fits.parents x p (sym (parents_same x) ∙ is)

  new_parent : (x p : ℕ) → parent_of after x ≡ Some p → (p < length after) × (is_text after p ≡ false)
  new_parent x p is =
      let old = old_parent x p is in
      let inside : p < length nodes = old.0 in
      (omega arith, texts_same p inside ∙ old.1)

  pub kept_fits : Fits after
  kept_fits = record {
    document = documents_same 0 ∙ fits.document;
    alone = λ x is. fits.alone x (sym (documents_same x) ∙ is);
    values = values_are;
    top = parents_same 0 ∙ fits.top;
    children = λ x c. ap (times c) (children_same x) ∙ fits.children x c ∙ ap (λ o. cond (is_one x o) 1 0) (sym (parents_same c));
    parents = new_parent;
    ends = λ x. Ends_more (parent_of after) (length nodes) (length after) (Some x) longer (Ends_same (parent_of nodes) (parent_of after) parents_same (length nodes) (Some x) (fits.ends x));
  }

kept_at : {Y : Type 0} (r : Option DomNode → Y) (f : DomNode → DomNode) (i : ℕ) (nodes : List DomNode) → r (option_map f (slice_get nodes i)) ≡ r (slice_get nodes i) → (x : ℕ)
    → r (slice_get (changed f i nodes) x) ≡ r (slice_get nodes x)
kept_at r f i nodes same x =
    ⊎_elim
    (λ is. subst (λ v. r (slice_get (changed f i nodes) v) ≡ r (slice_get nodes v)) is (ap r (at_changed f i nodes) ∙ same))
    (λ apart. ap r (beside_changed f i nodes x apart))
    (cases_eq i x)

module _ (nodes : List DomNode) (fits : Fits nodes) (i : ℕ) where
  changed_fits : (f : DomNode → DomNode) → parent_in (option_map f (slice_get nodes i)) ≡ parent_in (slice_get nodes i) → children_in (option_map f (slice_get nodes i)) ≡ children_in (slice_get nodes i)
      → is_text_in (option_map f (slice_get nodes i)) ≡ is_text_in (slice_get nodes i) → is_document_in (option_map f (slice_get nodes i)) ≡ is_document_in (slice_get nodes i)
      → has_value_in (option_map f (slice_get nodes i)) ≡ has_value_in (slice_get nodes i) → keeps_value_in (option_map f (slice_get nodes i)) ≡ keeps_value_in (slice_get nodes i) → Fits (changed f i nodes)
  changed_fits f p c t k h v =
      kept_fits nodes (changed f i nodes) fits (let e = length_changed f i nodes in omega arith) (kept_at parent_in f i nodes p) (kept_at children_in f i nodes c) (λ x within. kept_at is_text_in f i nodes t x)
      (kept_at is_document_in f i nodes k) (λ x. kept_at has_value_in f i nodes h x ∙ fits.values x ∙ sym (kept_at keeps_value_in f i nodes v x))

  -- what a reader finds in a node that is there or not
  both : {Y : Type 0} (r : Option DomNode → Y) (f : DomNode → DomNode) → ((n : DomNode) → slice_get nodes i ≡ Some n → r (Some (f n)) ≡ r (Some n)) → (o : Option DomNode) → slice_get nodes i ≡ o
      → r (option_map f o) ≡ r o
  both r f same None is = refl
  both r f same (Some n) is = same n is

  same_here : {Y : Type 0} (r : Option DomNode → Y) (f : DomNode → DomNode) → ((n : DomNode) → slice_get nodes i ≡ Some n → r (Some (f n)) ≡ r (Some n)) → r (option_map f (slice_get nodes i)) ≡ r (slice_get nodes i)
  same_here r f same = both r f same (slice_get nodes i) refl

  pub attributes_fit : (g : List DocAttribute → List DocAttribute) → Fits (changed (with_attributes g) i nodes)
  attributes_fit g =
      let f = with_attributes g in
      changed_fits f (same_here parent_in f (λ n is. refl)) (same_here children_in f (λ n is. refl)) (same_here is_text_in f (λ n is. refl)) (same_here is_document_in f (λ n is. refl))
      (same_here has_value_in f (λ n is. refl)) (same_here keeps_value_in f (λ n is. refl))

  pub value_fits : (value : List ℕ) → keeps_value_in (slice_get nodes i) ≡ true → Fits (changed (with_own_value value) i nodes)
  value_fits value keeps =
      let f = with_own_value value in
      changed_fits f (same_here parent_in f (λ n is. refl)) (same_here children_in f (λ n is. refl)) (same_here is_text_in f (λ n is. refl)) (same_here is_document_in f (λ n is. refl))
      (same_here has_value_in f (λ n is. sym (ap has_value_in (sym is) ∙ fits.values i ∙ keeps))) (same_here keeps_value_in f (λ n is. refl))

  text_kind : (k : Kind) → is_text_kind k ≡ true → is_document_kind k ≡ false
  text_kind Document is = absurd (false≢true is)
  text_kind (Element name) is = absurd (false≢true is)
  text_kind (Text text) is = refl

  text_keeps : (k : Kind) → is_text_kind k ≡ true → keeps_value k ≡ false
  text_keeps Document is = refl
  text_keeps (Element name) is = absurd (false≢true is)
  text_keeps (Text text) is = refl

  pub text_fits : (text : List ℕ) → is_text nodes i ≡ true → Fits (changed (with_text text) i nodes)
  text_fits text is_one =
      let f = with_text text in
      changed_fits f (same_here parent_in f (λ n is. refl)) (same_here children_in f (λ n is. refl)) (same_here is_text_in f (λ n is. sym (ap is_text_in (sym is) ∙ is_one)))
      (same_here is_document_in f (λ n is. sym (text_kind n.kind (ap is_text_in (sym is) ∙ is_one))))
      (same_here has_value_in f (λ n is. refl)) (same_here keeps_value_in f (λ n is. sym (text_keeps n.kind (ap is_text_in (sym is) ∙ is_one))))

-- one more node, outside the document
pub grown_same : {X Y : Type 0} (r : Option X → Y) (node : X) → r (Some node) ≡ r None → (nodes : List X) (x : ℕ) → r (slice_get (nodes ++ node ∷ []) x) ≡ r (slice_get nodes x)
grown_same r node same [] zero = same
grown_same r node same [] (suc x) = refl
grown_same r node same (n ∷ nodes) zero = refl
grown_same r node same (n ∷ nodes) (suc x) = grown_same r node same nodes x

pub grown_before : (node : DomNode) (nodes : List DomNode) (x : ℕ) → x < length nodes → slice_get (nodes ++ node ∷ []) x ≡ slice_get nodes x
grown_before node [] x inside = absurd (omega arith)
grown_before node (n ∷ nodes) zero inside = refl
grown_before node (n ∷ nodes) (suc x) inside = grown_before node nodes x (omega arith)

pub grown_last : (node : DomNode) (nodes : List DomNode) → slice_get (nodes ++ node ∷ []) (length nodes) ≡ Some node
grown_last node [] = refl
grown_last node (n ∷ nodes) = grown_last node nodes

some_node : (nodes : List DomNode) → is_document_in (slice_get nodes 0) ≡ true → 0 < length nodes
some_node [] is = absurd (false≢true is)
some_node (node ∷ nodes) is = omega arith

pub grown_fits : (nodes : List DomNode) → Fits nodes → (node : DomNode) → node.parent ≡ None → node.children ≡ [] → is_document_kind node.kind ≡ false → is_some node.value ≡ keeps_value node.kind
    → Fits (nodes ++ node ∷ [])
grown_fits nodes fits node alone childless no_document value_is =
    kept_fits nodes (nodes ++ node ∷ []) fits (omega (arith, length-append nodes (node ∷ []))) (grown_same parent_in node alone nodes) (grown_same children_in node childless nodes)
    (λ x inside. ap is_text_in (grown_before node nodes x inside)) (grown_same is_document_in node no_document nodes) values_grown
  where
    values_grown : (x : ℕ) → has_value_in (slice_get (nodes ++ node ∷ []) x) ≡ keeps_value_in (slice_get (nodes ++ node ∷ []) x)
    values_grown x =
        ⊎_elim
        (λ before. ap has_value_in (grown_before node nodes x before) ∙ fits.values x ∙ sym (ap keeps_value_in (grown_before node nodes x before)))
        (λ behind.
        ⊎_elim
        (λ is. subst (λ v. has_value_in (slice_get (nodes ++ node ∷ []) v) ≡ keeps_value_in (slice_get (nodes ++ node ∷ []) v)) (sym is) (ap has_value_in (grown_last node nodes) ∙ value_is ∙ sym (ap keeps_value_in (grown_last node nodes))))
        (λ apart.
        let past = slice_get_past (nodes ++ node ∷ []) x (omega (arith, length-append nodes (node ∷ []))) in
        ap has_value_in past ∙ sym (ap keeps_value_in past))
        (cases_eq x (length nodes)))
        (cases_lt x (length nodes))
