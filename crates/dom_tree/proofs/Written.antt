-- What is kept where a node says something else of itself, and where one more node stands behind the others.
use Rattle.std.proofs.Common.{◌≡◌, ℕ, zero, suc, ◌+◌, ◌-◌, ◌<◌, ◌≤◌, true, false, List, [], ◌∷◌, ◌++◌, length, map, get_or, set, Option, Some, None, is_some, refl, sym, ap, subst, ◌∙◌}
use Rattle.std.specs.Prelude.{OnOk, Result, Ok, Err}
use Rattle.std.specs.List.{slice_get}
use Rattle.std.specs.Option.{option_map}
use Rattle.html_profile.specs.declared.document.DocAttribute.{DocAttribute}
use Rattle.dom_tree.specs.Node.{DomNode}
use Rattle.dom_tree.specs.Nodes.{parent_in, children_in, is_document_kind, parent_of, children_of, is_text, Fits}
use Rattle.dom_tree.specs.Changes.{changed}
use Rattle.dom_tree.specs.Names.{with_attributes, with_text, with_own_value, keeps_value, keeps_value_in}
use Rattle.dom_tree.specs.Order.{children_under, next_in, previous_in, next_sibling, previous_sibling, first_child, last_child}
use Rattle.dom_tree.specs.declared.parts.NodeData.{NodeData}
use Rattle.dom_tree.specs.declared.parts.Links.{Links}
use Rattle.dom_tree.specs.declared.parts.Kind.{Kind}
use Rattle.dom_tree.specs.declared.parts.Kind.TheVariants.{Text}
use Rattle.dom_tree.specs.inner.Kept.{link_in, nodes_of, bare, emptied, no_links, Keeps, IsLinked}
use Rattle.dom_tree.proofs.Items.{set_is_changed}
use Rattle.dom_tree.proofs.Points.{kept}
use Rattle.dom_tree.proofs.Kept.{map_changed, link_stays, nodes_are, linked_is}
use Rattle.dom_tree.proofs.Fitting.{attributes_fit, text_fits, value_fits, grown_same, grown_fits}
use Rattle.std.proofs.lemmas.List.{map-append}

-- links that stay, of nodes that have the same parents and children
module _ (nodes after : List DomNode) (old new : List NodeData) (keeps : Keeps nodes old) (parents_same : (x : ℕ) → parent_of after x ≡ parent_of nodes x)
    (children_same : (x : ℕ) → children_of after x ≡ children_of nodes x)
    (links_same : (link : Links → Option ℕ) → link no_links ≡ None → (x : ℕ) → link_in (λ d. link d.links) (slice_get new x) ≡ link_in (λ d. link d.links) (slice_get old x)) where
  under_same : (o : Option ℕ) → children_under nodes o ≡ children_under after o
  under_same None = refl
  under_same (Some p) = sym (children_same p)

  around_same : (x : ℕ) → children_under nodes (parent_of nodes x) ≡ children_under after (parent_of after x)
  around_same x = under_same (parent_of nodes x) ∙ ap (children_under after) (sym (parents_same x))

  pub keeps_same : map bare new ≡ map emptied after → Keeps after new
  keeps_same same = record {
    same = same;
    first = λ x. links_same (λ l. l.first) refl x ∙ keeps.first x ∙ ap (λ l. slice_get l 0) (sym (children_same x));
    last = λ x. links_same (λ l. l.last) refl x ∙ keeps.last x ∙ ap (λ l. slice_get l (length l - 1)) (sym (children_same x));
    next = λ x. links_same (λ l. l.next) refl x ∙ keeps.next x ∙ ap (next_in x) (around_same x);
    previous = λ x. links_same (λ l. l.previous) refl x ∙ keeps.previous x ∙ ap (previous_in x) (around_same x);
  }

some_kept : {Y : Type 0} (r : DomNode → Y) (f : DomNode → DomNode) → ((node : DomNode) → r (f node) ≡ r node) → (none : Y) (i : ℕ) (nodes : List DomNode) (x : ℕ)
    → (e : Option DomNode → Y) → (e None ≡ none) → ((node : DomNode) → e (Some node) ≡ r node) → e (slice_get (changed f i nodes) x) ≡ e (slice_get nodes x)
some_kept r f same none i nodes x e at_none at_some = kept e f each i nodes x
  where
    each : (o : Option DomNode) → e (option_map f o) ≡ e o
    each None = refl
    each (Some node) = at_some (f node) ∙ same node ∙ sym (at_some node)

module _ (old : List NodeData) (linked : IsLinked old) (i : ℕ) (g : NodeData → NodeData) (f : DomNode → DomNode) (commutes : (d : NodeData) → bare (g d) ≡ f (bare d)) (empties : (node : DomNode) → emptied (f node) ≡ f (emptied node))
    (children_stay : (node : DomNode) → (f node).children ≡ node.children) (parent_stays : (node : DomNode) → (f node).parent ≡ node.parent) (links_stay : (d : NodeData) → (g d).links ≡ d.links)
    (fits_after : Fits (changed f i (nodes_of old))) where
  pub written : (nodes_of (changed g i old) ≡ changed f i (nodes_of old)) × IsLinked (changed g i old)
  written =
      let nodes = nodes_of old in
      let same : map bare (changed g i old) ≡ map emptied (changed f i nodes) =
      map_changed bare g f commutes i old ∙ ap (changed f i) linked.keeps.same ∙ sym (map_changed emptied f f empties i nodes) in
      let keeps = keeps_same nodes (changed f i nodes) old (changed g i old) linked.keeps
      (λ x. some_kept (λ node. node.parent) f parent_stays None i nodes x parent_in refl (λ node. refl))
      (λ x. some_kept (λ node. node.children) f children_stay [] i nodes x children_in refl (λ node. refl))
      (λ link none x. link_stays (λ d. link d.links) g i old (λ d. ap link (links_stay d)) x) same in
      (nodes_are (changed f i nodes) (changed g i old) fits_after keeps, linked_is (changed f i nodes) (changed g i old) fits_after keeps)

module _ (old : List NodeData) (linked : IsLinked old) (i : ℕ) (d : NodeData) (inside : i < length old) where
  pub attributes_written : (h : List DocAttribute → List DocAttribute) (new : List DocAttribute) → new ≡ h (get_or old i d).attributes
      → (nodes_of (set old i (record (get_or old i d) { attributes = new })) ≡ changed (with_attributes h) i (nodes_of old)) × IsLinked (set old i (record (get_or old i d) { attributes = new }))
  attributes_written h new is =
      let g : NodeData → NodeData = λ e. record e { attributes = h e.attributes } in
      let made : set old i (record (get_or old i d) { attributes = new }) ≡ changed g i old =
      ap (λ l. set old i (record (get_or old i d) { attributes = l })) is ∙ set_is_changed g i old d inside in
      subst (λ l. (nodes_of l ≡ changed (with_attributes h) i (nodes_of old)) × IsLinked l) (sym made)
      (written old linked i g (with_attributes h) (λ e. refl) (λ node. refl) (λ node. refl) (λ node. refl) (λ e. refl) (attributes_fit (nodes_of old) linked.fits i h))

  pub text_written : (text : List ℕ) → is_text (nodes_of old) i ≡ true
      → (nodes_of (set old i (record (get_or old i d) { kind = Text text })) ≡ changed (with_text text) i (nodes_of old)) × IsLinked (set old i (record (get_or old i d) { kind = Text text }))
  text_written text is =
      let g : NodeData → NodeData = λ e. record e { kind = Text text } in
      subst (λ l. (nodes_of l ≡ changed (with_text text) i (nodes_of old)) × IsLinked l) (sym (set_is_changed g i old d inside))
      (written old linked i g (with_text text) (λ e. refl) (λ node. refl) (λ node. refl) (λ node. refl) (λ e. refl) (text_fits (nodes_of old) linked.fits i text is))

  pub value_written : (value : List ℕ) → keeps_value_in (slice_get (nodes_of old) i) ≡ true
      → (nodes_of (set old i (record (get_or old i d) { value = Some value })) ≡ changed (with_own_value value) i (nodes_of old)) × IsLinked (set old i (record (get_or old i d) { value = Some value }))
  value_written value keeps =
      let g : NodeData → NodeData = λ e. record e { value = Some value } in
      subst (λ l. (nodes_of l ≡ changed (with_own_value value) i (nodes_of old)) × IsLinked l) (sym (set_is_changed g i old d inside))
      (written old linked i g (with_own_value value) (λ e. refl) (λ node. refl) (λ node. refl) (λ node. refl) (λ e. refl) (value_fits (nodes_of old) linked.fits i value keeps))

  pub attributes_ok : {T E : Type 0} (r : Result T E) (h : List DocAttribute → List DocAttribute) (new : List DocAttribute) → OnOk r (new ≡ h (get_or old i d).attributes)
      → OnOk r (nodes_of (set old i (record (get_or old i d) { attributes = new })) ≡ changed (with_attributes h) i (nodes_of old))
  attributes_ok (Ok v) h new is = (attributes_written h new is).0
  attributes_ok (Err e) h new is = tt

  -- whatever the attributes are
  pub attributes_linked : (new : List DocAttribute) → IsLinked (set old i (record (get_or old i d) { attributes = new }))
  attributes_linked new = (attributes_written (λ _. new) new refl).1

-- one more node
pub grown : (old : List NodeData) → IsLinked old → (d : NodeData) → d.parent ≡ None → d.links ≡ no_links → is_document_kind d.kind ≡ false → is_some d.value ≡ keeps_value d.kind
    → (nodes_of (old ++ d ∷ []) ≡ nodes_of old ++ bare d ∷ []) × IsLinked (old ++ d ∷ [])
grown old linked d alone links no_document value =
    let nodes = nodes_of old in
    let fits = grown_fits nodes linked.fits (bare d) alone refl no_document value in
    let same : map bare (old ++ d ∷ []) ≡ map emptied (nodes ++ bare d ∷ []) =
    map-append bare old (d ∷ []) ∙ ap (λ l. l ++ bare d ∷ []) linked.keeps.same ∙ sym (map-append emptied nodes (bare d ∷ [])) in
    let keeps = keeps_same nodes (nodes ++ bare d ∷ []) old (old ++ d ∷ []) linked.keeps (grown_same parent_in (bare d) alone nodes) (grown_same children_in (bare d) refl nodes)
    (λ link none x. grown_same (link_in (λ e. link e.links)) d (ap link links ∙ none) old x) same in
    (nodes_are (nodes ++ bare d ∷ []) (old ++ d ∷ []) fits keeps, linked_is (nodes ++ bare d ∷ []) (old ++ d ∷ []) fits keeps)
