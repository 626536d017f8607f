-- What nodes say behind a change.
use Rattle.std.proofs.Common.{◌≡◌, ◌≢◌, ℕ, zero, suc, ◌<◌, true, false, cond, List, [], ◌∷◌, length, get_or, set, Option, Some, None, refl, sym, ap, subst, ◌∙◌, arith, eq-eqb, ⊎_elim}
use Rattle.std.proofs.lemmas.Bool.{cases_eq, eqb-true, false≢true}
use Rattle.std.specs.List.{slice_get}
use Rattle.std.specs.Option.{option_map, MatchOption}
use Rattle.dom_tree.specs.Names.{keeps_value_in}
use Rattle.dom_tree.specs.Nodes.{parent_in, children_in, is_text_in, is_document_in, has_value_in, parent_of, children_of, is_text, is_one, is_child, times, Fits}
use Rattle.dom_tree.specs.Changes.{changed, with_parent, with_children, without, left, left_at, placed, removed}
use Rattle.dom_tree.specs.Node.{DomNode}
use Rattle.dom_tree.proofs.Items.{length_changed, set_is_changed, at_changed, beside_changed, changed_twice, changed_apart, changed_same}
use Rattle.dom_tree.proofs.Kids.{times_without_same, times_without_other, unequal}

-- what no change of this kind touches
pub kept : {Y : Type 0} (r : Option DomNode → Y) (f : DomNode → DomNode) → ((o : Option DomNode) → r (option_map f o) ≡ r o) → (i : ℕ) (nodes : List DomNode) (x : ℕ)
    → r (slice_get (changed f i nodes) x) ≡ r (slice_get nodes x)
kept r f same i nodes x =
    ⊎_elim
    (λ is. subst (λ v. r (slice_get (changed f i nodes) v) ≡ r (slice_get nodes v)) is (ap r (at_changed f i nodes) ∙ same (slice_get nodes i)))
    (λ apart. ap r (beside_changed f i nodes x apart))
    (cases_eq i x)

parent_in_kept : (f : List ℕ → List ℕ) (o : Option DomNode) → parent_in (option_map (with_children f) o) ≡ parent_in o
parent_in_kept f None = refl
parent_in_kept f (Some node) = refl

text_in_kept : (f : List ℕ → List ℕ) (o : Option DomNode) → is_text_in (option_map (with_children f) o) ≡ is_text_in o
text_in_kept f None = refl
text_in_kept f (Some node) = refl

document_in_kept : (f : List ℕ → List ℕ) (o : Option DomNode) → is_document_in (option_map (with_children f) o) ≡ is_document_in o
document_in_kept f None = refl
document_in_kept f (Some node) = refl

children_in_beside : (p : Option ℕ) (o : Option DomNode) → children_in (option_map (with_parent p) o) ≡ children_in o
children_in_beside p None = refl
children_in_beside p (Some node) = refl

text_in_beside : (p : Option ℕ) (o : Option DomNode) → is_text_in (option_map (with_parent p) o) ≡ is_text_in o
text_in_beside p None = refl
text_in_beside p (Some node) = refl

document_in_beside : (p : Option ℕ) (o : Option DomNode) → is_document_in (option_map (with_parent p) o) ≡ is_document_in o
document_in_beside p None = refl
document_in_beside p (Some node) = refl

module _ (f : List ℕ → List ℕ) (i : ℕ) (nodes : List DomNode) where
  pub parent_kept : (x : ℕ) → parent_of (changed (with_children f) i nodes) x ≡ parent_of nodes x
  parent_kept x = kept parent_in (with_children f) (parent_in_kept f) i nodes x

  pub text_kept : (x : ℕ) → is_text (changed (with_children f) i nodes) x ≡ is_text nodes x
  text_kept x = kept is_text_in (with_children f) (text_in_kept f) i nodes x

module _ (p : Option ℕ) (i : ℕ) (nodes : List DomNode) where
  pub children_beside : (x : ℕ) → children_of (changed (with_parent p) i nodes) x ≡ children_of nodes x
  children_beside x = kept children_in (with_parent p) (children_in_beside p) i nodes x

  pub text_beside : (x : ℕ) → is_text (changed (with_parent p) i nodes) x ≡ is_text nodes x
  text_beside x = kept is_text_in (with_parent p) (text_in_beside p) i nodes x

-- a node that is there
pub found : (nodes : List DomNode) (i : ℕ) → i < length nodes → (node : DomNode) × (slice_get nodes i ≡ Some node)
found [] i inside = absurd (omega arith)
found (node ∷ nodes) zero inside = (node, refl)
found (node ∷ nodes) (suc i) inside = found nodes i (omega arith)

pub parent_set : (p : Option ℕ) (i : ℕ) (nodes : List DomNode) → i < length nodes → parent_of (changed (with_parent p) i nodes) i ≡ p
parent_set p i nodes inside =
    let here = found nodes i inside in
    ap parent_in (at_changed (with_parent p) i nodes) ∙ ap (λ o. parent_in (option_map (with_parent p) o)) here.1

pub children_set : (f : List ℕ → List ℕ) (i : ℕ) (nodes : List DomNode) → i < length nodes → children_of (changed (with_children f) i nodes) i ≡ f (children_of nodes i)
children_set f i nodes inside =
    let here = found nodes i inside in
    ap children_in (at_changed (with_children f) i nodes) ∙ ap (λ o. children_in (option_map (with_children f) o)) here.1 ∙ ap (λ o. f (children_in o)) (sym here.1)

-- a child has left its parent
pub parent_left : (c : ℕ) (o : Option ℕ) (nodes : List DomNode) (x : ℕ) → parent_of (left_at c o nodes) x ≡ parent_of nodes x
parent_left c None nodes x = refl
parent_left c (Some p) nodes x = parent_kept (without c) p nodes x

pub text_left : (c : ℕ) (o : Option ℕ) (nodes : List DomNode) (x : ℕ) → is_text (left_at c o nodes) x ≡ is_text nodes x
text_left c None nodes x = refl
text_left c (Some p) nodes x = text_kept (without c) p nodes x

pub length_left : (c : ℕ) (o : Option ℕ) (nodes : List DomNode) → length (left_at c o nodes) ≡ length nodes
length_left c None nodes = refl
length_left c (Some p) nodes = length_changed (with_children (without c)) p nodes

module _ (nodes : List DomNode) (fits : Fits nodes) (c : ℕ) where
  gone_from : (o : Option ℕ) → parent_of nodes c ≡ o → (x : ℕ) → times c (children_of (left_at c o nodes) x) ≡ 0
  gone_from None is x = fits.children x c ∙ ap (λ o. cond (is_one x o) 1 0) is
  gone_from (Some p) is x =
      ⊎_elim
      (λ here.
      subst (λ v. times c (children_of (left_at c (Some p) nodes) v) ≡ 0) here
      (ap (times c) (children_set (without c) p nodes (fits.parents c p is).0) ∙ times_without_same c (children_of nodes p)))
      (λ apart.
      ap (λ o. times c (children_in o)) (beside_changed (with_children (without c)) p nodes x apart) ∙ fits.children x c ∙ ap (λ o. cond (is_one x o) 1 0) is
      ∙ ap (λ b. cond b 1 0) (unequal p x apart))
      (cases_eq p x)

  others_stay : (o : Option ℕ) → parent_of nodes c ≡ o → (x y : ℕ) → y ≢ c → times y (children_of (left_at c o nodes) x) ≡ times y (children_of nodes x)
  others_stay None is x y other = refl
  others_stay (Some p) is x y other =
      ⊎_elim
      (λ here.
      subst (λ v. times y (children_of (left_at c (Some p) nodes) v) ≡ times y (children_of nodes v)) here
      (ap (times y) (children_set (without c) p nodes (fits.parents c p is).0) ∙ times_without_other y c (children_of nodes p) other))
      (λ apart. ap (λ o. times y (children_in o)) (beside_changed (with_children (without c)) p nodes x apart))
      (cases_eq p x)

  pub gone : (x : ℕ) → times c (children_of (left c nodes) x) ≡ 0
  gone x = gone_from (parent_of nodes c) refl x

  pub stay : (x y : ℕ) → y ≢ c → times y (children_of (left c nodes) x) ≡ times y (children_of nodes x)
  stay x y other = others_stay (parent_of nodes c) refl x y other

-- a reader of nodes that no change of parents and children touches
module _ {Y : Type 0} (r : Option DomNode → Y) (kids : (f : List ℕ → List ℕ) (o : Option DomNode) → r (option_map (with_children f) o) ≡ r o)
    (above : (p : Option ℕ) (o : Option DomNode) → r (option_map (with_parent p) o) ≡ r o) where
  read_left : (c : ℕ) (o : Option ℕ) (nodes : List DomNode) (x : ℕ) → r (slice_get (left_at c o nodes) x) ≡ r (slice_get nodes x)
  read_left c None nodes x = refl
  read_left c (Some p) nodes x = kept r (with_children (without c)) (kids (without c)) p nodes x

  pub read_placed : (place : List ℕ → List ℕ) (p c : ℕ) (nodes : List DomNode) (x : ℕ) → r (slice_get (placed place p c nodes) x) ≡ r (slice_get nodes x)
  read_placed place p c nodes x =
      kept r (with_parent (Some p)) (above (Some p)) c (changed (with_children place) p (left c nodes)) x
      ∙ kept r (with_children place) (kids place) p (left c nodes) x ∙ read_left c (parent_of nodes c) nodes x

  pub read_removed : (c : ℕ) (nodes : List DomNode) (x : ℕ) → r (slice_get (removed c nodes) x) ≡ r (slice_get nodes x)
  read_removed c nodes x = kept r (with_parent None) (above None) c (left c nodes) x ∙ read_left c (parent_of nodes c) nodes x

value_kids : (f : List ℕ → List ℕ) (o : Option DomNode) → has_value_in (option_map (with_children f) o) ≡ has_value_in o
value_kids f None = refl
value_kids f (Some node) = refl

value_above : (p : Option ℕ) (o : Option DomNode) → has_value_in (option_map (with_parent p) o) ≡ has_value_in o
value_above p None = refl
value_above p (Some node) = refl

keeps_kids : (f : List ℕ → List ℕ) (o : Option DomNode) → keeps_value_in (option_map (with_children f) o) ≡ keeps_value_in o
keeps_kids f None = refl
keeps_kids f (Some node) = refl

keeps_above : (p : Option ℕ) (o : Option DomNode) → keeps_value_in (option_map (with_parent p) o) ≡ keeps_value_in o
keeps_above p None = refl
keeps_above p (Some node) = refl

-- values stand where they did
module _ (nodes : List DomNode) (fits : Fits nodes) where
  pub values_placed : (place : List ℕ → List ℕ) (p c x : ℕ) → has_value_in (slice_get (placed place p c nodes) x) ≡ keeps_value_in (slice_get (placed place p c nodes) x)
  values_placed place p c x =
      read_placed has_value_in value_kids value_above place p c nodes x ∙ fits.values x ∙ sym (read_placed keeps_value_in keeps_kids keeps_above place p c nodes x)

  pub values_removed : (c x : ℕ) → has_value_in (slice_get (removed c nodes) x) ≡ keeps_value_in (slice_get (removed c nodes) x)
  values_removed c x = read_removed has_value_in value_kids value_above c nodes x ∙ fits.values x ∙ sym (read_removed keeps_value_in keeps_kids keeps_above c nodes x)

pub documents_placed : (place : List ℕ → List ℕ) (p c : ℕ) (nodes : List DomNode) (x : ℕ) → is_document_in (slice_get (placed place p c nodes) x) ≡ is_document_in (slice_get nodes x)
documents_placed place p c nodes x = read_placed is_document_in document_in_kept document_in_beside place p c nodes x

pub documents_removed : (c : ℕ) (nodes : List DomNode) (x : ℕ) → is_document_in (slice_get (removed c nodes) x) ≡ is_document_in (slice_get nodes x)
documents_removed c nodes x = read_removed is_document_in document_in_kept document_in_beside c nodes x
