-- What code finds of the nodes that are kept.
use Rattle.std.proofs.Common.{◌≡◌, ◌≢◌, ℕ, zero, suc, ◌<◌, ◌==◌, Bool, true, false, not, List, [], ◌∷◌, length, get_or, Option, Some, None, is_some, IfSome, refl, sym, ap, subst, ◌∙◌}
use Rattle.std.proofs.lemmas.Bool.{false≢true}
use Rattle.std.specs.List.{slice_get, list_any}
use Rattle.std.specs.Option.{option_map}
use Rattle.std.proofs.lemmas.Option.{slice_get-map}
use Rattle.dom_tree.specs.Node.{DomNode}
use Rattle.dom_tree.specs.Nodes.{parent_in, parent_of, children_of, is_one, is_child, ancestors, Fits}
use Rattle.dom_tree.specs.Order.{first_child, next_sibling, previous_sibling, next_within}
use Rattle.dom_tree.specs.declared.parts.NodeData.{NodeData}
use Rattle.dom_tree.specs.inner.Kept.{nodes_of, shown_node, IsLinked}
use Rattle.dom_tree.proofs.Kept.{first_at, next_to, previous_to, nodes_length}
use Rattle.dom_tree.proofs.Fronts.{off}
use Rattle.dom_tree.proofs.Neighbours.{first_there, next_beside, previous_beside, within_there}

pub none_is : (o : Option ℕ) (b : Bool) → is_some o ≡ not b → b ≡ true → o ≡ None
none_is None b e is = refl
none_is (Some x) b e is = absurd (false≢true (ap not (sym is) ∙ sym e))

pub kept_there : (kept : List NodeData) (o : Option ℕ) → IfSome o (λ y. y < length (nodes_of kept)) → IfSome o (λ y. y < length kept)
kept_there kept None is = tt
kept_there kept (Some y) is = subst (λ n. y < n) (nodes_length kept) is

beside_there : (nodes : List DomNode) (x : ℕ) (o : Option ℕ) → IfSome o (λ y. (y < length nodes) × (parent_of nodes y ≡ parent_of nodes x)) → IfSome o (λ y. y < length nodes)
beside_there nodes x None is = tt
beside_there nodes x (Some y) is = is.0

beside_parent : (nodes : List DomNode) (x : ℕ) (o : Option ℕ) → IfSome o (λ y. (y < length nodes) × (parent_of nodes y ≡ parent_of nodes x)) → IfSome o (λ y. parent_of nodes y ≡ parent_of nodes x)
beside_parent nodes x None is = tt
beside_parent nodes x (Some y) is = is.1

module _ (kept : List NodeData) (linked : IsLinked kept) where
  pub first_found : (i : ℕ) (r : Option ℕ) → r ≡ first_child (nodes_of kept) i → IfSome r (λ y. y < length kept)
  first_found i r is = kept_there kept r (first_there (nodes_of kept) linked.fits i r is)

  pub next_found : (i : ℕ) (r : Option ℕ) → r ≡ next_sibling (nodes_of kept) i → IfSome r (λ y. y < length kept)
  next_found i r is = kept_there kept r (beside_there (nodes_of kept) i r (next_beside (nodes_of kept) linked.fits i r is))

  pub next_parent : (i : ℕ) (r : Option ℕ) → r ≡ next_sibling (nodes_of kept) i → IfSome r (λ y. parent_of (nodes_of kept) y ≡ parent_of (nodes_of kept) i)
  next_parent i r is = beside_parent (nodes_of kept) i r (next_beside (nodes_of kept) linked.fits i r is)

  pub previous_found : (i : ℕ) (r : Option ℕ) → r ≡ previous_sibling (nodes_of kept) i → IfSome r (λ y. y < length kept)
  previous_found i r is = kept_there kept r (beside_there (nodes_of kept) i r (previous_beside (nodes_of kept) linked.fits i r is))

  pub previous_parent : (i : ℕ) (r : Option ℕ) → r ≡ previous_sibling (nodes_of kept) i → IfSome r (λ y. parent_of (nodes_of kept) y ≡ parent_of (nodes_of kept) i)
  previous_parent i r is = beside_parent (nodes_of kept) i r (previous_beside (nodes_of kept) linked.fits i r is)

  pub within_found : (root i : ℕ) (r : Option ℕ) → r ≡ next_within (nodes_of kept) root i → IfSome r (λ y. y < length kept)
  within_found root i r is = kept_there kept r (within_there (nodes_of kept) linked.fits root i r is)

  none_first : (cs : List ℕ) → slice_get cs 0 ≡ None → cs ≡ []
  none_first [] is = refl
  none_first (c ∷ cs) is = absurd cc

  -- a node without children is above no other
  pub holds_none : (wanted node : ℕ) → first_child (nodes_of kept) wanted ≡ None → false ≡ list_any (λ x. x == wanted) (ancestors (nodes_of kept) node)
  holds_none wanted node none = sym (off (nodes_of kept) linked.fits wanted (none_first (children_of (nodes_of kept) wanted) none) node)

pub child_read : (kept : List NodeData) (parent child : ℕ) (d : NodeData) → slice_get kept child ≡ Some d → is_child (nodes_of kept) parent child ≡ is_one parent d.parent
child_read kept parent child d is = ap (λ o. is_one parent (parent_in o)) (slice_get-map (shown_node kept) kept child ∙ ap (option_map (shown_node kept)) is)

pub child_past : (kept : List NodeData) (parent child : ℕ) → slice_get kept child ≡ None → is_child (nodes_of kept) parent child ≡ false
child_past kept parent child is = ap (λ o. is_one parent (parent_in o)) (slice_get-map (shown_node kept) kept child ∙ ap (option_map (shown_node kept)) is)
