-- Where nodes are found in the document.
use Rattle.std.specs.Prelude.{ℕ, zero, suc, ◌-◌, ◌==◌, Bool, true, false, ◌&&◌, List, [], ◌∷◌, length, fold, codes, slice_get, Option, Some, None, if◌then◌else◌}
use Rattle.std.specs.List.{flat_map}
use Rattle.std.specs.Str.{bytes_eq}
use Rattle.dom_tree.specs.Nodes.{parent_of, children_of, is_one, ancestors}
use Rattle.dom_tree.specs.Names.{value_named}
use Rattle.dom_tree.specs.Node.{DomNode}
use Rattle.dom_tree.specs.declared.parts.Kind.{Kind}
use Rattle.dom_tree.specs.declared.parts.Kind.TheVariants.{Document, Element, Text}

-- a node and all below it in tree order (DOM Standard, 1.1: each before its children), so many
-- levels deep
abbrev pub tree : List DomNode → ℕ → ℕ → List ℕ
tree nodes zero x = []
tree nodes (suc k) x = x ∷ flat_map (tree nodes k) (children_of nodes x)

-- the document and all in it, in tree order; no node is deeper than there are nodes
abbrev pub in_order : List DomNode → List ℕ
in_order nodes = tree nodes (length nodes) 0

-- the first that passes the test
abbrev pub first_that : (ℕ → Bool) → List ℕ → Option ℕ
first_that test [] = None
first_that test (x ∷ xs) = if test x then Some x else first_that test xs

abbrev pub is_value : List ℕ → Option (List ℕ) → Bool
is_value value None = false
is_value value (Some other) = bytes_eq other value

abbrev pub is_element_kind : Kind → Bool
is_element_kind Document = false
is_element_kind (Element name) = true
is_element_kind (Text text) = false

-- an element with this id (4.9, "unique identifier")
abbrev pub has_id_in : List ℕ → Option DomNode → Bool
has_id_in id None = false
has_id_in id (Some node) =
    is_element_kind node.kind && is_value id (value_named (codes "id") node.attributes)

abbrev pub has_id : List DomNode → List ℕ → ℕ → Bool
has_id nodes id x = has_id_in id (slice_get nodes x)

-- the first element of the document with this id (4.2.4, "getElementById")
abbrev pub node_by_id : List DomNode → List ℕ → Option ℕ
node_by_id nodes id = first_that (has_id nodes id) (in_order nodes)

-- the child of this number, the first being number 0
abbrev pub child_at : List DomNode → Option ℕ → ℕ → Option ℕ
child_at nodes None k = None
child_at nodes (Some x) k = slice_get (children_of nodes x) k

-- the node that child numbers lead to from the document
abbrev pub node_by_path : List DomNode → List ℕ → Option ℕ
node_by_path nodes path = fold (child_at nodes) (Some 0) path

-- what stands first and last among the children (4.4, "firstChild", "lastChild")
abbrev pub first_child : List DomNode → ℕ → Option ℕ
first_child nodes x = slice_get (children_of nodes x) 0

abbrev pub last_child : List DomNode → ℕ → Option ℕ
last_child nodes x = slice_get (children_of nodes x) (length (children_of nodes x) - 1)

-- what stands behind a number that stands in a list, and in front of it
abbrev pub next_in : ℕ → List ℕ → Option ℕ
next_in x [] = None
next_in x (y ∷ ys) = if y == x then slice_get ys 0 else next_in x ys

abbrev pub previous_in : ℕ → List ℕ → Option ℕ
previous_in x [] = None
previous_in x (y ∷ ys) = if is_one x (slice_get ys 0) then Some y else previous_in x ys

-- the children of this parent; none where there is no parent
abbrev pub children_under : List DomNode → Option ℕ → List ℕ
children_under nodes None = []
children_under nodes (Some p) = children_of nodes p

-- the siblings behind and in front of a node (4.4, "nextSibling", "previousSibling")
abbrev pub next_sibling : List DomNode → ℕ → Option ℕ
next_sibling nodes x = next_in x (children_under nodes (parent_of nodes x))

abbrev pub previous_sibling : List DomNode → ℕ → Option ℕ
previous_sibling nodes x = previous_in x (children_under nodes (parent_of nodes x))

abbrev pub or_else : Option ℕ → Option ℕ → Option ℕ
or_else None other = other
or_else (Some x) other = Some x

-- the next sibling of the nearest of these nodes, each the parent of the one before, that has one,
-- none of them being the root
abbrev pub next_above : List DomNode → ℕ → List ℕ → Option ℕ
next_above nodes root [] = None
next_above nodes root (x ∷ above) =
    if x == root then None else or_else (next_sibling nodes x) (next_above nodes root above)

-- the node that follows in tree order within the tree below a root (DOM Standard, 1.1): the first
-- child, or else what follows behind all that is below the node
abbrev pub next_within : List DomNode → ℕ → ℕ → Option ℕ
next_within nodes root x =
    or_else (first_child nodes x) (next_above nodes root (x ∷ ancestors nodes x))
