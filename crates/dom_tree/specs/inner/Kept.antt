-- What the code keeps of a document: in place of the list of a node's children, links to the first
-- and the last one, and from each child to those beside it.
use Rattle.std.specs.Prelude.{◌≡◌, ℕ, List, [], length, map, slice_get, Option, Some, None}
use Rattle.dom_tree.specs.Node.{DomNode, node_with}
use Rattle.dom_tree.specs.Nodes.{way_up, Fits}
use Rattle.dom_tree.specs.Changes.{changed}
use Rattle.dom_tree.specs.Order.{first_child, last_child, next_sibling, previous_sibling}
use Rattle.dom_tree.specs.declared.parts.NodeData.{NodeData}
use Rattle.dom_tree.specs.declared.parts.Links.{Links}

-- a link of what is kept of a node; what isn't there has none
abbrev pub link_in : (NodeData → Option ℕ) → Option NodeData → Option ℕ
link_in link None = None
link_in link (Some d) = link d

abbrev pub first_link : List NodeData → ℕ → Option ℕ
first_link kept x = link_in (λ d. d.links.first) (slice_get kept x)

abbrev pub last_link : List NodeData → ℕ → Option ℕ
last_link kept x = link_in (λ d. d.links.last) (slice_get kept x)

abbrev pub next_link : List NodeData → ℕ → Option ℕ
next_link kept x = link_in (λ d. d.links.next) (slice_get kept x)

abbrev pub previous_link : List NodeData → ℕ → Option ℕ
previous_link kept x = link_in (λ d. d.links.previous) (slice_get kept x)

-- the nodes that are kept so: a node's children are its first one and what the links to the next
-- ones lead to
abbrev pub shown_node : List NodeData → NodeData → DomNode
shown_node kept d = node_with (way_up (next_link kept) (length kept) d.links.first) d

abbrev pub nodes_of : List NodeData → List DomNode
nodes_of kept = map (shown_node kept) kept

-- a node without regard to its children
abbrev pub bare : NodeData → DomNode
bare d = node_with [] d

abbrev pub emptied : DomNode → DomNode
emptied node = record node { children = [] }

-- these nodes are kept: what a node says of itself, and all four links
pub record Keeps (nodes : List DomNode) (kept : List NodeData) : Type 0 where
  pub same : map bare kept ≡ map emptied nodes
  pub first : (x : ℕ) → first_link kept x ≡ first_child nodes x
  pub last : (x : ℕ) → last_link kept x ≡ last_child nodes x
  pub next : (x : ℕ) → next_link kept x ≡ next_sibling nodes x
  pub previous : (x : ℕ) → previous_link kept x ≡ previous_sibling nodes x

-- what is kept makes trees, and its links are those of its nodes
pub record IsLinked (kept : List NodeData) : Type 0 where
  pub fits : Fits (nodes_of kept)
  pub keeps : Keeps (nodes_of kept) kept

-- ---- changes of what is kept

abbrev pub with_first : Option ℕ → NodeData → NodeData
with_first first d = record d { links = record d.links { first = first } }

abbrev pub with_last : Option ℕ → NodeData → NodeData
with_last last d = record d { links = record d.links { last = last } }

abbrev pub with_next : Option ℕ → NodeData → NodeData
with_next next d = record d { links = record d.links { next = next } }

abbrev pub with_previous : Option ℕ → NodeData → NodeData
with_previous previous d = record d { links = record d.links { previous = previous } }

-- a node in this parent, or in none, between these two
abbrev pub with_place : Option ℕ → Option ℕ → Option ℕ → NodeData → NodeData
with_place parent previous next d =
    record d { parent = parent; links = record d.links { previous = previous; next = next } }

-- a child's link to one side is changed, or, where no child is named, that of the parent to the end
-- of this side
abbrev pub side_set : (NodeData → NodeData) → (NodeData → NodeData) → ℕ → Option ℕ → List NodeData
    → List NodeData
side_set of_parent of_child parent None kept = changed of_parent parent kept
side_set of_parent of_child parent (Some x) kept = changed of_child x kept

-- this stands behind a child, or first in the parent
abbrev pub followed : ℕ → Option ℕ → Option ℕ → List NodeData → List NodeData
followed parent at next kept = side_set (with_first next) (with_next next) parent at kept

-- this stands in front of a child, or last in the parent
abbrev pub preceded : ℕ → Option ℕ → Option ℕ → List NodeData → List NodeData
preceded parent at previous kept =
    side_set (with_last previous) (with_previous previous) parent at kept

-- a child is taken out from between two
abbrev pub taken_out : ℕ → ℕ → Option ℕ → Option ℕ → List NodeData → List NodeData
taken_out parent child previous next kept =
    changed (with_place None None None) child
    (preceded parent next previous (followed parent previous next kept))

-- a child is put between two
abbrev pub put_between : ℕ → ℕ → Option ℕ → Option ℕ → List NodeData → List NodeData
put_between parent child previous next kept =
    changed (with_place (Some parent) previous next) child
    (preceded parent next (Some child) (followed parent previous (Some child) kept))

-- the links of a node in no parent and without children
abbrev pub no_links : Links
no_links = record { first = None; last = None; previous = None; next = None }
