-- A document as the list of its nodes (DOM Standard, 4.2, 4.4 and 4.9, in a profile: no doctypes,
-- comments, fragments or shadow trees).
-- A node's number is its place in the list, and number 0 is the document. A node whose parent is
-- none is outside the document, or the document.
use Rattle.std.specs.Prelude.{◌≡◌, ℕ, zero, suc, ◌+◌, ◌<◌, ◌==◌, Bool, false, true, cond, List, [], ◌∷◌, length, Option, Some, None, is_some, slice_get, ◌||◌}
use Rattle.std.specs.List.{list_any}
use Rattle.dom_tree.specs.Names.{keeps_value_in}
use Rattle.dom_tree.specs.Node.{DomNode}
use Rattle.dom_tree.specs.declared.parts.Kind.{Kind}
use Rattle.dom_tree.specs.declared.parts.Kind.TheVariants.{Document, Element, Text}

-- what the node of this number has; a node that isn't there has no parent and no children
abbrev pub parent_in : Option DomNode → Option ℕ
parent_in None = None
parent_in (Some node) = node.parent

abbrev pub children_in : Option DomNode → List ℕ
children_in None = []
children_in (Some node) = node.children

abbrev pub is_text_kind : Kind → Bool
is_text_kind Document = false
is_text_kind (Element name) = false
is_text_kind (Text text) = true

abbrev pub is_text_in : Option DomNode → Bool
is_text_in None = false
is_text_in (Some node) = is_text_kind node.kind

abbrev pub is_document_kind : Kind → Bool
is_document_kind Document = true
is_document_kind (Element name) = false
is_document_kind (Text text) = false

abbrev pub is_document_in : Option DomNode → Bool
is_document_in None = false
is_document_in (Some node) = is_document_kind node.kind

abbrev pub has_value_in : Option DomNode → Bool
has_value_in None = false
has_value_in (Some node) = is_some node.value

abbrev pub parent_of : List DomNode → ℕ → Option ℕ
parent_of nodes x = parent_in (slice_get nodes x)

abbrev pub children_of : List DomNode → ℕ → List ℕ
children_of nodes x = children_in (slice_get nodes x)

abbrev pub is_text : List DomNode → ℕ → Bool
is_text nodes x = is_text_in (slice_get nodes x)

-- how often a number stands in a list
abbrev pub times : ℕ → List ℕ → ℕ
times x [] = 0
times x (y ∷ ys) = cond (y == x) 1 0 + times x ys

-- this node is the parent that was found
abbrev pub is_one : ℕ → Option ℕ → Bool
is_one x None = false
is_one x (Some y) = y == x

-- the second node is a child of the first
abbrev pub is_child : List DomNode → ℕ → ℕ → Bool
is_child nodes parent child = is_one parent (parent_of nodes child)

-- the way up from here: this node, what stands above it, and so on, as far as it goes, but no more
-- than so many nodes
abbrev pub way_up : (ℕ → Option ℕ) → ℕ → Option ℕ → List ℕ
way_up above zero x = []
way_up above (suc k) None = []
way_up above (suc k) (Some x) = x ∷ way_up above k (above x)

-- the way up from here ends within so many nodes
abbrev pub Ends : (ℕ → Option ℕ) → ℕ → Option ℕ → Type 0
Ends above zero None = Unit {0}
Ends above zero (Some x) = ⊥
Ends above (suc k) None = Unit {0}
Ends above (suc k) (Some x) = Ends above k (above x)

-- a node's ancestors, nearest first (4.2, "ancestor")
abbrev pub ancestors : List DomNode → ℕ → List ℕ
ancestors nodes x = way_up (parent_of nodes) (length nodes) (parent_of nodes x)

-- the nodes make trees: the document is number 0, is the only one and has no parent; an input or a
-- textarea keeps a value, and no other node; a node stands once among its parent's children, and
-- among no other node's; every parent is there and is no text; and no way up is longer than there
-- are nodes, so none leads round
pub record Fits (nodes : List DomNode) : Type 0 where
  pub document : is_document_in (slice_get nodes 0) ≡ true
  pub alone : (x : ℕ) → is_document_in (slice_get nodes x) ≡ true → x ≡ 0
  pub values : (x : ℕ) → has_value_in (slice_get nodes x) ≡ keeps_value_in (slice_get nodes x)
  pub top : parent_of nodes 0 ≡ None
  pub children : (x c : ℕ) → times c (children_of nodes x) ≡ cond (is_child nodes x c) 1 0
  pub parents : (x p : ℕ) → parent_of nodes x ≡ Some p
      → (p < length nodes) × (is_text nodes p ≡ false)
  pub ends : (x : ℕ) → Ends (parent_of nodes) (length nodes) (Some x)

-- a node is the document or stands below it (4.4, "connected")
abbrev pub is_in_document : List DomNode → ℕ → Bool
is_in_document nodes x = (x == 0) || list_any (λ y. y == 0) (ancestors nodes x)

-- a node that is there and in the document
abbrev pub IsInDocument : List DomNode → ℕ → Type 0
IsInDocument nodes x = (x < length nodes) × (is_in_document nodes x ≡ true)
