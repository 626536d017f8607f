-- What a page's nodes are as nodes of a document.
use Rattle.std.specs.Prelude.{◌≡◌, ℕ, ◌+◌, List, [], ◌∷◌, length, codes, slice_get, Option, Some, None, if◌then◌else◌}
use Rattle.std.specs.Option.{option_map}
use Rattle.std.specs.Str.{bytes_eq}
use Rattle.html_profile.specs.declared.document.DocNode.{DocNode}
use Rattle.html_profile.specs.declared.document.DocAttribute.{DocAttribute}
use Rattle.html_profile.specs.declared.document.Content.{Content}
use Rattle.html_profile.specs.declared.document.Content.TheVariants.{Document as page, Element as tag, Text as words}
use Rattle.dom_tree.specs.Nodes.{is_one}
use Rattle.dom_tree.specs.Names.{value_named}
use Rattle.dom_tree.specs.Node.{DomNode}
use Rattle.dom_tree.specs.declared.parts.Kind.{Kind}
use Rattle.dom_tree.specs.declared.parts.Kind.TheVariants.{Document, Element, Text}

abbrev pub kind_of : Content → Kind
kind_of page = Document
kind_of (tag name attributes) = Element name
kind_of (words text) = Text text

abbrev pub attributes_of_content : Content → List DocAttribute
attributes_of_content page = []
attributes_of_content (tag name attributes) = attributes
attributes_of_content (words text) = []

-- the numbers, counted from the first one given, of the nodes with this parent
abbrev pub numbers_in : ℕ → ℕ → List DocNode → List ℕ
numbers_in x k [] = []
numbers_in x k (node ∷ more) =
    if is_one x node.parent then k ∷ numbers_in x (k + 1) more else numbers_in x (k + 1) more

-- the units, or none
abbrev pub or_empty : Option (List ℕ) → List ℕ
or_empty None = []
or_empty (Some text) = text

abbrev pub text_of_content : Content → List ℕ
text_of_content page = []
text_of_content (tag name attributes) = []
text_of_content (words text) = text

-- the text that a node is, where it is one in this parent
abbrev pub text_in : ℕ → Option DocNode → List ℕ
text_in x None = []
text_in x (Some node) = if is_one x node.parent then text_of_content node.content else []

-- what an input holds at the start is its attribute `value`, and what a textarea holds is its text,
-- which the page reader numbers next (HTML Standard, 4.10.5.4 and 4.10.11)
abbrev pub value_of : List DocNode → ℕ → Content → Option (List ℕ)
value_of nodes x page = None
value_of nodes x (tag name attributes) =
    if bytes_eq name (codes "input") then Some (or_empty (value_named (codes "value") attributes))
    else (if bytes_eq name (codes "textarea") then Some (text_in x (slice_get nodes (x + 1)))
    else None)
value_of nodes x (words text) = None

-- the node of this number as it is made, before it has a parent
abbrev pub made_of : List DocNode → ℕ → DocNode → DomNode
made_of nodes x node = record {
  kind = kind_of node.content;
  parent = None;
  children = [];
  attributes = attributes_of_content node.content;
  value = value_of nodes x node.content;
}

-- the node of this number, where these nodes are looked at for its children
abbrev pub node_of : List DocNode → List DocNode → ℕ → DocNode → DomNode
node_of nodes front x node = record {
  kind = kind_of node.content;
  parent = node.parent;
  children = numbers_in x 0 front;
  attributes = attributes_of_content node.content;
  value = value_of nodes x node.content;
}

-- these are the page's nodes at the front, each with its number
pub record IsFront (nodes front : List DocNode) (read : List DomNode) : Type 0 where
  pub count : length read ≡ length front
  pub each : (x : ℕ) → slice_get read x ≡ option_map (node_of nodes front x) (slice_get front x)

-- the document has the page's nodes, each with its number
abbrev pub IsRead : List DocNode → List DomNode → Type 0
IsRead nodes read = IsFront nodes nodes read
