-- What the attributes of a node say, what is kept beside them, and what a new node is.
use Rattle.std.specs.Prelude.{ℕ, Bool, false, ◌||◌, not, List, [], ◌∷◌, codes, slice_get, Option, Some, None, if◌then◌else◌}
use Rattle.std.specs.List.{filter}
use Rattle.std.specs.Str.{bytes_eq}
use Rattle.html_profile.specs.declared.document.DocAttribute.{DocAttribute}
use Rattle.dom_tree.specs.Node.{DomNode}
use Rattle.dom_tree.specs.declared.parts.Kind.{Kind}
use Rattle.dom_tree.specs.declared.parts.Kind.TheVariants.{Document, Element, Text}
use Rattle.dom_tree.specs.declared.parts.NewNode.{NewNode}
use Rattle.dom_tree.specs.declared.parts.NewNode.TheVariants.{Element as new_element, Text as new_text}

-- the value of the attribute of this name (DOM Standard, 4.9)
abbrev pub value_named : List ℕ → List DocAttribute → Option (List ℕ)
value_named name [] = None
value_named name (a ∷ more) = if bytes_eq a.name name then Some a.value else value_named name more

-- the attributes, where the one of this name has this value; it stands behind the others if there
-- was none
abbrev pub with_value : List ℕ → List ℕ → List DocAttribute → List DocAttribute
with_value name value [] = record { name = name; value = value } ∷ []
with_value name value (a ∷ more) =
    if bytes_eq a.name name then record { name = a.name; value = value } ∷ more
    else a ∷ with_value name value more

-- the attributes without those of this name
abbrev pub without_name : List ℕ → List DocAttribute → List DocAttribute
without_name name attributes = filter (λ a. not (bytes_eq a.name name)) attributes

abbrev pub with_attributes : (List DocAttribute → List DocAttribute) → DomNode → DomNode
with_attributes f node = record node { attributes = f node.attributes }

-- a node of this kind keeps a value beside its attributes (HTML Standard, 4.10.5 and 4.10.11)
abbrev pub keeps_value : Kind → Bool
keeps_value Document = false
keeps_value (Element name) = bytes_eq name (codes "input") || bytes_eq name (codes "textarea")
keeps_value (Text text) = false

-- a node outside the document, without children and attributes; a value that it keeps is empty
abbrev pub fresh : Kind → DomNode
fresh kind = record {
  kind = kind;
  parent = None;
  children = [];
  attributes = [];
  value = if keeps_value kind then Some [] else None;
}

abbrev pub kind_of_new : NewNode → Kind
kind_of_new (new_element name) = Element name
kind_of_new (new_text text) = Text text

abbrev pub with_text : List ℕ → DomNode → DomNode
with_text text node = record node { kind = Text text }

abbrev pub with_own_value : List ℕ → DomNode → DomNode
with_own_value value node = record node { value = Some value }

abbrev pub keeps_value_in : Option DomNode → Bool
keeps_value_in None = false
keeps_value_in (Some node) = keeps_value node.kind

abbrev pub attributes_in : Option DomNode → List DocAttribute
attributes_in None = []
attributes_in (Some node) = node.attributes

abbrev pub attributes_of : List DomNode → ℕ → List DocAttribute
attributes_of nodes x = attributes_in (slice_get nodes x)
