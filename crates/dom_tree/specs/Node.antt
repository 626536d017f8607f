-- A node of a document (DOM Standard, 4.4 and 4.9).
use Rattle.std.specs.Prelude.{ℕ, List, Option}
use Rattle.html_profile.specs.declared.document.DocAttribute.{DocAttribute}
use Rattle.dom_tree.specs.declared.parts.Kind.{Kind}
use Rattle.dom_tree.specs.declared.parts.NodeData.{NodeData}

-- what a document has of a node: the document itself, and the root of a tree outside it, has no
-- parent; an input or a textarea has a value
pub record DomNode : Type 0 where
  pub kind : Kind
  pub parent : Option ℕ
  pub children : List ℕ
  pub attributes : List DocAttribute
  pub value : Option (List ℕ)

-- the node that is kept so, with these children
abbrev pub node_with : List ℕ → NodeData → DomNode
node_with children d = record {
  kind = d.kind;
  parent = d.parent;
  children = children;
  attributes = d.attributes;
  value = d.value;
}
