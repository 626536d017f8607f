-- How the nodes of a page hang together.
use Rattle.std.specs.Prelude.{◌≡◌, ℕ, ◌<◌, Bool, true, false, List, length, slice_get, Option, Some, None}
use Rattle.html_profile.specs.declared.document.DocNode.{DocNode}
use Rattle.html_profile.specs.declared.document.Content.{Content}
use Rattle.html_profile.specs.declared.document.Content.TheVariants.{Document, Element, Text}

abbrev pub parent_in : Option DocNode → Option ℕ
parent_in None = None
parent_in (Some node) = node.parent

abbrev pub is_text_content : Content → Bool
is_text_content Document = false
is_text_content (Element name attributes) = false
is_text_content (Text text) = true

abbrev pub is_text_in : Option DocNode → Bool
is_text_in None = false
is_text_in (Some node) = is_text_content node.content

abbrev pub is_document_content : Content → Bool
is_document_content Document = true
is_document_content (Element name attributes) = false
is_document_content (Text text) = false

abbrev pub is_document_in : Option DocNode → Bool
is_document_in None = false
is_document_in (Some node) = is_document_content node.content

abbrev pub is_element_content : Content → Bool
is_element_content Document = false
is_element_content (Element name attributes) = true
is_element_content (Text text) = false

abbrev pub is_element_in : Option DocNode → Bool
is_element_in None = false
is_element_in (Some node) = is_element_content node.content

abbrev pub is_element : List DocNode → ℕ → Bool
is_element nodes x = is_element_in (slice_get nodes x)

-- the nodes are numbered in the order in which they are opened: the document comes first, is the
-- only one and has no parent, and each other node has a parent before it, which is no text
pub record IsNumbered (nodes : List DocNode) : Type 0 where
  pub document : is_document_in (slice_get nodes 0) ≡ true
  pub alone : (x : ℕ) → is_document_in (slice_get nodes x) ≡ true → x ≡ 0
  pub top : parent_in (slice_get nodes 0) ≡ None
  pub below : (x : ℕ) → 0 < x → x < length nodes
      → (p : ℕ) × (parent_in (slice_get nodes x) ≡ Some p) × (p < x)
      × (is_text_in (slice_get nodes p) ≡ false)
