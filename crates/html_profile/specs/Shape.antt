-- The shape of the trees that pages make.
use Rattle.std.specs.Prelude.{◌≡◌, ℕ, zero, suc, ◌==◌, Bool, false, ◌&&◌, List, [], ◌∷◌, length, All, slice_get, Option, Some, None, if◌then◌else◌}
use Rattle.html_profile.specs.Names.{is_void}
use Rattle.html_profile.specs.Numbering.{parent_in, is_text_content, is_text_in}
use Rattle.html_profile.specs.declared.document.DocNode.{DocNode}
use Rattle.html_profile.specs.declared.document.Content.{Content}
use Rattle.html_profile.specs.declared.document.Content.TheVariants.{Document, Element, Text}

-- a text without units
abbrev pub is_empty_text : Content → Bool
is_empty_text Document = false
is_empty_text (Element name attributes) = false
is_empty_text (Text text) = length text == 0

-- an element that has no end tag (HTML Standard, 13.1.2); its name is in units
abbrev pub is_void_content : Content → Bool
is_void_content Document = false
is_void_content (Element name attributes) = is_void name
is_void_content (Text text) = false

abbrev pub is_void_in : Option DocNode → Bool
is_void_in None = false
is_void_in (Some node) = is_void_content node.content

abbrev pub is_one : ℕ → Option ℕ → Bool
is_one x None = false
is_one x (Some y) = y == x

-- what the children of this parent are, in their order
abbrev pub contents_in : ℕ → List DocNode → List Content
contents_in p [] = []
contents_in p (node ∷ more) =
    if is_one p node.parent then node.content ∷ contents_in p more else contents_in p more

abbrev pub begins_in_text : List Content → Bool
begins_in_text [] = false
begins_in_text (c ∷ _) = is_text_content c

-- no two texts stand side by side
abbrev pub TextsApart : List Content → Type 0
TextsApart [] = Unit {0}
TextsApart (c ∷ more) = ((is_text_content c && begins_in_text more) ≡ false) × TextsApart more

-- so many steps up from a node
abbrev pub steps_up : List DocNode → ℕ → Option ℕ → Option ℕ
steps_up nodes zero o = o
steps_up nodes (suc k) None = None
steps_up nodes (suc k) (Some x) = steps_up nodes k (parent_in (slice_get nodes x))

-- the second node is the first one or stands below it
abbrev pub StandsIn : List DocNode → ℕ → ℕ → Type 0
StandsIn nodes p x = (k : ℕ) × (steps_up nodes k (Some x) ≡ Some p)

-- no text is empty, and no two stand side by side; what has a child is neither a text nor a void
-- element; and the numbers are in the order in which nodes are opened (DOM Standard, 1.1, "tree
-- order"): a node's parent is the node of the number before, or one that it stands in
pub record HasShape (nodes : List DocNode) : Type 0 where
  pub texts : All (λ node. is_empty_text node.content ≡ false) nodes
  pub apart : (p : ℕ) → TextsApart (contents_in p nodes)
  pub texts_childless : (x p : ℕ) → parent_in (slice_get nodes x) ≡ Some p
      → is_text_in (slice_get nodes p) ≡ false
  pub voids_childless : (x p : ℕ) → parent_in (slice_get nodes x) ≡ Some p
      → is_void_in (slice_get nodes p) ≡ false
  pub order : (x p : ℕ) → parent_in (slice_get nodes (suc x)) ≡ Some p → StandsIn nodes p x
