-- How a page's lists hang together.
use Rattle.std.specs.Prelude.{◌≡◌, ℕ, ◌≤◌, true, List, All}
use Rattle.html_profile.specs.Numbering.{is_element, IsNumbered}
use Rattle.html_profile.specs.Page.{Page}
use Rattle.html_profile.specs.declared.document.DocNode.{DocNode}
use Rattle.html_profile.specs.declared.document.ScriptAt.{ScriptAt}
use Rattle.html_profile.specs.declared.document.HandlerAt.{HandlerAt}
use Rattle.html_profile.specs.declared.document.NameAt.{NameAt}

-- scripts, handlers and names are those of elements that are there
abbrev pub NameElements : List DocNode → List ScriptAt → Type 0
NameElements nodes scripts = All (λ s. is_element nodes s.node ≡ true) scripts

abbrev pub HandleElements : List DocNode → List HandlerAt → Type 0
HandleElements nodes handlers = All (λ h. is_element nodes h.node ≡ true) handlers

abbrev pub BelongToElements : List DocNode → List NameAt → Type 0
BelongToElements nodes names = All (λ n. is_element nodes n.node ≡ true) names

-- no script stands behind this place
abbrev pub StandWithin : ℕ → List ScriptAt → Type 0
StandWithin end scripts = All (λ s. s.at ≤ end) scripts

-- a page of at most this length
pub record IsCoherent (end : ℕ) (page : Page) : Type 0 where
  pub numbered : IsNumbered page.nodes
  pub scripts : NameElements page.nodes page.scripts
  pub handlers : HandleElements page.nodes page.handlers
  pub names : BelongToElements page.nodes page.names
  pub within : StandWithin end page.scripts
