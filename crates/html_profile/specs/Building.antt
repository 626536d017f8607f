-- What has been built of a page, as its state.
use Rattle.std.specs.Prelude.{reverse}
use Rattle.html_profile.specs.declared.tree.Builder.{Builder}
use Rattle.html_profile.specs.Tree.{State}
use Rattle.html_profile.specs.Standing.{HasStanding, names_of}

abbrev pub state_of : Builder → State
state_of b = record {
  nodes = b.nodes.items;
  open_elements = reverse b.elements.items;
  words = b.words.items;
  scripts = b.scripts.items;
  handlers = b.handlers.items;
  names = b.names.items;
}

-- the names of the open elements are known
abbrev pub IsKnown : Builder → Type 0
IsKnown b = HasStanding b.standing (names_of (state_of b).open_elements)
