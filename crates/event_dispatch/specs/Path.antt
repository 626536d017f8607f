-- The path of an event (DOM Standard, 2.9, "dispatch", by what "get the parent" gives of a node,
-- 4.4, and of a document, 4.5).
use Rattle.std.specs.Prelude.{ℕ, ◌<◌, List, [], ◌∷◌, ◌++◌, length, map, codes, if◌then◌else◌}
use Rattle.js_value.specs.Same.{text_equal}
use Rattle.dom_tree.specs.Nodes.{ancestors}
use Rattle.dom_tree.specs.Node.{DomNode}
pub use Rattle.event_dispatch.specs.declared.event_path.Target.{Target}
use Rattle.event_dispatch.specs.declared.event_path.Target.TheVariants.{Window, Node, Request}

-- the window, to which no event of the type `load` comes from a node
abbrev pub window_behind : List ℕ → List Target
window_behind kind = if text_equal kind (codes "load") then [] else Window ∷ []

-- the target, a node's ancestors, nearest first, and the window, also where the node is outside the
-- document; the window and a request stand alone
abbrev pub path_of : List DomNode → Target → List ℕ → List Target
path_of nodes Window kind = Window ∷ []
path_of nodes (Node n) kind = Node n ∷ map Node (ancestors nodes n) ++ window_behind kind
path_of nodes (Request x) kind = Request x ∷ []

-- a node that is a target is there
abbrev pub IsThere : List DomNode → Target → Type 0
IsThere nodes Window = Unit {0}
IsThere nodes (Node n) = n < length nodes
IsThere nodes (Request x) = Unit {0}
