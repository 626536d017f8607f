-- The tree that a page's pieces make (HTML Standard, 13.2.6, in a profile: no implied tags, so a
-- start tag always opens a child of the innermost open element, and an end tag closes all up to the
-- nearest open element of its name, or is ignored).
use Rattle.std.specs.Prelude.{ℕ, ◌-◌, List, [], ◌∷◌, ◌++◌, length, map, codes, fold, Option, Some, None, if◌then◌else◌}
use Rattle.std.specs.List.{flat_map}
use Rattle.std.specs.Option.{option_map}
use Rattle.std.specs.Str.{bytes_eq, chars}
use Rattle.std.specs.Char.Escape.{encode_utf16}
use Rattle.html_profile.specs.Names.{is_void, is_handler, is_run, value_named, firsts}
use Rattle.html_profile.specs.declared.tag.Attribute.{Attribute}
use Rattle.html_profile.specs.declared.piece.Tag.{Tag}
use Rattle.html_profile.specs.declared.piece.Piece.{Piece}
use Rattle.html_profile.specs.declared.piece.Piece.TheVariants.{Dropped, Text, EndTag, StartTag}
use Rattle.html_profile.specs.declared.document.DocNode.{DocNode}
use Rattle.html_profile.specs.declared.document.Content.TheVariants.{Document as document, Element as element, Text as text_node}
use Rattle.html_profile.specs.declared.document.DocAttribute.{DocAttribute}
use Rattle.html_profile.specs.declared.document.ScriptAt.{ScriptAt}
use Rattle.html_profile.specs.declared.document.HandlerAt.{HandlerAt}
use Rattle.html_profile.specs.declared.document.NameAt.{NameAt}
use Rattle.html_profile.specs.declared.tree.Open.{Open}

-- the 16-bit units of a text in UTF-8
abbrev pub units : List ℕ → List ℕ
units bytes = flat_map encode_utf16 (chars bytes)

-- what has been read of a page: its nodes by number, the open elements, innermost first, and the
-- text behind the last tag
pub record State : Type 0 where
  pub nodes : List DocNode
  pub open_elements : List Open
  pub words : List ℕ
  pub scripts : List ScriptAt
  pub handlers : List HandlerAt
  pub names : List NameAt

-- the innermost open element, or the document
abbrev pub innermost : List Open → ℕ
innermost [] = 0
innermost (o ∷ _) = o.node

-- the nodes, and behind them a text in this parent, unless it is empty
abbrev pub with_text : List DocNode → ℕ → List ℕ → List DocNode
with_text nodes parent [] = nodes
with_text nodes parent (c ∷ words) =
    nodes ++ record { parent = Some parent; content = text_node (units (c ∷ words)) } ∷ []

-- the text behind the last tag becomes a node
abbrev pub settled : State → State
settled s = record s { nodes = with_text s.nodes (innermost s.open_elements) s.words; words = [] }

-- the elements that stay open where the nearest one of this name is closed; none where none is open
abbrev pub closed : List ℕ → List Open → Option (List Open)
closed name [] = None
closed name (o ∷ more) = if bytes_eq o.name name then Some more else closed name more

abbrev pub with_closed : State → Option (List Open) → State
with_closed s None = s
with_closed s (Some more) = record (settled s) { open_elements = more }

abbrev pub shown_attribute : Attribute → DocAttribute
shown_attribute a = record { name = units a.name; value = units a.value }

-- the elements that are open behind a start tag
abbrev pub opened : ℕ → List ℕ → List Open → List Open
opened node name open_ones =
    if is_void name then open_ones else record { node = node; name = name } ∷ open_ones

-- the script that an element is, if it is one that is run; total is the page's length
abbrev pub script_of : ℕ → ℕ → Tag → List ScriptAt
script_of total node tag =
    if is_run tag.name tag.attributes
    then record {
      node = node;
      src = option_map units (value_named (codes "src") tag.attributes);
      text = units tag.text;
      source = tag.source;
      at = total - tag.left;
    } ∷ []
    else []

abbrev pub handler_at : ℕ → ℕ → Attribute → HandlerAt
handler_at total node a =
    record { node = node; name = units a.name; text = units a.value; at = total - a.left }

-- the handler that an attribute is, if it is one
abbrev pub handler_of : ℕ → ℕ → Attribute → List HandlerAt
handler_of total node a = if is_handler a.name then handler_at total node a ∷ [] else []

-- the handlers among an element's attributes
abbrev pub handlers_of : ℕ → ℕ → List Attribute → List HandlerAt
handlers_of total node attributes = flat_map (handler_of total node) attributes

-- where an attribute's name stands
abbrev pub name_at : ℕ → ℕ → Attribute → NameAt
name_at total node a = record { node = node; name = units a.name; at = total - a.left }

-- the element of a start tag
abbrev pub element_of : ℕ → Tag → DocNode
element_of parent tag = record {
  parent = Some parent;
  content = element (units tag.name) (map shown_attribute (firsts [] tag.attributes));
}

-- an element behind the nodes, and its text, if it has raw text, behind its tag
abbrev pub with_element : ℕ → State → Tag → State
with_element total s tag = record {
  nodes = s.nodes ++ element_of (innermost s.open_elements) tag ∷ [];
  open_elements = opened (length s.nodes) tag.name s.open_elements;
  words = tag.text;
  scripts = s.scripts ++ script_of total (length s.nodes) tag;
  handlers = s.handlers ++ handlers_of total (length s.nodes) (firsts [] tag.attributes);
  names = s.names ++ map (name_at total (length s.nodes)) (firsts [] tag.attributes);
}

-- what has been read with one more piece
abbrev pub step : ℕ → State → Piece → State
step total s Dropped = s
step total s (Text words) = record s { words = s.words ++ words }
step total s (EndTag name) = with_closed s (closed name s.open_elements)
step total s (StartTag tag) = with_element total (settled s) tag

-- the document alone
abbrev pub beginning : State
beginning = record {
  nodes = record { parent = None; content = document } ∷ [];
  open_elements = [];
  words = [];
  scripts = [];
  handlers = [];
  names = [];
}

-- what the pieces make
abbrev pub made : ℕ → List Piece → State
made total pieces = settled (fold (step total) beginning pieces)
