-- What a page is: its tree, the scripts that are run, and the handler attributes.
use Rattle.std.specs.Prelude.{◌≡◌, ◌↔◌, ℕ, Bool, List, ◌++◌, length, take, drop, if◌then◌else◌}
use Rattle.html_profile.specs.Marks.{opens}
use Rattle.html_profile.specs.FirstPlace.{mark_len, first_place}
use Rattle.html_profile.specs.Pieces.{ArePieces}
use Rattle.html_profile.specs.Tree.{State, made}
use Rattle.html_profile.specs.InsertedScript.{inserted_script}
use Rattle.html_profile.specs.declared.piece.Piece.{Piece}
use Rattle.html_profile.specs.declared.document.DocNode.{DocNode}
use Rattle.html_profile.specs.declared.document.ScriptAt.{ScriptAt}
use Rattle.html_profile.specs.declared.document.HandlerAt.{HandlerAt}
use Rattle.html_profile.specs.declared.document.NameAt.{NameAt}

-- the nodes by number, the scripts that are run, the handler attributes, and where the name of each
-- attribute stands
pub record Page : Type 0 where
  pub nodes : List DocNode
  pub scripts : List ScriptAt
  pub handlers : List HandlerAt
  pub names : List NameAt

-- what the pieces of a text make, in a page of this length
abbrev pub IsTree : ℕ → List ℕ → State → Type 0
IsTree total text s = (pieces : List Piece) × ArePieces text pieces × (s ≡ made total pieces)

-- the inserted script stands at the front
unfoldable pub opens_prelude : List ℕ → Bool
opens_prelude text = opens text inserted_script

-- the bytes without the inserted script, which may stand at the first place alone
abbrev pub without_prelude : List ℕ → List ℕ
without_prelude bytes =
    if opens_prelude (drop (first_place bytes) bytes)
    then take (first_place bytes) bytes ++ drop 450 (drop (first_place bytes) bytes)
    else bytes

-- the bytes with the inserted script at the first place
abbrev pub with_inserted : List ℕ → List ℕ
with_inserted bytes =
    take (first_place bytes) bytes ++ (inserted_script ++ drop (first_place bytes) bytes)

abbrev pub page_of : State → Page
page_of s = record { nodes = s.nodes; scripts = s.scripts; handlers = s.handlers; names = s.names }

-- the page that all these bytes are, but for a byte order mark of this length; places are those of
-- the bytes
abbrev pub IsPageBehind : ℕ → List ℕ → Page → Type 0
IsPageBehind mark bytes page =
    (s : State) × IsTree (length bytes) (drop mark bytes) s × (page ≡ page_of s)

-- the page that the bytes are; places are those of the bytes without the inserted script
abbrev pub IsPage : List ℕ → Page → Type 0
IsPage bytes page = IsPageBehind (mark_len bytes) (without_prelude bytes) page

-- the page that the bytes are where nothing is taken out; places count every byte
abbrev pub IsWholePage : List ℕ → Page → Type 0
IsWholePage bytes page = IsPageBehind (mark_len bytes) bytes page

-- what the inserted script changes of these bytes, which have none at their first place: not where
-- it stands, and not what is read
pub record IsPassedOver (bytes : List ℕ) : Type 0 where
  pub place : first_place (with_inserted bytes) ≡ first_place bytes
  pub page : (page : Page) → IsPage (with_inserted bytes) page ↔ IsPage bytes page
