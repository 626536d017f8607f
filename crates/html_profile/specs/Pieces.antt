-- The pieces that make up a page (HTML Standard, 13.2.5 "Tokenization", in a profile: no CDATA; a
-- comment ends at `-->` alone, so `<!-->` opens one; an element with raw text and its text are one
-- piece).
-- Each piece is of the kind that its first bytes have, and as long as the rule of its kind lets it
-- be.
use Rattle.std.specs.Prelude.{◌≡◌, ◌≢◌, ℕ, ◌&&◌, List, [], ◌∷◌, length, drop, codes, nat_lt, Option, Some, None, if◌then◌else◌}
use Rattle.std.specs.Char.{is_ascii_alphabetic}
use Rattle.std.specs.Str.{bytes_eq}
use Rattle.html_profile.specs.Marks.{lower, opens, begins, opens_markup, place, before, from}
use Rattle.html_profile.specs.Plain.{lines, plain}
use Rattle.html_profile.specs.Attributes.{IsAttributes}
use Rattle.html_profile.specs.declared.mark.Raw.{Raw}
use Rattle.html_profile.specs.declared.mark.Raw.TheVariants.{Script, Style, Title, Textarea}
use Rattle.html_profile.specs.declared.mark.Mark.TheVariants.{CommentEnd, TagEnd, Markup, NameEnd, RawEnd}
use Rattle.html_profile.specs.declared.piece.Kind.{Kind}
use Rattle.html_profile.specs.declared.piece.Kind.TheVariants.{Comment, Other, Ending, Starting, Words}
use Rattle.html_profile.specs.declared.tag.Attribute.{Attribute}
use Rattle.html_profile.specs.declared.piece.Tag.{Tag}
use Rattle.html_profile.specs.declared.piece.Piece.{Piece}
use Rattle.html_profile.specs.declared.piece.Piece.TheVariants.{Dropped, Text, EndTag, StartTag}

-- the kind of a piece that begins with markup: what is no comment and no tag is dropped up to `>`
abbrev pub markup_kind : List ℕ → Kind
markup_kind text =
    if opens text (codes "<!--") then Comment
    else (if begins is_ascii_alphabetic (drop 1 text) then Starting
    else (if opens text (codes "</") && begins is_ascii_alphabetic (drop 2 text) then Ending
    else Other))

-- the kind that the first bytes have
abbrev pub kind_of : List ℕ → Kind
kind_of text = if opens_markup text then markup_kind text else Words

-- the element with raw text that has this name
abbrev pub raw_of : List ℕ → Option Raw
raw_of name =
    if bytes_eq name (codes "script") then Some Script
    else (if bytes_eq name (codes "style") then Some Style
    else (if bytes_eq name (codes "title") then Some Title
    else (if bytes_eq name (codes "textarea") then Some Textarea else None)))

-- the text that the bytes of an element with raw text stand for: without references, or with them
abbrev pub raw_text : Raw → List ℕ → List ℕ
raw_text Script bytes = lines bytes
raw_text Style bytes = lines bytes
raw_text Title bytes = plain bytes
raw_text Textarea bytes = plain bytes

-- the raw text behind a start tag, up to the element's end tag, as it stands there and as it reads,
-- and what stands behind it; nothing for other elements
abbrev pub source : Option Raw → List ℕ → List ℕ
source None rest = []
source (Some raw) rest = before (RawEnd raw) rest

abbrev pub read_source : Option Raw → List ℕ → List ℕ
read_source None bytes = []
read_source (Some raw) bytes = raw_text raw bytes

abbrev pub behind_content : Option Raw → List ℕ → List ℕ
behind_content None rest = rest
behind_content (Some raw) rest = from (RawEnd raw) rest

abbrev pub tag_of : List ℕ → List Attribute → List ℕ → Tag
tag_of name attributes rest = record {
  name = name;
  attributes = attributes;
  source = source (raw_of name) rest;
  text = read_source (raw_of name) (source (raw_of name) rest);
  left = length rest;
}

-- the start tag with this name and these attributes, behind which this stands: an element, or
-- nothing where the end cuts the tag off
abbrev pub IsTag : List ℕ → List Attribute → Option (List ℕ) → Piece → List ℕ → Type 0
IsTag name attributes None piece behind = (piece ≡ Dropped) × (behind ≡ [])
IsTag name attributes (Some rest) piece behind =
    (piece ≡ StartTag (tag_of name attributes rest)) × (behind ≡ behind_content (raw_of name) rest)

-- the name of a start tag
abbrev pub tag_name : List ℕ → List ℕ
tag_name text = lower (before NameEnd (drop 1 text))

-- a start tag, with all its attributes
pub record IsStartTag (text : List ℕ) (piece : Piece) (behind : List ℕ) : Type 0 where
  pub attributes : List Attribute
  pub rest : Option (List ℕ)
  pub all : IsAttributes (from NameEnd (drop 1 text)) attributes rest
  pub tag : IsTag (tag_name text) attributes rest piece behind

-- the name of an end tag
abbrev pub end_name : List ℕ → List ℕ
end_name text = lower (before NameEnd (drop 2 text))

-- an end tag that `>` ends; one that the end cuts off is dropped
abbrev pub end_tag : List ℕ → Piece
end_tag text = if nat_lt (place TagEnd text) (length text) then EndTag (end_name text) else Dropped

-- the piece of this kind at the front of the text, and what stands behind it
abbrev pub IsPieceOf : Kind → List ℕ → Piece → List ℕ → Type 0
IsPieceOf Comment text piece behind =
    (piece ≡ Dropped) × (behind ≡ drop 3 (from CommentEnd (drop 4 text)))
IsPieceOf Other text piece behind = (piece ≡ Dropped) × (behind ≡ drop 1 (from TagEnd text))
IsPieceOf Ending text piece behind = (piece ≡ end_tag text) × (behind ≡ drop 1 (from TagEnd text))
IsPieceOf Starting text piece behind = IsStartTag text piece behind
IsPieceOf Words text piece behind =
    (piece ≡ Text (plain (before Markup text))) × (behind ≡ from Markup text)

-- the piece at the front of a text that is not empty
abbrev pub IsPiece : List ℕ → Piece → List ℕ → Type 0
IsPiece text piece behind = IsPieceOf (kind_of text) text piece behind

-- these pieces stand one behind the other, and this behind them
abbrev pub Reads : List ℕ → List Piece → List ℕ → Type 0
Reads text [] rest = text ≡ rest
Reads text (piece ∷ pieces) rest =
    (behind : List ℕ) × (text ≢ []) × IsPiece text piece behind × Reads behind pieces rest

-- these are the pieces that make up the text
abbrev pub ArePieces : List ℕ → List Piece → Type 0
ArePieces text pieces = Reads text pieces []
