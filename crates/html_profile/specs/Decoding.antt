-- Which parts of a page decode: names, values and texts that are UTF-8.
use Rattle.std.specs.Prelude.{All}
use Rattle.std.specs.Str.{IsUtf8}
use Rattle.html_profile.specs.declared.tag.Attribute.{Attribute}
use Rattle.html_profile.specs.declared.piece.Tag.{Tag}
use Rattle.html_profile.specs.declared.piece.Piece.{Piece}
use Rattle.html_profile.specs.declared.piece.Piece.TheVariants.{Dropped, Text, EndTag, StartTag}

abbrev pub DecodingAttribute : Attribute → Type 0
DecodingAttribute a = IsUtf8 a.name × IsUtf8 a.value

pub record DecodingTag (tag : Tag) : Type 0 where
  pub name : IsUtf8 tag.name
  pub attributes : All DecodingAttribute tag.attributes
  pub text : IsUtf8 tag.text

-- no node is made of an end tag's name
abbrev pub DecodingPiece : Piece → Type 0
DecodingPiece Dropped = Unit {0}
DecodingPiece (Text words) = IsUtf8 words
DecodingPiece (EndTag name) = Unit {0}
DecodingPiece (StartTag tag) = DecodingTag tag
