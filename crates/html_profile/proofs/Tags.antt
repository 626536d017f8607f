-- The attributes of a tag, one after another.
use Rattle.std.proofs.Common.{◌≡◌, ℕ, ◌-◌, List, [], ◌++◌, length, take, drop, Option, Some, None, sym, ap, subst, ◌∙◌, append-nil}
use Rattle.std.proofs.lemmas.List.{take_rest}
use Rattle.html_profile.specs.Marks.{lower, before, from}
use Rattle.html_profile.specs.Attributes.{attribute_at, closing, IsAttributes}
use Rattle.html_profile.specs.declared.tag.Attribute.{Attribute}
use Rattle.html_profile.specs.declared.mark.Mark.TheVariants.{NameEnd, Solid}
use Rattle.html_profile.specs.declared.piece.Piece.TheVariants.{StartTag}
use Rattle.html_profile.specs.Pieces.{tag_name, tag_of, raw_of, source, read_source, behind_content, IsStartTag}

-- where no attribute follows, those that were found are all
pub attributes_end : (text rest at : List ℕ) (found : List Attribute) (end : Option (List ℕ))
    → ((more : List Attribute) (e : Option (List ℕ)) → IsAttributes rest more e → IsAttributes text (found ++ more) e)
    → at ≡ from Solid rest → attribute_at at ≡ None → end ≡ closing at → IsAttributes text found end
attributes_end text rest at found end on at_is none closes =
    let here : attribute_at (from Solid rest) ≡ None = ap attribute_at (sym at_is) ∙ none in
    let behind : end ≡ closing (from Solid rest) = closes ∙ ap closing at_is in
    subst (λ l. IsAttributes text l end) (append-nil found) (on [] end (here, behind))

-- a start tag whose parts were found
pub start_tag_is : (text behind_name name words raw behind rest : List ℕ) (attributes : List Attribute)
    → IsAttributes behind_name attributes (Some rest) → behind_name ≡ from NameEnd (take (length text - 1) (drop 1 text)) → name ≡ lower (before NameEnd (take (length text - 1) (drop 1 text)))
    → raw ≡ source (raw_of name) rest → words ≡ read_source (raw_of name) raw → behind ≡ behind_content (raw_of name) rest
    → IsStartTag text (StartTag (record { name = name; attributes = attributes; source = raw; text = words; left = length rest })) behind
start_tag_is text behind_name name words raw behind rest attributes all from_is name_is raw_is words_are behind_is =
    let name_here : name ≡ tag_name text = name_is ∙ ap (λ l. lower (before NameEnd l)) (take_rest text 1) in
    let whole : StartTag (record { name = name; attributes = attributes; source = raw; text = words; left = length rest }) ≡ StartTag (tag_of name attributes rest) =
    (λ i. StartTag (record { name = name; attributes = attributes; source = raw_is i; text = (words_are ∙ ap (read_source (raw_of name)) raw_is) i; left = length rest })) in
    record {
      attributes = attributes;
      rest = Some rest;
      all = subst (λ l. IsAttributes l attributes (Some rest)) (from_is ∙ ap (from NameEnd) (take_rest text 1)) all;
      tag = (whole ∙ ap (λ n. StartTag (tag_of n attributes rest)) name_here, behind_is ∙ ap (λ n. behind_content (raw_of n) rest) name_here);
    }
