-- The pieces of a page that is UTF-8 decode.
use Rattle.std.proofs.Common.{◌≡◌, ◌≢◌, ℕ, zero, suc, ◌<◌, nat_lt, ⊎_elim, true, ◌&&◌, ◌==◌, not, List, [], ◌∷◌, length, take, drop, map, get_or, All, IfSome, Option, Some, None, IsUtf8, IsCharBoundary, codes, refl, sym, ap, subst, ◌∙◌, arith}
use Rattle.std.proofs.lemmas.Bool.{and_parts, cond_both, eqb-true, false≢true}
use Rattle.std.proofs.lemmas.List.{get_or-drop, drop_all}
use Rattle.std.proofs.lemmas.List.Elements.{All-nil, All-cons, All-head, All-tail}
use Rattle.std.proofs.lemmas.Str.{IsUtf8-nil, IsUtf8-take, IsUtf8-drop, IsCharBoundary-end, IsCharBoundary-before_ascii}
use Rattle.std.specs.Char.{is_ascii_alphabetic}
use Rattle.std.specs.List.{list_any}
use Rattle.std.specs.Str.{bytes_eq}
use Rattle.std.specs.List.{flat_map}
use Rattle.std.specs.Borrow.{Bor}
use Rattle.std.specs.Char.Escape.{encode_utf16}
use Rattle.mug_text.specs.Text.{IsText, IsWellFormed, utf8_of}
use Rattle.mug_text.proofs.Texts.{well_formed, bytes_back}
use Rattle.html_profile.specs.Marks.{opens, begins, opens_markup, place, before, from}
use Rattle.html_profile.specs.Names.{value_named, firsts}
use Rattle.html_profile.specs.Attributes.{behind_quote, quoted, given, behind_name, value_at, named, name_len, attribute_at, closing, IsAttributes}
use Rattle.html_profile.specs.Pieces.{markup_kind, kind_of, raw_of, raw_text, source, read_source, behind_content, tag_of, IsTag, tag_name, IsStartTag, end_name, end_tag, IsPieceOf, IsPiece}
use Rattle.html_profile.specs.Decoding.{DecodingAttribute, DecodingTag, DecodingPiece}
use Rattle.html_profile.specs.declared.mark.Raw.{Raw}
use Rattle.html_profile.specs.declared.mark.Raw.TheVariants.{Script, Style, Title, Textarea}
use Rattle.html_profile.specs.declared.mark.Mark.{Mark}
use Rattle.html_profile.specs.declared.mark.Mark.TheVariants.{CommentEnd, TagEnd, Markup, NameEnd, AttributeEnd, ValueEnd, Quote, RawEnd, Ink, Solid}
use Rattle.html_profile.specs.declared.piece.Kind.{Kind}
use Rattle.html_profile.specs.declared.piece.Kind.TheVariants.{Comment, Other, Ending, Starting, Words}
use Rattle.html_profile.specs.declared.tag.Attribute.{Attribute}
use Rattle.html_profile.specs.declared.piece.Piece.{Piece}
use Rattle.html_profile.specs.declared.piece.Piece.TheVariants.{Dropped, EndTag}
use Rattle.html_profile.proofs.Utf8Parts.{BeginsAscii, behind_byte, tail, opens_at, there, stands_low, placed, before_mark, from_mark, from_ink, from_solid, lowered, ended, read}

-- the bytes of a text are UTF-8
pub utf8 : {bytes units : List ℕ} → IsText bytes units → IsUtf8 bytes
utf8 is = (is.points, (is.scalars, sym is.bytes_are))

-- UTF-8 is the bytes of some text
pub some_text : (bytes : List ℕ) → IsUtf8 bytes → ((t : List ℕ) → IsWellFormed t → utf8_of t ≢ bytes) → ⊥
some_text bytes is none =
    let text : IsText bytes (flat_map encode_utf16 is.0) = record { points = is.0; scalars = is.1.0; bytes_are = sym is.1.1; units_are = refl } in
    none (flat_map encode_utf16 is.0) (well_formed text) (bytes_back text)

-- one of the attributes that are pointed at
pub pointed_decodes : (xs : List (Bor Attribute)) (i : ℕ) (x : Bor Attribute) → All DecodingAttribute (map (λ a. a.now) xs) → i < length xs → x ≡ get_or xs i x → DecodingAttribute x.now
pointed_decodes [] i x all inside is = absurd (omega arith)
pointed_decodes (y ∷ xs) zero x all inside is = subst (λ (b : Bor Attribute). DecodingAttribute b.now) (sym is) (All-head DecodingAttribute y.now (map (λ a. a.now) xs) all)
pointed_decodes (y ∷ xs) (suc i) x all inside is = pointed_decodes xs i x (All-tail DecodingAttribute y.now (map (λ a. a.now) xs) all) (omega arith) is

-- two parts that are UTF-8
abbrev Both : List ℕ × List ℕ → Type 0
Both p = IsUtf8 p.0 × IsUtf8 p.1

-- a mark that begins in ASCII, or nothing, stands at the front of what stands from it on
low_at : (mark : Mark) (text : List ℕ) → BeginsAscii mark → get_or (from mark text) 0 0 < 128
low_at mark text ascii =
    ⊎_elim
    (λ end. subst (λ l. get_or l 0 0 < 128) (sym (ap (λ n. drop n text) end ∙ drop_all (length text) text (omega arith))) (omega arith))
    (λ found. stands_low mark (from mark text) ascii found.1)
    (placed mark text)

-- what stands behind the byte at the front of what stands from a mark on
behind_mark : (mark : Mark) (text : List ℕ) → BeginsAscii mark → IsUtf8 text → IsUtf8 (drop 1 (from mark text))
behind_mark mark text ascii is = one (from mark text) (from_mark mark text ascii is) (low_at mark text ascii)
  where
    one : (t : List ℕ) → IsUtf8 t → get_or t 0 0 < 128 → IsUtf8 (drop 1 t)
    one [] t_is low = t_is
    one (c ∷ rest) t_is low = tail c rest t_is low

-- ---- attributes

quote_decodes : (value t : List ℕ) → IsUtf8 value → IsUtf8 t → get_or t 0 0 < 128 → IfSome (behind_quote value t) Both
quote_decodes value [] value_is is low = tt
quote_decodes value (c ∷ rest) value_is is low = (value_is, tail c rest is low)

quoted_decodes : (quote : ℕ) (text : List ℕ) → quote < 128 → IsUtf8 text → IfSome (quoted quote text) Both
quoted_decodes quote text low is =
    quote_decodes (before (Quote quote) text) (from (Quote quote) text) (before_mark (Quote quote) text low is) (from_mark (Quote quote) text low is) (low_at (Quote quote) text low)

given_decodes : (text : List ℕ) → IsUtf8 text → IfSome (given text) Both
given_decodes [] is = (is, is)
given_decodes (c ∷ rest) is =
    let P : Option (List ℕ × List ℕ) → Type 0 = λ o. IfSome o Both in
    cond_both (c == 34) (quoted 34 rest) _ P (λ e. quoted_decodes 34 rest (omega arith) (tail c rest is (omega (arith, eqb-true c 34 e)))) (λ _.
    cond_both (c == 39) (quoted 39 rest) _ P (λ e. quoted_decodes 39 rest (omega arith) (tail c rest is (omega (arith, eqb-true c 39 e)))) (λ _.
    (before_mark ValueEnd (c ∷ rest) tt is, from_mark ValueEnd (c ∷ rest) tt is)))

behind_decodes : (text t : List ℕ) → IsUtf8 text → IsUtf8 t → IfSome (behind_name text t) Both
behind_decodes text [] is t_is = (IsUtf8-nil, is)
behind_decodes text (c ∷ rest) is t_is =
    let P : Option (List ℕ × List ℕ) → Type 0 = λ o. IfSome o Both in
    cond_both (c == 61) (given (from Ink rest)) _ P (λ e. given_decodes (from Ink rest) (from_ink rest (tail c rest t_is (omega (arith, eqb-true c 61 e))))) (λ _. (IsUtf8-nil, is))

value_decodes : (text : List ℕ) → IsUtf8 text → IfSome (value_at text) Both
value_decodes text is = behind_decodes text (from Ink text) is (from_ink text is)

abbrev Found : Attribute × List ℕ → Type 0
Found p = DecodingAttribute p.0 × IsUtf8 p.1

named_decodes : (name : List ℕ) (left : ℕ) (found : Option (List ℕ × List ℕ)) → IsUtf8 name → IfSome found Both → IfSome (named name left found) Found
named_decodes name left None is found_is = tt
named_decodes name left (Some found) is found_is = ((lowered name is, read found.0 found_is.0), found_is.1)

-- a name ends before a byte in ASCII, or at the end
name_cut : (c : ℕ) (rest : List ℕ) → IsCharBoundary (c ∷ rest) (name_len (c ∷ rest))
name_cut c rest =
    let e : name_len (c ∷ rest) ≡ suc (place AttributeEnd rest) = omega arith in
    ⊎_elim
    (λ end. subst (IsCharBoundary (c ∷ rest)) (omega arith) (IsCharBoundary-end (c ∷ rest)))
    (λ found.
    let at : get_or (drop (place AttributeEnd rest) rest) 0 0 ≡ get_or rest (place AttributeEnd rest) 0 = get_or-drop (place AttributeEnd rest) rest 0 0 ∙ ap (λ n. get_or rest n 0) (omega arith) in
    let low : get_or rest (place AttributeEnd rest) 0 < 128 = subst (λ b. b < 128) at (stands_low AttributeEnd (drop (place AttributeEnd rest) rest) tt found.1) in
    let within = found.0 in
    subst (IsCharBoundary (c ∷ rest)) (sym e) (IsCharBoundary-before_ascii (c ∷ rest) (suc (place AttributeEnd rest)) (omega arith) low))
    (placed AttributeEnd rest)

attribute_decodes : (text : List ℕ) → IsUtf8 text → IfSome (attribute_at text) Found
attribute_decodes [] is = tt
attribute_decodes (c ∷ rest) is =
    let n = name_len (c ∷ rest) in
    let cut = name_cut c rest in
    cond_both (not (c == 62)) (named (take n (c ∷ rest)) (length (c ∷ rest)) (value_at (drop n (c ∷ rest)))) None (λ o. IfSome o Found)
    (λ _. named_decodes (take n (c ∷ rest)) (length (c ∷ rest)) (value_at (drop n (c ∷ rest))) (IsUtf8-take (c ∷ rest) n is cut) (value_decodes (drop n (c ∷ rest)) (IsUtf8-drop (c ∷ rest) n is cut)))
    (λ _. tt)

closing_decodes : (text : List ℕ) → IsUtf8 text → IfSome (closing text) IsUtf8
closing_decodes [] is = tt
closing_decodes (c ∷ rest) is = cond_both (c == 62) (Some rest) None (λ o. IfSome o IsUtf8) (λ e. tail c rest is (omega (arith, eqb-true c 62 e))) (λ _. tt)

attributes_decode : (text : List ℕ) (listed : List Attribute) (end : Option (List ℕ)) → IsUtf8 text → IsAttributes text listed end → All DecodingAttribute listed × IfSome end IsUtf8
attributes_decode text [] end is are = (All-nil DecodingAttribute, subst (λ o. IfSome o IsUtf8) (sym are.1) (closing_decodes (from Solid text) (from_solid text is)))
attributes_decode text (a ∷ more) end is are =
    let here : Found (a, are.0) = subst (λ o. IfSome o Found) are.1 (attribute_decodes (from Solid text) (from_solid text is)) in
    let rest = attributes_decode are.0 more end here.1 are.2 in
    (All-cons DecodingAttribute a more here.0 rest.0, rest.1)

-- ---- tags and pieces

raw_decodes : (raw : Raw) (bytes : List ℕ) → IsUtf8 bytes → IsUtf8 (raw_text raw bytes)
raw_decodes Script bytes is = ended bytes is
raw_decodes Style bytes is = ended bytes is
raw_decodes Title bytes is = read bytes is
raw_decodes Textarea bytes is = read bytes is

source_decodes : (raw : Option Raw) (rest : List ℕ) → IsUtf8 rest → IsUtf8 (read_source raw (source raw rest)) × IsUtf8 (behind_content raw rest)
source_decodes None rest is = (IsUtf8-nil, is)
source_decodes (Some raw) rest is = (raw_decodes raw (before (RawEnd raw) rest) (before_mark (RawEnd raw) rest tt is), from_mark (RawEnd raw) rest tt is)

abbrev Decodes : Piece → List ℕ → Type 0
Decodes piece behind = DecodingPiece piece × IsUtf8 behind

tag_decodes : (name : List ℕ) (listed : List Attribute) (rest : Option (List ℕ)) (piece : Piece) (behind : List ℕ) → IsUtf8 name → All DecodingAttribute listed → IfSome rest IsUtf8 → IsTag name listed rest piece behind → Decodes piece behind
tag_decodes name listed None piece behind name_is all rest_is is = (subst DecodingPiece (sym is.0) tt, subst IsUtf8 (sym is.1) IsUtf8-nil)
tag_decodes name listed (Some rest) piece behind name_is all rest_is is =
    let raw = source_decodes (raw_of name) rest rest_is in
    let tag : DecodingTag (tag_of name listed rest) = record { name = name_is; attributes = all; text = raw.0 } in
    (subst DecodingPiece (sym is.0) tag, subst IsUtf8 (sym is.1) raw.1)

start_decodes : (text : List ℕ) (piece : Piece) (behind : List ℕ) → IsUtf8 (drop 1 text) → IsStartTag text piece behind → Decodes piece behind
start_decodes text piece behind is tag =
    let all = attributes_decode (from NameEnd (drop 1 text)) tag.attributes tag.rest (from_mark NameEnd (drop 1 text) tt is) tag.all in
    tag_decodes (tag_name text) tag.attributes tag.rest piece behind (lowered (before NameEnd (drop 1 text)) (before_mark NameEnd (drop 1 text) tt is)) all.0 all.1 tag.tag

end_decodes : (text : List ℕ) → DecodingPiece (end_tag text)
end_decodes text = cond_both (nat_lt (place TagEnd text) (length text)) (EndTag (end_name text)) Dropped DecodingPiece (λ _. tt) (λ _. tt)

comment_behind : (text : List ℕ) → IsUtf8 text → opens text (codes "<!--") ≡ true → IsUtf8 (drop 3 (from CommentEnd (drop 4 text)))
comment_behind text is front =
    let at = opens_at text (codes "<!--") 3 front (omega arith) in
    let inner : IsUtf8 (drop 4 text) = behind_byte text 3 is (there text 3 (omega arith)) (omega arith) in
    ⊎_elim
    (λ end. subst (λ l. IsUtf8 (drop 3 l)) (sym (ap (λ n. drop n (drop 4 text)) end ∙ drop_all (length (drop 4 text)) (drop 4 text) (omega arith))) IsUtf8-nil)
    (λ found.
    let t = from CommentEnd (drop 4 text) in
    let last = opens_at t (codes "-->") 2 found.1 (omega arith) in
    behind_byte t 2 (from_mark CommentEnd (drop 4 text) tt inner) (there t 2 (omega arith)) (omega arith))
    (placed CommentEnd (drop 4 text))

markup_first : (text : List ℕ) → opens_markup text ≡ true → IsUtf8 text → IsUtf8 (drop 1 text)
markup_first [] is text_is = absurd (false≢true is)
markup_first (c ∷ rest) is text_is = tail c rest text_is (omega (arith, eqb-true c 60 (and_parts (c == 60) _ is).0))

-- what a kind says of the text
abbrev Front : List ℕ → Kind → Type 0
Front text Comment = opens text (codes "<!--") ≡ true
Front text Other = Unit {0}
Front text Ending = Unit {0}
Front text Starting = opens_markup text ≡ true
Front text Words = Unit {0}

front : (text : List ℕ) → Front text (kind_of text)
front text =
    cond_both (opens_markup text) (markup_kind text) Words (Front text)
    (λ markup.
    cond_both (opens text (codes "<!--")) Comment _ (Front text) (λ is. is) (λ _.
    cond_both (begins is_ascii_alphabetic (drop 1 text)) Starting _ (Front text) (λ _. markup) (λ _.
    cond_both (opens text (codes "</") && begins is_ascii_alphabetic (drop 2 text)) Ending Other (Front text) (λ _. tt) (λ _. tt))))
    (λ _. tt)

kind_decodes : (kind : Kind) (text : List ℕ) (piece : Piece) (behind : List ℕ) → Front text kind → IsUtf8 text → IsPieceOf kind text piece behind → Decodes piece behind
kind_decodes Comment text piece behind has is found = (subst DecodingPiece (sym found.0) tt, subst IsUtf8 (sym found.1) (comment_behind text is has))
kind_decodes Other text piece behind has is found = (subst DecodingPiece (sym found.0) tt, subst IsUtf8 (sym found.1) (behind_mark TagEnd text tt is))
kind_decodes Ending text piece behind has is found = (subst DecodingPiece (sym found.0) (end_decodes text), subst IsUtf8 (sym found.1) (behind_mark TagEnd text tt is))
kind_decodes Starting text piece behind has is found = start_decodes text piece behind (markup_first text has is) found
kind_decodes Words text piece behind has is found =
    (subst DecodingPiece (sym found.0) (read (before Markup text) (before_mark Markup text tt is)), subst IsUtf8 (sym found.1) (from_mark Markup text tt is))

pub piece_decodes : (text : List ℕ) (piece : Piece) (behind : List ℕ) → IsUtf8 text → IsPiece text piece behind → DecodingPiece piece × IsUtf8 behind
piece_decodes text piece behind is found = kind_decodes (kind_of text) text piece behind (front text) is found

-- ---- what is made of them

pub firsts_decode : (names : List (List ℕ)) (listed : List Attribute) → All DecodingAttribute listed → All DecodingAttribute (firsts names listed)
firsts_decode names [] all = all
firsts_decode names (a ∷ listed) all =
    let rest = firsts_decode (a.name ∷ names) listed (All-tail DecodingAttribute a listed all) in
    cond_both (list_any (bytes_eq a.name) names) (firsts (a.name ∷ names) listed) (a ∷ firsts (a.name ∷ names) listed) (All DecodingAttribute)
    (λ _. rest) (λ _. All-cons DecodingAttribute a (firsts (a.name ∷ names) listed) (All-head DecodingAttribute a listed all) rest)

pub value_named_decodes : (name : List ℕ) (listed : List Attribute) → All DecodingAttribute listed → IfSome (value_named name listed) IsUtf8
value_named_decodes name [] all = tt
value_named_decodes name (a ∷ listed) all =
    cond_both (bytes_eq a.name name) (Some a.value) (value_named name listed) (λ o. IfSome o IsUtf8) (λ _. (All-head DecodingAttribute a listed all).1) (λ _. value_named_decodes name listed (All-tail DecodingAttribute a listed all))
