-- Scripts' bytes lie within their page.
use Rattle.std.proofs.Common.{◌≡◌, ℕ, zero, suc, ◌+◌, ◌-◌, ◌≤◌, ◌==◌, Bool, true, false, cond, List, [], ◌∷◌, ◌++◌, length, take, drop, fold, All, IfSome, Option, Some, None, refl, sym, ap, subst, ◌∙◌, arith}
use Rattle.std.proofs.lemmas.Bool.{cond_both}
use Rattle.std.proofs.lemmas.List.{length-drop, length-take}
use Rattle.std.proofs.lemmas.List.Elements.{All-nil, All-cons, All-append}
use Rattle.html_profile.specs.Marks.{before, from, place, begins}
use Rattle.html_profile.specs.Attributes.{behind_quote, quoted, given, behind_name, value_at, named, name_len, attribute_at, closing, IsAttributes}
use Rattle.html_profile.specs.Names.{is_run}
use Rattle.html_profile.specs.FirstPlace.{mark_len}
use Rattle.html_profile.specs.Pieces.{kind_of, raw_of, source, behind_content, tag_of, IsTag, tag_name, IsStartTag, end_name, end_tag, IsPieceOf, Reads}
use Rattle.html_profile.specs.Tree.{State, settled, closed, with_closed, script_of, step, beginning}
use Rattle.html_profile.specs.ScriptPlaces.{LieWithin}
use Rattle.html_profile.specs.Page.{Page, IsTree, IsPage, IsWholePage, without_prelude}
use Rattle.html_profile.specs.declared.mark.Raw.{Raw}
use Rattle.html_profile.specs.declared.mark.Mark.{Mark}
use Rattle.html_profile.specs.declared.mark.Mark.TheVariants.{CommentEnd, TagEnd, Markup, NameEnd, ValueEnd, Quote, RawEnd, Ink, Solid}
use Rattle.html_profile.specs.declared.tag.Attribute.{Attribute}
use Rattle.html_profile.specs.declared.piece.Kind.{Kind}
use Rattle.html_profile.specs.declared.piece.Kind.TheVariants.{Comment, Other, Ending, Starting, Words}
use Rattle.html_profile.specs.declared.piece.Tag.{Tag}
use Rattle.html_profile.specs.declared.piece.Piece.{Piece}
use Rattle.html_profile.specs.declared.piece.Piece.TheVariants.{Dropped, Text, EndTag, StartTag}
use Rattle.html_profile.specs.declared.document.ScriptAt.{ScriptAt}
use Rattle.html_profile.specs.declared.tree.Open.{Open}

drop_short : (n : ℕ) (text : List ℕ) → length (drop n text) ≤ length text
drop_short n text = omega (arith, length-drop n text)

take_short : (n : ℕ) (text : List ℕ) → length (take n text) ≤ length text
take_short n text = omega (arith, length-take n text)

-- no longer than a text
abbrev Short : List ℕ → List ℕ × List ℕ → Type 0
Short text found = length found.1 ≤ length text

quote_short : (value text : List ℕ) → IfSome (behind_quote value text) (Short text)
quote_short value [] = tt
quote_short value (c ∷ rest) = omega arith

weaker : (short text : List ℕ) (o : Option (List ℕ × List ℕ)) → length short ≤ length text → IfSome o (Short short) → IfSome o (Short text)
weaker short text None less is = tt
weaker short text (Some found) less is = omega (arith, is)

quoted_short : (quote c : ℕ) (rest : List ℕ) → IfSome (quoted quote rest) (Short (c ∷ rest))
quoted_short quote c rest =
    weaker (from (Quote quote) rest) (c ∷ rest) (quoted quote rest) (let e = drop_short (place (Quote quote) rest) rest in omega arith)
    (quote_short (before (Quote quote) rest) (from (Quote quote) rest))

given_short : (text : List ℕ) → IfSome (given text) (Short text)
given_short [] = omega arith
given_short (c ∷ rest) =
    cond_both (c == 34) _ _ (λ o. IfSome o (Short (c ∷ rest))) (λ _. quoted_short 34 c rest)
    (λ _. cond_both (c == 39) _ _ (λ o. IfSome o (Short (c ∷ rest))) (λ _. quoted_short 39 c rest) (λ _. drop_short (place ValueEnd (c ∷ rest)) (c ∷ rest)))

name_short : (text rest : List ℕ) → length rest ≤ length text → IfSome (behind_name text rest) (Short text)
name_short text [] less = omega arith
name_short text (c ∷ rest) less =
    cond_both (c == 61) _ _ (λ o. IfSome o (Short text))
    (λ _. weaker (from Ink rest) text (given (from Ink rest)) (let e = drop_short (place Ink rest) rest in omega arith) (given_short (from Ink rest)))
    (λ _. let same : length text ≤ length text = omega arith in same)

abbrev ShortBehind : List ℕ → Attribute × List ℕ → Type 0
ShortBehind text found = length found.1 ≤ length text

named_short : (name : List ℕ) (left : ℕ) (text : List ℕ) (o : Option (List ℕ × List ℕ)) → IfSome o (Short text) → IfSome (named name left o) (ShortBehind text)
named_short name left text None is = tt
named_short name left text (Some found) is = is

attribute_short : (text : List ℕ) → IfSome (attribute_at text) (ShortBehind text)
attribute_short text =
    let behind = drop (name_len text) text in
    cond_both (begins _ text) _ _ (λ o. IfSome o (ShortBehind text))
    (λ _. named_short (take (name_len text) text) (length text) text (value_at behind)
    (weaker behind text (value_at behind) (drop_short (name_len text) text) (name_short behind (from Ink behind) (drop_short (place Ink behind) behind))))
    (λ _. tt)

closing_short : (text : List ℕ) → IfSome (closing text) (λ rest. length rest ≤ length text)
closing_short [] = tt
closing_short (c ∷ rest) = cond_both (c == 62) (Some rest) None (λ o. IfSome o (λ r. length r ≤ length (c ∷ rest))) (λ _. let less : length rest ≤ length (c ∷ rest) = omega arith in less) (λ _. tt)

lower_end : (short text : List ℕ) (o : Option (List ℕ)) → length short ≤ length text → IfSome o (λ r. length r ≤ length short) → IfSome o (λ r. length r ≤ length text)
lower_end short text None less is = tt
lower_end short text (Some r) less is = omega (arith, is)

attributes_short : (text : List ℕ) (attributes : List Attribute) (end : Option (List ℕ)) → IsAttributes text attributes end → IfSome end (λ rest. length rest ≤ length text)
attributes_short text [] end is =
    subst (λ o. IfSome o (λ rest. length rest ≤ length text)) (sym is.1) (lower_end (from Solid text) text (closing (from Solid text)) (drop_short (place Solid text) text) (closing_short (from Solid text)))
attributes_short text (a ∷ more) end is =
    let found : length is.0 ≤ length (from Solid text) = subst (λ o. IfSome o (ShortBehind (from Solid text))) is.1 (attribute_short (from Solid text)) in
    lower_end is.0 text end (let e = drop_short (place Solid text) text in omega arith) (attributes_short is.0 more end is.2)

-- a start tag's source lies behind it in a text of at most this length
abbrev FitsIn : ℕ → Piece → Type 0
FitsIn total Dropped = Unit {0}
FitsIn total (Text words) = Unit {0}
FitsIn total (EndTag name) = Unit {0}
FitsIn total (StartTag tag) = (length tag.source ≤ tag.left) × (tag.left ≤ total)

source_short : (raw : Option Raw) (rest : List ℕ) → length (source raw rest) ≤ length rest
source_short None rest = omega arith
source_short (Some raw) rest = take_short (place (RawEnd raw) rest) rest

content_short : (raw : Option Raw) (rest : List ℕ) → length (behind_content raw rest) ≤ length rest
content_short None rest = omega arith
content_short (Some raw) rest = drop_short (place (RawEnd raw) rest) rest

abbrev Fitting : List ℕ → Piece → List ℕ → Type 0
Fitting text piece behind = FitsIn (length text) piece × (length behind ≤ length text)

tag_fits : (text name : List ℕ) (attributes : List Attribute) (end : Option (List ℕ)) (piece : Piece) (behind : List ℕ) → IfSome end (λ rest. length rest ≤ length text) → IsTag name attributes end piece behind → Fitting text piece behind
tag_fits text name attributes None piece behind less is =
    (subst (FitsIn (length text)) (sym is.0) tt, subst (λ l. length l ≤ length text) (sym is.1) (omega arith))
tag_fits text name attributes (Some rest) piece behind less is = (
  subst (FitsIn (length text)) (sym is.0) (source_short (raw_of name) rest, less),
  subst (λ l. length l ≤ length text) (sym is.1) (let e = content_short (raw_of name) rest in omega (arith, less)),
)

piece_fits : (kind : Kind) (text : List ℕ) (piece : Piece) (behind : List ℕ) → IsPieceOf kind text piece behind → Fitting text piece behind
piece_fits Comment text piece behind is = (
  subst (FitsIn (length text)) (sym is.0) tt,
  subst (λ l. length l ≤ length text) (sym is.1)
      (let a = drop_short 4 text in let b = drop_short (place CommentEnd (drop 4 text)) (drop 4 text) in let c = drop_short 3 (from CommentEnd (drop 4 text)) in omega arith),
)
piece_fits Other text piece behind is = (
  subst (FitsIn (length text)) (sym is.0) tt,
  subst (λ l. length l ≤ length text) (sym is.1) (let a = drop_short (place TagEnd text) text in let b = drop_short 1 (from TagEnd text) in omega arith),
)
piece_fits Ending text piece behind is = (
  subst (FitsIn (length text)) (sym is.0) (cond_both _ (EndTag (end_name text)) Dropped (FitsIn (length text)) (λ _. tt) (λ _. tt)),
  subst (λ l. length l ≤ length text) (sym is.1) (let a = drop_short (place TagEnd text) text in let b = drop_short 1 (from TagEnd text) in omega arith),
)
piece_fits Starting text piece behind is =
    let front = drop 1 text in
    tag_fits text (tag_name text) is.attributes is.rest piece behind
    (lower_end (from NameEnd front) text is.rest (let a = drop_short 1 text in let b = drop_short (place NameEnd front) front in omega arith)
    (attributes_short (from NameEnd front) is.attributes is.rest is.all))
    is.tag
piece_fits Words text piece behind is = (subst (FitsIn (length text)) (sym is.0) tt, subst (λ l. length l ≤ length text) (sym is.1) (drop_short (place Markup text) text))

-- ---- the scripts of a state

script_lies : (total node : ℕ) (tag : Tag) → length tag.source ≤ tag.left → tag.left ≤ total → LieWithin total (script_of total node tag)
script_lies total node tag short less =
    let P : ScriptAt → Type 0 = λ s. s.at + length s.source ≤ total in
    cond_both (is_run tag.name tag.attributes) _ _ (All P) (λ _. All-cons P _ [] (omega arith) (All-nil P)) (λ _. All-nil P)

closed_lies : (total : ℕ) (s : State) (found : Option (List Open)) → LieWithin total s.scripts → LieWithin total (with_closed s found).scripts
closed_lies total s None lie = lie
closed_lies total s (Some more) lie = lie

step_lies : (total : ℕ) (s : State) (piece : Piece) → FitsIn total piece → LieWithin total s.scripts → LieWithin total (step total s piece).scripts
step_lies total s Dropped fits lie = lie
step_lies total s (Text words) fits lie = lie
step_lies total s (EndTag name) fits lie = closed_lies total s (closed name s.open_elements) lie
step_lies total s (StartTag tag) fits lie =
    let P : ScriptAt → Type 0 = λ s. s.at + length s.source ≤ total in
    All-append P s.scripts (script_of total (length (settled s).nodes) tag) lie (script_lies total (length (settled s).nodes) tag fits.0 fits.1)

fits_more : (short total : ℕ) (piece : Piece) → short ≤ total → FitsIn short piece → FitsIn total piece
fits_more short total Dropped less fits = tt
fits_more short total (Text words) less fits = tt
fits_more short total (EndTag name) less fits = tt
fits_more short total (StartTag tag) less fits = let low : tag.left ≤ short = fits.1 in (fits.0, omega arith)

steps_lie : (total : ℕ) (text : List ℕ) (pieces : List Piece) (s : State) → length text ≤ total → Reads text pieces [] → LieWithin total s.scripts → LieWithin total (fold (step total) s pieces).scripts
steps_lie total text [] s less reads lie = lie
steps_lie total text (piece ∷ pieces) s less reads lie =
    let fits = piece_fits (kind_of text) text piece reads.0 reads.2 in
    let shorter : length reads.0 ≤ length text = fits.1 in
    steps_lie total reads.0 pieces (step total s piece) (omega arith) reads.3 (step_lies total s piece (fits_more (length text) total piece less fits.0) lie)

tree_lies : (total : ℕ) (text : List ℕ) (s : State) → length text ≤ total → IsTree total text s → LieWithin total s.scripts
tree_lies total text s less tree =
    let P : ScriptAt → Type 0 = λ s. s.at + length s.source ≤ total in
    subst (λ (t : State). LieWithin total t.scripts) (sym tree.2) (steps_lie total text tree.0 beginning less tree.1 (All-nil P))

pub page_lies : (q : List ℕ) (page : Page) → IsPage q page → LieWithin (length (without_prelude q)) page.scripts
page_lies q page is =
    subst (λ (p : Page). LieWithin (length (without_prelude q)) p.scripts) (sym is.2)
    (tree_lies (length (without_prelude q)) (drop (mark_len q) (without_prelude q)) is.0 (drop_short (mark_len q) (without_prelude q)) is.1)

pub whole_lies : (q : List ℕ) (page : Page) → IsWholePage q page → LieWithin (length q) page.scripts
whole_lies q page is = subst (λ (p : Page). LieWithin (length q) p.scripts) (sym is.2) (tree_lies (length q) (drop (mark_len q) q) is.0 (drop_short (mark_len q) q) is.1)
