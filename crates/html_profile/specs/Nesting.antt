-- Which nodes a page's pieces are: each node has pieces of its own, and each end tag the element
-- that it closes (HTML Standard, 13.2.6, in the profile of `Tree.antt`).
use Rattle.std.specs.Prelude.{◌≡◌, ◌≢◌, ℕ, ◌+◌, true, false, List, [], ◌∷◌, ◌++◌, length, All, Option, Some, None}
use Rattle.std.specs.List.{flat_map, list_any}
use Rattle.std.specs.Str.{bytes_eq}
use Rattle.html_profile.specs.Names.{is_void}
use Rattle.html_profile.specs.Pieces.{ArePieces}
use Rattle.html_profile.specs.Tree.{with_text, element_of}
use Rattle.html_profile.specs.declared.piece.Tag.{Tag}
use Rattle.html_profile.specs.declared.piece.Piece.{Piece}
use Rattle.html_profile.specs.declared.piece.Piece.TheVariants.{Dropped, Text, EndTag, StartTag}
use Rattle.html_profile.specs.declared.document.DocNode.{DocNode}
use Rattle.html_profile.specs.declared.document.Content.TheVariants.{Document as document}

-- the children of a node: words alone; or words, an element with children of its own, and what
-- stands behind it. There may be no words.
pub data Children : Type 0 where
  Words : List ℕ → Children
  Element : List ℕ → Tag → Children → Children → Children

abbrev pub nothing : Children
nothing = Words []

-- the nodes that the children of this parent are, from the number `next` on, each before its own
-- children (DOM Standard, 1.1, "tree order"); where there are no words there is no text
abbrev pub numbered : ℕ → ℕ → Children → List DocNode
numbered parent next (Words words) = with_text [] parent words
numbered parent next (Element words tag own behind) =
    let text = with_text [] parent words in
    let node = next + length text in
    let below = numbered node (node + 1) own in
    text ++ element_of parent tag ∷ (below ++ numbered parent (node + 1 + length below) behind)

-- a piece that begins and ends no element, where elements of these names stand around it: words,
-- what is dropped, and an end tag that names none of them
abbrev pub IsQuiet : List (List ℕ) → Piece → Type 0
IsQuiet around Dropped = Unit {0}
IsQuiet around (Text words) = Unit {0}
IsQuiet around (EndTag name) = list_any (bytes_eq name) around ≡ false
IsQuiet around (StartTag tag) = ⊥

-- the words of such pieces, joined
abbrev pub words_in : Piece → List ℕ
words_in Dropped = []
words_in (Text words) = words
words_in (EndTag name) = []
words_in (StartTag tag) = []

abbrev pub words_of : List Piece → List ℕ
words_of pieces = flat_map words_in pieces

-- These pieces are these children, where elements of these names stand around them. They end at an
-- end tag of the name `end`, or with the page where that is none.
pub data AreChildren : List (List ℕ) → Option (List ℕ) → List Piece → Children → Type 0 where
  -- words alone
  words_alone : {around : List (List ℕ)} {end : Option (List ℕ)} (run : List Piece) →
      All (IsQuiet around) run →
      AreChildren around end run (Words (words_of run))
  -- words, a void element, which is its start tag alone, and what stands behind it
  void_element : {around : List (List ℕ)} {end : Option (List ℕ)} {pieces : List Piece}
      {tag : Tag} {behind : Children} (run : List Piece) →
      All (IsQuiet around) run → is_void tag.name ≡ true →
      AreChildren around end pieces behind →
      AreChildren around end (run ++ StartTag tag ∷ pieces)
      (Element (words_of run) tag nothing behind)
  -- words, an element from its start tag to its end tag, and what stands behind it; its raw text
  -- stands before its other children
  closed_element : {around : List (List ℕ)} {end : Option (List ℕ)} {inner pieces : List Piece}
      {tag : Tag} {own behind : Children} (run : List Piece) →
      All (IsQuiet around) run → is_void tag.name ≡ false →
      AreChildren (tag.name ∷ around) (Some tag.name) (Text tag.text ∷ inner) own →
      AreChildren around end pieces behind →
      AreChildren around end (run ++ StartTag tag ∷ (inner ++ EndTag tag.name ∷ pieces))
      (Element (words_of run) tag own behind)
  -- words, and an element without an end tag: it ends where its parent's children end, and not at
  -- an end tag of its own name
  open_element : {around : List (List ℕ)} {end : Option (List ℕ)} {inner : List Piece}
      {tag : Tag} {own : Children} (run : List Piece) →
      All (IsQuiet around) run → is_void tag.name ≡ false → end ≢ Some tag.name →
      AreChildren (tag.name ∷ around) end (Text tag.text ∷ inner) own →
      AreChildren around end (run ++ StartTag tag ∷ inner) (Element (words_of run) tag own nothing)

-- the nodes are the document, and the children that these pieces are
abbrev pub AreNested : List Piece → List DocNode → Type 0
AreNested pieces nodes =
    (children : Children) × AreChildren [] None pieces children
    × (nodes ≡ record { parent = None; content = document } ∷ numbered 0 1 children)

-- the text is made up of pieces that are these nodes
abbrev pub IsNested : List ℕ → List DocNode → Type 0
IsNested text nodes = (pieces : List Piece) × ArePieces text pieces × AreNested pieces nodes
