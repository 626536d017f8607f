-- Lists and pairs of what was read.
use Rattle.std.specs.Prelude.{◌≡◌, ℕ, true, List, [], ◌∷◌, Option, Some}
use Rattle.js_tree.specs.declared.node.NodeId.{NodeId}
use Rattle.js_tree.specs.declared.script.Kept.{Kept}
use Rattle.js_tree.specs.Trees.{Tree, Nil, Cons}
use Rattle.js_grammar.specs.Derivations.{behind}
use Rattle.js_grammar.specs.inner.Sorts.{Sort, is_of, added, paired}
use Rattle.js_pieces.specs.declared.pieces.Piece.{Piece}
use Rattle.js_pieces.specs.declared.pieces.Piece.TheVariants as piece
use Rattle.js_pieces.specs.Pieces.{HoldsPiece, sort_of}

-- the last piece may have one of this sort behind it
abbrev pub MayAdd : Sort → List Piece → Type 0
MayAdd d [] = ⊥
MayAdd d (l ∷ ls) = (c : Sort) × (added (sort_of l) d ≡ Some c)

-- a piece is what is made of the trees of two others
abbrev pub IsOfBoth : Piece → Piece → Piece → (Tree → Tree → Tree) → Type 0
IsOfBoth l q m make = (bodies : ℕ → Tree) (kept : List Kept) (t u : Tree) →
    HoldsPiece bodies kept l t → HoldsPiece bodies kept q u → HoldsPiece bodies kept m (make t u)

-- a list is another with an item behind it
pub record IsBehind (l q m : Piece) : Type 0 where
  pub trees : IsOfBoth l q m behind
  pub sort : (c : Sort) → added (sort_of l) (sort_of q) ≡ Some c → is_of (sort_of m) c ≡ true

-- the last piece has become one with this item behind it
abbrev pub Adds : Piece → List Piece → List Piece → Type 0
Adds q old new = (l : Piece) × (m : Piece) × (rest : List Piece) ×
    (old ≡ l ∷ rest) × (new ≡ m ∷ rest) × IsBehind l q m

-- the last piece may be the first of a pair with one of this sort
abbrev pub MayPair : Sort → List Piece → Type 0
MayPair d [] = ⊥
MayPair d (l ∷ ls) = (c : Sort) × (paired (sort_of l) d ≡ Some c)

-- a piece is the pair of two others
pub record IsPair (l q m : Piece) : Type 0 where
  pub trees : IsOfBoth l q m (λ t u. Cons t (Cons u Nil))
  pub sort : (c : Sort) → paired (sort_of l) (sort_of q) ≡ Some c → is_of (sort_of m) c ≡ true

-- the last piece has become a pair with this one
abbrev pub Pairs : Piece → List Piece → List Piece → Type 0
Pairs q old new = (l : Piece) × (m : Piece) × (rest : List Piece) ×
    (old ≡ l ∷ rest) × (new ≡ m ∷ rest) × IsPair l q m

-- the last piece was a name, and has become one with this value
abbrev pub Names : Option NodeId → List Piece → List Piece → Type 0
Names value old new =
    (name : List ℕ) × (rest : List Piece) × (old ≡ piece.Text name ∷ rest) ×
    (new ≡ piece.Named (record { name = name; value = value }) ∷ rest)
