-- What was read and isn't part of a node yet: which trees it is, and of which sort.
use Rattle.std.specs.Prelude.{◌≡◌, ℕ, true, List, [], ◌∷◌, Option, Some, None}
use Rattle.js_tree.specs.declared.node.NodeId.{NodeId}
use Rattle.js_tree.specs.declared.node.Declarator.{Declarator}
use Rattle.js_tree.specs.declared.production.Production.TheVariants as p
use Rattle.js_tree.specs.declared.script.Kept.{Kept}
use Rattle.js_tree.specs.Trees.{Tree, Made, Nil, Cons, Part, Holds}
use Rattle.js_tree.specs.Trees.{at, perhaps, nodes, elements, words, declarators, cases, two}
use Rattle.js_grammar.specs.declared.sight.Sight.{Sight}
use Rattle.js_grammar.specs.declared.symbol.Build.{Build}
use Rattle.js_grammar.specs.Derivations.{built}
use Rattle.js_grammar.specs.inner.Sorts.{Sort, is_of, are_of, made, without}
use Rattle.js_grammar.specs.inner.Sorts as sort
use Rattle.js_pieces.specs.declared.pieces.Piece.{Piece}
use Rattle.js_pieces.specs.declared.pieces.Piece.TheVariants as piece

-- The arena holds a piece as this tree, where the bodies of functions are these trees. A function's
-- body and a whole text have no node yet.
abbrev pub HoldsPiece : (ℕ → Tree) → List Kept → Piece → Tree → Type 0
HoldsPiece bodies kept (piece.Node id) t = Holds bodies kept (at id) t
HoldsPiece bodies kept (piece.Text u) t = Holds bodies kept (Part.Word u) t
HoldsPiece bodies kept piece.Missing t = Holds bodies kept Part.Missing t
HoldsPiece bodies kept piece.Empty t = Holds bodies kept Part.Nil t
HoldsPiece bodies kept (piece.Nodes ids) t = Holds bodies kept (nodes ids) t
HoldsPiece bodies kept (piece.Elements ids) t = Holds bodies kept (elements ids) t
HoldsPiece bodies kept (piece.Words us) t = Holds bodies kept (words us) t
HoldsPiece bodies kept (piece.Named d) t =
    Holds bodies kept (two (Part.Word d.name) (perhaps d.value)) t
HoldsPiece bodies kept (piece.AllNamed ds) t = Holds bodies kept (declarators ds) t
HoldsPiece bodies kept (piece.Case c) t =
    Holds bodies kept (two (perhaps c.test) (nodes c.statements)) t
HoldsPiece bodies kept (piece.Cases cs) t = Holds bodies kept (cases cs) t
HoldsPiece bodies kept (piece.Catch c) t =
    Holds bodies kept (two (Part.Word c.name) (nodes c.statements)) t
HoldsPiece bodies kept (piece.Body b) t =
    (ts : Tree) × (t ≡ Made p.Body b.from b.to (Cons ts Nil)) ×
    Holds bodies kept (nodes b.statements) ts
HoldsPiece bodies kept (piece.Whole w) t =
    (ts : Tree) × (t ≡ Made w.production w.from w.to (Cons ts Nil)) ×
    Holds bodies kept (nodes w.statements) ts

-- the pieces, with the last one first, are these trees
abbrev pub HoldsPieces : (ℕ → Tree) → List Kept → List Piece → List Tree → Type 0
HoldsPieces bodies kept [] [] = Unit {0}
HoldsPieces bodies kept (q ∷ qs) (t ∷ ts) =
    HoldsPiece bodies kept q t × HoldsPieces bodies kept qs ts
HoldsPieces bodies kept _ _ = ⊥

-- each name has a value
abbrev pub AreNamed : List Declarator → Type 0
AreNamed [] = Unit {0}
AreNamed (d ∷ ds) = ((id : NodeId) × (d.value ≡ Some id)) × AreNamed ds

-- a name with a value is a property of an object literal too
abbrev pub sort_of_value : Option NodeId → Sort
sort_of_value None = sort.Declarator
sort_of_value (Some _) = sort.Entry

-- so is a list of names whose values are all there
abbrev pub joined : Sort → Sort → Sort
joined sort.Entry sort.Entries = sort.Entries
joined _ _ = sort.Declarators

abbrev pub sort_of_all : List Declarator → Sort
sort_of_all [] = sort.Entries
sort_of_all (d ∷ ds) = joined (sort_of_value d.value) (sort_of_all ds)

-- the sort of a piece
abbrev pub sort_of : Piece → Sort
sort_of (piece.Node _) = sort.Node
sort_of (piece.Text _) = sort.Text
sort_of piece.Missing = sort.Gap
sort_of piece.Empty = sort.Empty
sort_of (piece.Nodes _) = sort.Nodes
sort_of (piece.Elements _) = sort.Elements
sort_of (piece.Words _) = sort.Words
sort_of (piece.Named d) = sort_of_value d.value
sort_of (piece.AllNamed ds) = sort_of_all ds
sort_of (piece.Case _) = sort.Case
sort_of (piece.Cases _) = sort.Cases
sort_of (piece.Catch _) = sort.Catch
sort_of (piece.Body _) = sort.Body
sort_of (piece.Whole _) = sort.Root

abbrev pub sorts : List Piece → List Sort
sorts [] = []
sorts (q ∷ qs) = sort_of q ∷ sorts qs

abbrev pub last : List Piece → Option Piece
last [] = None
last (q ∷ qs) = Some q

-- the last piece is of this sort
abbrev pub LastIs : Sort → List Piece → Type 0
LastIs c [] = ⊥
LastIs c (q ∷ qs) = is_of (sort_of q) c ≡ true

-- the last pieces are of these sorts, the last one first
abbrev pub Fits : List Sort → List Piece → Type 0
Fits ds ps = (rest : List Sort) × (without ds (sorts ps) ≡ Some rest)

-- whatever tree the piece is, the part is
abbrev pub IsPart : Piece → Part → Type 0
IsPart q part = (bodies : ℕ → Tree) (kept : List Kept) (t : Tree) →
    HoldsPiece bodies kept q t → Holds bodies kept part t

-- the last piece was taken off, and is this part
abbrev pub Takes : List Piece → List Piece → Part → Type 0
Takes old new part = (q : Piece) × (old ≡ q ∷ new) × IsPart q part

-- so were as many, the last one first
abbrev pub TakesAll : List Piece → List Piece → List Part → Type 0
TakesAll old new [] = old ≡ new
TakesAll old new (part ∷ parts) = (mid : List Piece) × Takes old mid part × TakesAll mid new parts

-- the trees of the pieces become what a making makes of them, and their sorts fit
pub record Becomes (b : Build) (old new : List Piece) : Type 0 where
  pub trees : (bodies : ℕ → Tree) (kept : List Kept) (u : Sight) (vs : List Tree) →
      HoldsPieces bodies kept old vs → HoldsPieces bodies kept new (built b u vs)
  pub sorts : (ds : List Sort) → made b (sorts old) ≡ Some ds → are_of (sorts new) ds ≡ true
