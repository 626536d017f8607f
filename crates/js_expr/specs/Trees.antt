-- What a reading has made, and what a making makes of it.
use Rattle.std.specs.Prelude.{◌≡◌, ℕ, ◌-◌, true, List, [], ◌∷◌, Some, None, length, slice_get}
use Rattle.js_tokens.specs.declared.token.Token.{Token}
use Rattle.js_tree.specs.declared.node.NodeId.{NodeId}
use Rattle.js_tree.specs.declared.node.Node.{Node}
use Rattle.js_tree.specs.declared.node.Node.TheVariants as node
use Rattle.js_tree.specs.declared.production.Production.{Production}
use Rattle.js_tree.specs.declared.script.Kept.{Kept}
use Rattle.js_tree.specs.declared.script.Pending.{Pending}
use Rattle.js_tree.specs.Trees.{Tree, Holds, nodes, parts}
use Rattle.js_tree.specs.Names.{call_scope}
use Rattle.js_tree.specs.Arena.{Arena, Filled, IsWithin, node_at}
use Rattle.js_tree.specs.TreeAt.{body_at, root_tree}
use Rattle.js_tree.specs.Runs.{HasScope, RootHasScope}
use Rattle.js_grammar.specs.declared.symbol.Build.{Build}
use Rattle.js_grammar.specs.declared.symbol.Build.TheVariants as build
use Rattle.js_grammar.specs.Derivations.{built}
use Rattle.js_grammar.specs.inner.Sorts.{Sort, are_of, made, parts_of, sort_of}
use Rattle.js_grammar.specs.inner.Sorts as sorted
use Rattle.js_pieces.specs.declared.pieces.Piece.{Piece}
use Rattle.js_pieces.specs.declared.pieces.Piece.TheVariants as piece
use Rattle.js_pieces.specs.declared.pieces.WholeText.{WholeText}
use Rattle.js_pieces.specs.Pieces.{HoldsPieces, sorts}
use Rattle.js_pieces.specs.Functions.{LastIsText}
use Rattle.js_productions.specs.declared.seeing.Glance.{Glance}
use Rattle.js_productions.specs.Glances.{sight_of}
use Rattle.js_expr.specs.declared.trees.Trees.{Trees}

-- the node of a function's body carries the scope of its own statements
abbrev pub CarriesScope : (ℕ → Tree) → List Kept → Node → Node → Type 0
CarriesScope bodies kept (node.Function h _) (node.Body ss scope) =
    (t : Tree) × Holds bodies kept (nodes ss) t ×
    (scope.value ≡ call_scope h.value.parameters h.value.name t)
CarriesScope bodies kept (node.Declaration h _) (node.Body ss scope) =
    (t : Tree) × Holds bodies kept (nodes ss) t ×
    (scope.value ≡ call_scope h.value.parameters None t)
CarriesScope bodies kept _ _ = ⊥

-- the function of a body and the node that the body was read as
pub record IsFunction (arena : Arena) (bodies : ℕ → Tree) (p : Pending) (id : NodeId) : Type 0 where
  pub function : Node
  pub body : Node
  pub function_there : node_at arena p.node ≡ Some function
  pub body_there : node_at arena id ≡ Some body
  pub scope : CarriesScope bodies arena.kept function body

-- An arena whose nodes name only nodes before them. Each body is read, as one of these trees, and
-- its node carries its scope.
pub record IsRead (arena : Arena) (bodies : ℕ → Tree) : Type 0 where
  pub as_many : length arena.filled ≡ length arena.pending
  pub names : (i : ℕ) (k : Kept) → slice_get arena.kept i ≡ Some k →
      IsWithin i (length arena.pending) (parts k.node)
  pub filled : Filled arena bodies
  pub functions : (k : ℕ) (p : Pending) (id : NodeId) → slice_get arena.pending k ≡ Some p →
      slice_get arena.filled k ≡ Some (Some id) → IsFunction arena bodies p id

-- a reading has made these trees, with the last one first
pub record HoldsTrees (trees : Trees) (vs : List Tree) : Type 0 where
  pub bodies : ℕ → Tree
  pub read : IsRead trees.script bodies
  pub holds : HoldsPieces bodies trees.script.kept trees.pieces vs

-- a making fits what was read
pub record MayBuild (b : Build) (trees : Trees) : Type 0 where
  pub some : List Tree
  pub holds : HoldsTrees trees some
  pub sorts_behind : List Sort
  pub fits : made b (sorts trees.pieces) ≡ Some sorts_behind

-- a production of a whole text: it has statements alone, and is no part of another
abbrev pub IsTextOf : Production → Type 0
IsTextOf q = (parts_of q ≡ sorted.Nodes ∷ []) × (sort_of q ≡ sorted.Root)

-- the last piece is a whole text of this production
abbrev pub LastIsOf : Production → List Piece → Type 0
LastIsOf q ps =
    (w : WholeText) × (rest : List Piece) × (ps ≡ piece.Whole w ∷ rest) × (w.production ≡ q)

-- the trees become what a making makes of them, and their sorts fit
pub record Builds (b : Build) (glance : Glance) (old new : Trees) : Type 0 where
  pub trees : (ts : List Token) (vs : List Tree) → HoldsTrees old vs →
      HoldsTrees new (built b (sight_of glance ts) vs)
  pub sorts : (ds : List Sort) → made b (sorts old.pieces) ≡ Some ds →
      are_of (sorts new.pieces) ds ≡ true
  pub whole : (q : Production) → b ≡ build.Root q → LastIsOf q new.pieces

-- what was read is a whole text
abbrev pub MayFinish : Trees → Type 0
MayFinish trees = LastIsText trees.pieces × ((t : Tree) × HoldsTrees trees (t ∷ []))

-- The arena holds the text as this tree at its last node. Each body is read, and the text and every
-- function carry the scope of their own statements.
pub record IsText (arena : Arena) (t : Tree) : Type 0 where
  pub tree : root_tree arena ≡ t
  pub filled : Filled arena (body_at arena)
  pub root : RootHasScope arena (node_at arena (record { number = length arena.kept - 1 }))
  pub functions : (k : ℕ) (p : Pending) (id : NodeId) → slice_get arena.pending k ≡ Some p →
      slice_get arena.filled k ≡ Some (Some id) →
      HasScope arena (node_at arena p.node) (node_at arena id)
