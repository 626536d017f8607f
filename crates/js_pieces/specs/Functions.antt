-- Functions and whole texts, made of what was read last (ECMA-262 edition 5.1, clauses 13 and 14).
use Rattle.std.specs.Prelude.{◌≡◌, ℕ, ◌+◌, List, [], ◌∷◌, Option, None, length, codes}
use Rattle.std.specs.Global.{Box}
use Rattle.js_tree.specs.declared.node.NodeId.{NodeId}
use Rattle.js_tree.specs.declared.node.Scope.{Scope}
use Rattle.js_tree.specs.declared.node.Node.{Node}
use Rattle.js_tree.specs.declared.node.Node.TheVariants as node
use Rattle.js_tree.specs.declared.production.Production.{Production}
use Rattle.js_tree.specs.declared.production.Production.TheVariants as production
use Rattle.js_tree.specs.declared.script.Braces.{Braces}
use Rattle.js_tree.specs.declared.script.FunctionHead.{FunctionHead}
use Rattle.js_tree.specs.declared.script.FunctionHead.TheVariants as head
use Rattle.js_tree.specs.declared.script.Kept.{Kept}
use Rattle.js_tree.specs.Trees.{Tree, Part, Holds, nodes, words, named}
use Rattle.js_tree.specs.Names.{call_scope, program_scope}
use Rattle.js_tree.specs.Arena.{Arena, IsWithin, with_node, with_function, with_body}
use Rattle.js_grammar.specs.declared.symbol.Start.{Start}
use Rattle.js_grammar.specs.declared.symbol.Start.TheVariants as start
use Rattle.js_pieces.specs.declared.pieces.Piece.{Piece}
use Rattle.js_pieces.specs.declared.pieces.Piece.TheVariants as piece
use Rattle.js_pieces.specs.declared.pieces.ReadBody.{ReadBody}
use Rattle.js_pieces.specs.declared.pieces.WholeText.{WholeText}
use Rattle.js_pieces.specs.Pieces.{Takes, TakesAll}

-- the arena has these nodes
abbrev pub HasNodes : Arena → List NodeId → Type 0
HasNodes arena ids = IsWithin (length arena.kept) (length arena.pending) (nodes ids)

-- the arena has the statements of the last piece, where that is a body or a whole text
abbrev pub HasStatements : Arena → List Piece → Type 0
HasStatements arena (piece.Body b ∷ _) = HasNodes arena b.statements
HasStatements arena (piece.Whole w ∷ _) = HasNodes arena w.statements
HasStatements arena _ = Unit {0}

-- the last piece was a list of statements, and has become a body
abbrev pub Encloses : ℕ → ℕ → Braces → List Piece → List Piece → Type 0
Encloses from to braces old new =
    (ss : List NodeId) × (rest : List Piece) × Takes old rest (nodes ss) ×
    (new ≡ piece.Body (record { statements = ss; from = from; to = to; braces = braces }) ∷ rest)

-- the last piece was a list of statements, and has become a whole text
abbrev pub Finishes : Production → ℕ → ℕ → List Piece → List Piece → Type 0
Finishes q from to old new =
    (ss : List NodeId) × (rest : List Piece) × Takes old rest (nodes ss) ×
    (new ≡ piece.Whole (record { production = q; statements = ss; from = from; to = to }) ∷ rest)

abbrev pub declared_as : FunctionHead → Production
declared_as (head.Expression _) = production.Function
declared_as (head.Declaration _) = production.Declaration

abbrev pub parameters_of : FunctionHead → List (List ℕ)
parameters_of (head.Expression h) = h.value.parameters
parameters_of (head.Declaration h) = h.value.parameters

-- the name that a function expression has in its own scope
abbrev pub own_name_of : FunctionHead → Option (List ℕ)
own_name_of (head.Expression h) = h.value.name
own_name_of (head.Declaration h) = None

-- what stands before a function's body, the last part first
abbrev pub parts_before : FunctionHead → List Part
parts_before (head.Expression h) = words h.value.parameters ∷ named h.value.name ∷ []
parts_before (head.Declaration h) = words h.value.parameters ∷ Part.Word h.value.name ∷ []

-- the node of a function's body
abbrev pub body_node : ReadBody → Box Scope → Kept
body_node b scope = record { node = node.Body b.statements scope; from = b.from; to = b.to }

-- an arena with one more function, behind the node of its body
abbrev pub declaring : FunctionHead → Box Scope → ReadBody → ℕ → ℕ → Arena → Arena
declaring h scope b from to arena =
    with_body (length arena.pending) (record { number = length arena.kept })
    (with_function h from to b.braces (with_node (body_node b scope) arena))

-- A function is added, of what was read last: its body carries the scope of its own statements.
pub record AddsFunction (q : Production) (from to : ℕ) (old : Arena) (ps : List Piece)
    (id : NodeId) (new : Arena) (rest : List Piece) : Type 0 where
  pub head : FunctionHead
  pub body : ReadBody
  pub scope : Box Scope
  pub mid : List Piece
  pub is : declared_as head ≡ q
  pub body_taken : ps ≡ piece.Body body ∷ mid
  pub taken : TakesAll mid rest (parts_before head)
  pub scoped : (bodies : ℕ → Tree) (t : Tree) → Holds bodies old.kept (nodes body.statements) t →
      scope.value ≡ call_scope (parameters_of head) (own_name_of head) t
  pub added : new ≡ declaring head scope body from to old
  pub number : id.number ≡ length old.kept + 1

abbrev pub whole_of : Start → Production
whole_of start.Program = production.Program
whole_of start.Handler = production.Handler

-- the last piece is a program or a handler
abbrev pub LastIsText : List Piece → Type 0
LastIsText ps = (start : Start) × (w : WholeText) × (rest : List Piece) ×
    (ps ≡ piece.Whole w ∷ rest) × (w.production ≡ whole_of start)

abbrev pub text_node : Start → List NodeId → Box Scope → Node
text_node start.Program ss scope = node.Program ss scope
text_node start.Handler ss scope = node.Handler ss scope

abbrev pub kept_text : Start → WholeText → Box Scope → Kept
kept_text start w scope =
    record { node = text_node start w.statements scope; from = w.from; to = w.to }

-- what a text's own statements declare: a handler is a function of the one parameter `event`
abbrev pub text_scope : Start → Tree → Scope
text_scope start.Program t = program_scope t
text_scope start.Handler t = call_scope (codes "event" ∷ []) None t

-- A text is there as its node, which carries the scope of the text's own statements.
pub record TextAdded (start : Start) (w : WholeText) (old new : Arena) : Type 0 where
  pub scope : Box Scope
  pub scoped : (bodies : ℕ → Tree) (t : Tree) → Holds bodies old.kept (nodes w.statements) t →
      scope.value ≡ text_scope start t
  pub added : new ≡ with_node (kept_text start w scope) old

-- the last piece was a program or a handler, and its node is added
abbrev pub AddsText : Arena → List Piece → Arena → List Piece → Type 0
AddsText old ps new rest =
    (start : Start) × (w : WholeText) × (ps ≡ piece.Whole w ∷ rest) ×
    (w.production ≡ whole_of start) × TextAdded start w old new
