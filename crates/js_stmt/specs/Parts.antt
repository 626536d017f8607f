-- What a row in code names of its text is there, in an arena.
use Rattle.std.specs.Prelude.{◌≡◌, Bool, true, false, Option}
use Rattle.js_heap.specs.World.{World}
use Rattle.js_heap.specs.declared.class.ScopeId.{ScopeId}
use Rattle.js_reference.specs.Own.{OwnProperties}
use Rattle.js_term.specs.Evaluation.{Evaluation}
use Rattle.js_term.specs.declared.completion.Completion.{Completion}
use Rattle.js_term.specs.declared.context.Context.{Context}
use Rattle.js_tree.specs.Arena.{Arena}
use Rattle.js_tree.specs.TreeAt.{body_at, node_with}
use Rattle.js_tree.specs.Trees.{Part, Tree, at, at_last, cases, caught, declarators, four, one}
use Rattle.js_tree.specs.Trees.{perhaps, two}
use Rattle.js_tree.specs.declared.node.Guarded.{Guarded}
use Rattle.js_stmt.specs.CodeRows.{made_of, progress_of, row_as}
use Rattle.js_stmt.specs.Made.{Progress}
use Rattle.js_stmt.specs.Make.{made_stmt, met_stmt}
use Rattle.js_stmt.specs.declared.row.LoopParts.{LoopParts}
use Rattle.js_stmt.specs.declared.row.StmtRow.{StmtRow}
use Rattle.js_stmt.specs.declared.row.StmtRow.TheVariants as code
use Rattle.js_stmt.specs.declared.stmt_move.StmtMove.{StmtMove}

-- a tree is a node's
abbrev pub is_node : Tree → Bool
is_node (Tree.Made p u v ts) = true
is_node t = false

-- each node that is named in a part is there
abbrev pub IsHeld : Arena → Part → Type 0
IsHeld a (Part.At i) = is_node (node_with a.kept (body_at a) i) ≡ true
IsHeld a (Part.Cons p q) = IsHeld a p × IsHeld a q
IsHeld a p = Unit {0}

abbrev pub loop_parts : LoopParts → Part
loop_parts l = four (perhaps l.start) (perhaps l.test) (perhaps l.update) (at l.body)

abbrev pub try_parts : Guarded → Part
try_parts g = two (caught g.catch) (at_last g.finally)

-- the parts of its text that a row names
abbrev pub row_parts : StmtRow → Part
row_parts (code.Var ds i) = declarators ds.now
row_parts (code.If s t) = two (at s) (perhaps t)
row_parts (code.DoWhile l) = loop_parts l
row_parts (code.While l) = loop_parts l
row_parts (code.For l) = loop_parts l
row_parts (code.LoopStart l) = loop_parts l
row_parts (code.LoopTest l) = loop_parts l
row_parts (code.LoopBody l) = loop_parts l
row_parts (code.LoopUpdate l) = loop_parts l
row_parts (code.ForIn f) = one (at f.body)
row_parts (code.ForInNames f v ks i) = one (at f.body)
row_parts (code.Switch s) = cases s.clauses.now
row_parts (code.Case s i) = cases s.clauses.now
row_parts (code.Try g) = try_parts g.now
row_parts (code.Catch s g) = at_last g.now.finally
row_parts r = Part.Nil

-- in an arena that holds these parts, in each context, a move of a node of this row is this
abbrev pub Makes : Arena → Part → StmtRow → Evaluation → StmtMove → Progress → Type 0
Makes a p r e m g = (c : Context) → IsHeld a p → progress_of a c r e m ≡ g

-- O: the host's properties. s: where names are looked up. The move of a row over these values is
-- the row's step.
abbrev pub Contracts : {H : Type 0} → OwnProperties H → Option ScopeId → Arena → StmtRow
    → Evaluation → World → H → StmtMove → Evaluation → World → H → Type 0
Contracts O s a r e w h m e' w' h' =
    (c : Context) → IsHeld a (row_parts r)
    → made_of a c r e' m w' h' ≡ made_stmt O s w h (row_as a c r) e.done

-- the same of a completion that its operand has come to
abbrev pub Meets : {H : Type 0} → OwnProperties H → Option ScopeId → Arena → StmtRow
    → Completion → World → H → StmtMove → Evaluation → World → H → Type 0
Meets O s a r k w h m e' w' h' =
    (c : Context) → IsHeld a (row_parts r)
    → made_of a c r e' m w' h' ≡ met_stmt O s w h (row_as a c r) k
