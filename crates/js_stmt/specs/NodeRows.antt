-- The row of a node of an arena in a phase, with what its frame keeps.
use Rattle.std.specs.Prelude.{ℕ, List, [], ◌∷◌, Option, Some, None, drop, unwrap_or}
use Rattle.js_value.specs.declared.value.Value.{Value}
use Rattle.js_heap.specs.declared.class.ScopeId.{ScopeId}
use Rattle.js_tree.specs.Arena.{Arena, node_at}
use Rattle.js_tree.specs.TreeAt.{perhaps_tree, tree_at, tree_of}
use Rattle.js_tree.specs.Trees.{Tree, parts, production_of}
use Rattle.js_tree.specs.declared.node.Declarator.{Declarator}
use Rattle.js_tree.specs.declared.node.Node.{Node}
use Rattle.js_tree.specs.declared.node.Node.TheVariants as node
use Rattle.js_tree.specs.declared.node.NodeId.{NodeId}
use Rattle.js_term.specs.Operands.{Labels}
use Rattle.js_term.specs.declared.completion.Completion.{Completion}
use Rattle.js_term.specs.declared.context.Context.{Context}
use Rattle.js_stmt.specs.CodeRows.{clauses_as, finally_as, labels_around, var_as}
use Rattle.js_stmt.specs.Rows.{Loop, StmtRow}
use Rattle.js_stmt.specs.Syntax.{loop_of, name_of_target, stmt_row}
use Rattle.js_stmt.specs.declared.kept.StmtKept.{StmtKept}
use Rattle.js_stmt.specs.declared.kept.StmtKept.TheVariants as kept
use Rattle.js_stmt.specs.declared.phase.StmtPhase.{StmtPhase}
use Rattle.js_stmt.specs.declared.phase.StmtPhase.TheVariants as phase

-- the completion that is kept, and the object that `new` made
abbrev pub kept_completion : StmtKept → Option Completion
kept_completion (kept.Completion k) = Some k
kept_completion k = None

abbrev pub kept_object : StmtKept → Option Value
kept_object (kept.Made v) = Some v
kept_object k = None

abbrev pub row_by : {X : Type 0} → (X → StmtRow) → Option X → StmtRow
row_by f (Some x) = f x
row_by f None = StmtRow.Free

-- the name of the first declarator, and the variable of a for-in
abbrev pub first_name : List Declarator → Option (List ℕ)
first_name [] = None
first_name (d ∷ ds) = Some d.name

abbrev pub target_name : Node → Option (List ℕ)
target_name (node.Name x) = Some x
target_name (node.Var ds) = first_name ds
target_name n = None

-- a loop in this phase
abbrev pub loop_row : StmtPhase → Option Loop → StmtRow
loop_row phase.LoopStart l = row_by StmtRow.LoopStart l
loop_row phase.LoopTest l = row_by StmtRow.LoopTest l
loop_row phase.LoopBody l = row_by StmtRow.LoopBody l
loop_row phase.LoopUpdate l = row_by StmtRow.LoopUpdate l
loop_row p l = StmtRow.Free

-- a switch in its statements
abbrev pub clauses_row : Labels → Node → StmtRow
clauses_row ls (node.Switch e cs) = StmtRow.SwitchBody ls
clauses_row ls n = StmtRow.Free

module _ (a : Arena) where
  -- a `var` at the declarator of this place
  abbrev pub declared_row : ℕ → Node → StmtRow
  declared_row i (node.Var ds) = var_as a (drop i ds)
  declared_row i n = StmtRow.Free

  -- a try in its catch
  abbrev pub catch_row : ScopeId → Node → StmtRow
  catch_row s (node.Try g) = StmtRow.Catch s (finally_as a g.value)
  catch_row s n = StmtRow.Free

  module _ (ls : Labels) where
    -- as a node begins; what is no statement has no step
    abbrev pub begun_row : Node → StmtRow
    begun_row n = unwrap_or (stmt_row ls (production_of n) (tree_of a (parts n))) StmtRow.Free

    abbrev pub loop_at : Node → Option Loop
    loop_at (node.DoWhile s e) =
        Some (loop_of ls Tree.Missing (tree_at a e) Tree.Missing (tree_at a s))
    loop_at (node.While e s) =
        Some (loop_of ls Tree.Missing (tree_at a e) Tree.Missing (tree_at a s))
    loop_at (node.For x y z s) =
        Some (loop_of ls (perhaps_tree a x) (perhaps_tree a y) (perhaps_tree a z) (tree_at a s))
    loop_at n = None

    -- a for-in of this variable, behind so many of the names that are kept
    abbrev pub kept_names_row : ℕ → Option (List ℕ) → (body : NodeId) → StmtKept → StmtRow
    kept_names_row i x s (kept.Names v ks) =
        row_by (λ k. StmtRow.ForInKeys v (drop i ks) k (tree_at a s) ls) x
    kept_names_row i x s k = StmtRow.Free

    abbrev pub names_row : ℕ → Node → StmtKept → StmtRow
    names_row i (node.ForIn x e s) k = kept_names_row i (name_of_target (tree_at a x)) s k
    names_row i n k = StmtRow.Free

    -- a switch at the test of the clause of this place
    abbrev pub case_row : ℕ → Node → StmtRow
    case_row i (node.Switch e cs) = StmtRow.Case (clauses_as a cs) (clauses_as a (drop i cs)) ls
    case_row i n = StmtRow.Free

-- a: the arena. c: where a body runs. ls: the labels directly around the node.
module _ (a : Arena) (c : Context) (ls : Labels) where
  abbrev pub node_row : Node → StmtPhase → StmtKept → StmtRow
  node_row n phase.Begun k = begun_row a ls n
  node_row n (phase.Declared i) k = declared_row a i n
  node_row n phase.LoopStart k = loop_row phase.LoopStart (loop_at a ls n)
  node_row n phase.LoopTest k = loop_row phase.LoopTest (loop_at a ls n)
  node_row n phase.LoopBody k = loop_row phase.LoopBody (loop_at a ls n)
  node_row n phase.LoopUpdate k = loop_row phase.LoopUpdate (loop_at a ls n)
  node_row n (phase.Names i) k = names_row a ls i n k
  node_row n (phase.Case i) k = case_row a ls i n
  node_row n phase.Clauses k = clauses_row ls n
  node_row n (phase.Catch s) k = catch_row a s n
  node_row n phase.Finally k = StmtRow.Finally (kept_completion k)
  node_row n phase.Body k = StmtRow.Body c (kept_object k)

-- of the node of this number; outermost: the outermost labelled statement directly around it, or
-- the node itself
abbrev pub row_in : Arena → Context → NodeId → (outermost : NodeId) → StmtPhase → StmtKept
    → StmtRow
row_in a c id outermost p k =
    row_by
    (λ n. node_row a c (labels_around a (record { outermost = outermost; statement = id })) n p k)
    (node_at a id)
