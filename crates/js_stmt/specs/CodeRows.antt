-- Rows, phases and moves as code has them: what they are in an arena.
use Rattle.std.specs.Prelude.{ℕ, zero, suc, ◌+◌, ◌<◌, ◌==◌, Bool, true, false, List, [], ◌∷◌, ◌++◌, Option, Some}
use Rattle.std.specs.Prelude.{None, drop, length, if◌then◌else◌, map}
use Rattle.std.specs.Option.{option_copied}
use Rattle.js_value.specs.declared.value.Value.{Value}
use Rattle.js_heap.specs.World.{World}
use Rattle.js_heap.specs.declared.class.ScopeId.{ScopeId}
use Rattle.js_reference.specs.declared.answered.Answered.{Answered}
use Rattle.js_reference.specs.declared.answered.Answered.TheVariants as answered
use Rattle.js_tree.specs.Arena.{Arena, node_at}
use Rattle.js_tree.specs.TreeAt.{perhaps_tree, tree_at, tree_of}
use Rattle.js_tree.specs.Trees.{Tree, at_last, cases, caught, declarators}
use Rattle.js_tree.specs.declared.node.Case.{Case}
use Rattle.js_tree.specs.declared.node.Declarator.{Declarator}
use Rattle.js_tree.specs.declared.node.Guarded.{Guarded}
use Rattle.js_tree.specs.declared.node.Node.{Node}
use Rattle.js_tree.specs.declared.node.Node.TheVariants as node
use Rattle.js_tree.specs.declared.node.NodeId.{NodeId}
use Rattle.js_host.specs.Names.{option_names}
use Rattle.js_term.specs.ArenaOperands.{as_operands}
use Rattle.js_term.specs.Evaluation.{Evaluation}
use Rattle.js_term.specs.Operands.{Labels}
use Rattle.js_term.specs.declared.completion.Completion.{Completion}
use Rattle.js_term.specs.declared.completion.Completion.TheVariants as completion
use Rattle.js_term.specs.declared.context.Context.{Context}
use Rattle.js_term.specs.declared.operands.Operand.{Operand}
use Rattle.js_term.specs.declared.operands.Operand.TheVariants as operand
use Rattle.js_stmt.specs.Made.{Made, Progress, made}
use Rattle.js_stmt.specs.Rows.{Loop, StmtRow}
use Rattle.js_stmt.specs.declared.phase.StmtPhase.{StmtPhase}
use Rattle.js_stmt.specs.declared.phase.StmtPhase.TheVariants as phase
use Rattle.js_stmt.specs.declared.found.Found.{Found}
use Rattle.js_stmt.specs.declared.row.ForInParts.{ForInParts}
use Rattle.js_stmt.specs.declared.row.Labelling.{Labelling}
use Rattle.js_stmt.specs.declared.row.LoopParts.{LoopParts}
use Rattle.js_stmt.specs.declared.row.StmtRow.{StmtRow as CodeRow}
use Rattle.js_stmt.specs.declared.row.StmtRow.TheVariants as code
use Rattle.js_stmt.specs.declared.stmt_move.StmtMove.{StmtMove}
use Rattle.js_stmt.specs.declared.stmt_move.StmtMove.TheVariants as move

-- the labels of a labelled statement and of those that stand directly in it
abbrev pub with_label : (NodeId → Labels → Labels) → Option Node → Labels → Labels
with_label inner (Some (node.Labelled l s)) ls = inner s (l ∷ ls)
with_label inner n ls = ls

module _ (a : Arena) where
  -- the labels from a node on inwards up to a statement, so many at most, in front of others; a
  -- part's number is below that of its node, so that a node's number is levels enough
  unfoldable pub labels_up_to : (statement : NodeId) → (levels : ℕ) → NodeId → Labels → Labels
  labels_up_to s zero n ls = ls
  labels_up_to s (suc k) n ls =
      if n.number == s.number then ls else with_label (labels_up_to s k) (node_at a n) ls

  -- the labels that stand directly around a statement, the inner one first
  abbrev pub labels_around : Labelling → Labels
  labels_around l = labels_up_to l.statement (suc l.outermost.number) l.outermost []

  abbrev pub loop_as : LoopParts → Loop
  loop_as l = record {
    start = perhaps_tree a l.start;
    test = perhaps_tree a l.test;
    update = perhaps_tree a l.update;
    body = tree_at a l.body;
    labels = labels_around l.labelling;
  }

  abbrev pub declarators_as : List Declarator → Tree
  declarators_as ds = tree_of a (declarators ds)

  -- at the first of these declarators
  abbrev pub var_as : List Declarator → StmtRow
  var_as (d ∷ ds) = StmtRow.Var d.name (declarators_as ds)
  var_as [] = StmtRow.Free

  abbrev pub clauses_as : List Case → Tree
  clauses_as cs = tree_of a (cases cs)

  abbrev pub catch_as : Guarded → Tree
  catch_as g = tree_of a (caught g.catch)

  abbrev pub finally_as : Guarded → Tree
  finally_as g = tree_of a (at_last g.finally)

  abbrev pub names_as : ForInParts → Value → (names : List (List ℕ)) → StmtRow
  names_as f v ks = StmtRow.ForInKeys v ks f.name.now (tree_at a f.body) (labels_around f.labelling)

  -- the row that it is in the arena; a body runs in this context
  abbrev pub row_as : Context → CodeRow → StmtRow
  row_as c code.Free = StmtRow.Free
  row_as c (code.Var ds i) = var_as (drop i ds.now)
  row_as c (code.If s t) = StmtRow.If (tree_at a s) (perhaps_tree a t)
  row_as c (code.DoWhile l) = StmtRow.DoWhile (loop_as l)
  row_as c (code.While l) = StmtRow.While (loop_as l)
  row_as c (code.For l) = StmtRow.For (loop_as l)
  row_as c (code.LoopStart l) = StmtRow.LoopStart (loop_as l)
  row_as c (code.LoopTest l) = StmtRow.LoopTest (loop_as l)
  row_as c (code.LoopBody l) = StmtRow.LoopBody (loop_as l)
  row_as c (code.LoopUpdate l) = StmtRow.LoopUpdate (loop_as l)
  row_as c (code.ForIn f) =
      StmtRow.ForIn f.name.now (tree_at a f.body) (labels_around f.labelling)
  row_as c (code.ForInNames f v ks i) = names_as f v.now (drop i ks.now)
  row_as c (code.Continue l) = StmtRow.Continue l.now
  row_as c (code.Break l) = StmtRow.Break l.now
  row_as c code.Return = StmtRow.Return
  row_as c code.Throw = StmtRow.Throw
  row_as c (code.Labelled l ls) = StmtRow.Labelled l.now (l.now ∷ labels_around ls)
  row_as c (code.Switch s) = StmtRow.Switch (clauses_as s.clauses.now) (labels_around s.labelling)
  row_as c (code.Case s i) =
      StmtRow.Case (clauses_as s.clauses.now) (clauses_as (drop i s.clauses.now))
      (labels_around s.labelling)
  row_as c (code.SwitchBody ls) = StmtRow.SwitchBody (labels_around ls)
  row_as c (code.Try g) = StmtRow.Try (catch_as g.now) (finally_as g.now)
  row_as c (code.Catch s g) = StmtRow.Catch s (finally_as g.now)
  row_as c (code.Finally k) = StmtRow.Finally (option_copied k)
  row_as c (code.Body v) = StmtRow.Body c (option_copied v)

-- what a row lends of a loop
abbrev pub loop_in : CodeRow → Option LoopParts
loop_in (code.DoWhile l) = Some l
loop_in (code.While l) = Some l
loop_in (code.For l) = Some l
loop_in (code.LoopStart l) = Some l
loop_in (code.LoopTest l) = Some l
loop_in (code.LoopBody l) = Some l
loop_in (code.LoopUpdate l) = Some l
loop_in r = None

abbrev pub row_with : {X : Type 0} → (X → CodeRow) → Option X → CodeRow
row_with f (Some x) = f x
row_with f None = code.Free

abbrev pub declared_at : ℕ → CodeRow → CodeRow
declared_at i (code.Var ds j) = code.Var ds i
declared_at i r = code.Free

abbrev pub names_passed : ℕ → CodeRow → CodeRow
names_passed i (code.ForInNames f v ks j) = code.ForInNames f v ks i
names_passed i r = code.Free

abbrev pub case_at : ℕ → CodeRow → CodeRow
case_at i (code.Switch s) = code.Case s i
case_at i (code.Case s j) = code.Case s i
case_at i r = code.Free

abbrev pub clauses_in : CodeRow → CodeRow
clauses_in (code.Switch s) = code.SwitchBody s.labelling
clauses_in (code.Case s j) = code.SwitchBody s.labelling
clauses_in r = code.Free

abbrev pub catch_in : ScopeId → CodeRow → CodeRow
catch_in s (code.Try g) = code.Catch s g
catch_in s r = code.Free

-- the same node in another phase, for which it needs nothing more than it lends
abbrev pub at_phase : CodeRow → StmtPhase → CodeRow
at_phase r phase.Begun = code.Free
at_phase r (phase.Declared i) = declared_at i r
at_phase r phase.LoopStart = row_with code.LoopStart (loop_in r)
at_phase r phase.LoopTest = row_with code.LoopTest (loop_in r)
at_phase r phase.LoopBody = row_with code.LoopBody (loop_in r)
at_phase r phase.LoopUpdate = row_with code.LoopUpdate (loop_in r)
at_phase r (phase.Names i) = names_passed i r
at_phase r (phase.Case i) = case_at i r
at_phase r phase.Clauses = clauses_in r
at_phase r (phase.Catch s) = catch_in s r
at_phase r phase.Finally = code.Free
at_phase r phase.Body = code.Free

module _ (a : Arena) (c : Context) where
  abbrev pub operand_tree : Operand → Tree
  operand_tree (operand.Node id) = tree_at a id
  operand_tree (operand.Value v) = Tree.Missing

  abbrev pub operand_trees : List Operand → List Tree
  operand_trees xs = map operand_tree xs

  -- with the names of a value that a for-in goes through
  abbrev pub with_names : CodeRow → Value → (names : List (List ℕ)) → StmtRow
  with_names (code.ForIn f) v ks = names_as a f v ks
  with_names r v ks = StmtRow.Free

  -- what a move makes of a node of this row, whose operands after the step these are
  abbrev pub progress_of : CodeRow → Evaluation → StmtMove → Progress
  progress_of r e move.Finished = Progress.Finishes
  progress_of r e (move.Value v) = Progress.Gives v
  progress_of r e (move.Abrupt k) = Progress.Completes k
  progress_of r e (move.Becomes id) = Progress.Becomes (perhaps_tree a id)
  progress_of r e (move.GoesOn p) =
      Progress.GoesOn (row_as a c (at_phase r p)) e.done (operand_trees e.todo)
  progress_of r e (move.Names v ks) =
      Progress.GoesOn (with_names r v ks) e.done (operand_trees e.todo)
  progress_of r e (move.Finally k) =
      Progress.GoesOn (StmtRow.Finally k) e.done (operand_trees e.todo)

  abbrev pub made_of : {H : Type 0} → CodeRow → Evaluation → StmtMove → World → H → Made H
  made_of r e m w h = made (progress_of r e m) w h

-- what a move ends its node as; none where it goes on or becomes another
abbrev pub ended_as : StmtMove → Option Progress
ended_as move.Finished = Some Progress.Finishes
ended_as (move.Value v) = Some (Progress.Gives v)
ended_as (move.Abrupt k) = Some (Progress.Completes k)
ended_as m = None

-- operands of which none has begun
abbrev pub fresh : List NodeId → Evaluation
fresh ids = record { done = []; todo = as_operands ids }

-- the values that a completion names, in front of others
abbrev pub completion_names : Completion → List Value → List Value
completion_names (completion.Return v) vs = v ∷ vs
completion_names (completion.Throw v) vs = v ∷ vs
completion_names k vs = vs

abbrev pub kept_names : Option Completion → List Value → List Value
kept_names (Some k) vs = completion_names k vs
kept_names None vs = vs

-- those of a move, and of its operands where the node goes on
abbrev pub move_names : StmtMove → (done : List Value) → List Value → List Value
move_names (move.Value v) done vs = v ∷ vs
move_names (move.Abrupt k) done vs = completion_names k vs
move_names (move.GoesOn p) done vs = done ++ vs
move_names (move.Names v ks) done vs = v ∷ (done ++ vs)
move_names (move.Finally k) done vs = kept_names k (done ++ vs)
move_names m done vs = vs

-- the scope that the operands of a node run in from a move on, where that is another
abbrev pub scope_entered : StmtMove → Option ℕ
scope_entered (move.GoesOn (phase.Catch s)) = Some s.number
scope_entered m = None

-- the values that a frame keeps for its row
abbrev pub row_names : CodeRow → List Value → List Value
row_names (code.ForInNames f v ks i) vs = v.now ∷ vs
row_names (code.Finally k) vs = kept_names (option_copied k) vs
row_names (code.Body v) vs = option_names (option_copied v) vs
row_names r vs = vs

-- the first of these declarators that has an initialiser, by places that begin here
abbrev pub initialised_or : ℕ → Option NodeId → Option Found → Option Found
initialised_or i (Some id) o = Some (record { at = i; node = id })
initialised_or i None o = o

abbrev pub initialised_from : ℕ → List Declarator → Option Found
initialised_from i [] = None
initialised_from i (d ∷ ds) = initialised_or i d.value (initialised_from (i + 1) ds)

-- the first of these clauses that has a test
abbrev pub tested_from : ℕ → List Case → Option Found
tested_from i [] = None
tested_from i (k ∷ ks) = initialised_or i k.test (tested_from (i + 1) ks)

-- the place of the first of these clauses that is `default`
abbrev pub default_or : ℕ → Option NodeId → Option ℕ → Option ℕ
default_or i None o = Some i
default_or i (Some id) o = o

abbrev pub default_from : ℕ → List Case → Option ℕ
default_from i [] = None
default_from i (k ∷ ks) = default_or i k.test (default_from (i + 1) ks)

-- the statements of these clauses
abbrev pub clause_nodes : List Case → List NodeId
clause_nodes [] = []
clause_nodes (k ∷ ks) = k.statements ++ clause_nodes ks

-- behind a write: its throw, or what comes next
abbrev pub after_answer : Progress → Answered → Progress
after_answer g (answered.Returns v) = g
after_answer g (answered.Throws v) = Progress.Completes (completion.Throw v)

-- the names from one that was found on
abbrev pub names_from : List (List ℕ) → Option ℕ → List (List ℕ)
names_from ks (Some i) = drop i ks
names_from ks None = []

-- the outermost labelled statement around what takes jumps is there
abbrev pub HasOutermost : Arena → CodeRow → Type 0
HasOutermost a (code.LoopBody l) = l.labelling.outermost.number < length a.kept
HasOutermost a (code.ForInNames f v ks i) = f.labelling.outermost.number < length a.kept
HasOutermost a (code.SwitchBody ls) = ls.outermost.number < length a.kept
HasOutermost a r = Unit {0}

-- the rows whose step touches the world, and those which may with a completion
abbrev pub touches : CodeRow → Bool
touches (code.Var ds i) = true
touches (code.ForIn f) = true
touches (code.ForInNames f v ks i) = true
touches r = false

abbrev pub meeting_touches : CodeRow → Bool
meeting_touches (code.ForInNames f v ks i) = true
meeting_touches (code.Try g) = true
meeting_touches r = false
