-- A statement goes on over parts of its text alone, in a phase that its row has.
use Rattle.std.proofs.Common.{◌≡◌, ℕ, List, [], ◌∷◌, ◌++◌, Bool, true, false, Option, Some, None}
use Rattle.std.proofs.Common.{drop, refl, sym, subst}
use Rattle.std.specs.Prelude.{if◌then◌else◌, slice_get}
use Rattle.std.specs.Option.{option_copied}
use Rattle.js_value.specs.Image.{to_boolean}
use Rattle.js_value.specs.Same.{same}
use Rattle.js_value.specs.declared.value.Value.{Value}
use Rattle.js_heap.specs.World.{World}
use Rattle.js_heap.specs.declared.class.ScopeId.{ScopeId}
use Rattle.js_reference.specs.Room.{scopes_fit}
use Rattle.js_reference.specs.declared.answered.Answered.{Answered}
use Rattle.js_reference.specs.declared.answered.Answered.TheVariants as answered
use Rattle.js_reference.specs.declared.error.ErrorName.TheVariants.{RangeError}
use Rattle.js_term.specs.Evaluation.{Evaluation}
use Rattle.js_term.specs.Operands.{Labels, listed}
use Rattle.js_term.specs.declared.completion.Completion.{Completion}
use Rattle.js_term.specs.declared.completion.Completion.TheVariants as completion
use Rattle.js_term.specs.declared.context.Context.{Context}
use Rattle.js_term.specs.declared.operands.Operand.{Operand}
use Rattle.js_term.specs.declared.operands.Operand.TheVariants as operand
use Rattle.js_tree.specs.Arena.{Arena}
use Rattle.js_tree.specs.Trees.{Tree}
use Rattle.js_tree.specs.declared.node.Declarator.{Declarator}
use Rattle.js_stmt.specs.Bodies.{body_meets}
use Rattle.js_stmt.specs.CodeRows.{after_answer, at_phase, clauses_as, ended_as, finally_as, loop_as}
use Rattle.js_stmt.specs.CodeRows.{labels_around, made_of, operand_trees, progress_of, row_as, var_as}
use Rattle.js_stmt.specs.CodeRows.{with_names}
use Rattle.js_stmt.specs.ForIn.{for_in_row}
use Rattle.js_stmt.specs.Jumps.{is_break_of, return_row, throw_row}
use Rattle.js_stmt.specs.Loops as loops
use Rattle.js_stmt.specs.Made.{Made, Progress, made}
use Rattle.js_stmt.specs.Made.Progress.{Becomes, Completes, Finishes, GoesOn}
use Rattle.js_stmt.specs.Make.{control_meets, control_row}
use Rattle.js_stmt.specs.Parts.{IsHeld, is_node, row_parts}
use Rattle.js_stmt.specs.Rows.{Loop, StmtRow}
use Rattle.js_stmt.specs.Shapes.{IsNext, IsShaped, follows, values_coming}
use Rattle.js_stmt.specs.Steps.{only, pair, takes, throws}
use Rattle.js_stmt.specs.Switches as switches
use Rattle.js_stmt.specs.Tries.{finally_row, into_finally, next_scope, throw_meets, try_meets}
use Rattle.js_stmt.specs.Tries.{with_caught}
use Rattle.js_stmt.specs.Variables.{Initialised, first_initialised, if_row, next_declared}
use Rattle.js_stmt.specs.declared.phase.StmtPhase.{StmtPhase}
use Rattle.js_stmt.specs.declared.phase.StmtPhase.TheVariants as phase
use Rattle.js_stmt.specs.declared.row.StmtRow.{StmtRow as CodeRow}
use Rattle.js_stmt.specs.declared.row.StmtRow.TheVariants as code
use Rattle.js_stmt.specs.declared.stmt_move.StmtMove.{StmtMove}
use Rattle.js_stmt.specs.declared.stmt_move.StmtMove.TheVariants as move
use Rattle.js_stmt.proofs.Brought.{ProgressThere, RowThere}

-- a part that is there, and a list of such
abbrev pub IsPart : Tree → Type 0
IsPart Tree.Missing = ⊥
IsPart t = Unit {0}

abbrev pub AllParts : List Tree → Type 0
AllParts [] = Unit {0}
AllParts (t ∷ ts) = IsPart t × AllParts ts

-- what a step comes to awaits parts alone
abbrev pub ProgressShaped : Progress → Type 0
ProgressShaped (GoesOn r vs ts) = AllParts ts
ProgressShaped g = Unit {0}

pub node_part : (t : Tree) → is_node t ≡ true → IsPart t
node_part Tree.Missing e = absurd cc
node_part t e = tt

listed_parts : (t : Tree) → AllParts (listed t)
listed_parts (Tree.Cons Tree.Missing ts) = listed_parts ts
listed_parts (Tree.Cons t ts) = (tt, listed_parts ts)
listed_parts t = tt

both_parts : (xs ys : List Tree) → AllParts xs → AllParts ys → AllParts (xs ++ ys)
both_parts [] ys p q = q
both_parts (x ∷ xs) ys p q = (p.0, both_parts xs ys p.1 q)

statements_parts : (cs : Tree) → AllParts (switches.statements_of cs)
statements_parts (Tree.Cons (Tree.Cons t (Tree.Cons ss r)) cs) =
    both_parts (listed ss) (switches.statements_of cs) (listed_parts ss) (statements_parts cs)
statements_parts t = tt

abbrev TestThere : Option switches.Tested → Type 0
TestThere (Some k) = IsPart k.test
TestThere None = Unit {0}

tests_there : (cs : Tree) → TestThere (switches.first_tested cs)
tests_there (Tree.Cons (Tree.Cons Tree.Missing r) cs) = tests_there cs
tests_there (Tree.Cons (Tree.Cons t r) cs) = tt
tests_there t = tt

abbrev pub ValueThere : Option Initialised → Type 0
ValueThere (Some d) = IsPart d.value
ValueThere None = Unit {0}

pub values_there : (ds : Tree) → ValueThere (first_initialised ds)
values_there (Tree.Cons (Tree.Cons (Tree.Word x) (Tree.Cons Tree.Missing r)) ds) = values_there ds
values_there (Tree.Cons (Tree.Cons (Tree.Word x) (Tree.Cons e r)) ds) = tt
values_there t = tt

pub declared_shaped : (o : Option Initialised) → ValueThere o → ProgressShaped (next_declared o)
declared_shaped (Some d) t = (t, tt)
declared_shaped None t = tt

pub answer_shaped : (g : Progress) (x : Answered) → ProgressShaped g
    → ProgressShaped (after_answer g x)
answer_shaped g (answered.Returns v) h = h
answer_shaped g (answered.Throws v) h = tt

pub names_shaped : (w : World) (x : List ℕ) (b : Tree) (ls : Labels) (o : Option Value)
    → ProgressShaped (for_in_row w x b ls o)
names_shaped w x b ls (Some v) = tt
names_shaped w x b ls None = tt

either_shaped : (b : Bool) (g k : Progress) → ProgressShaped g → ProgressShaped k
    → ProgressShaped (if b then g else k)
either_shaped true g k p q = p
either_shaped false g k p q = q

if_shaped : (t u : Tree) (o : Option Value) → ProgressShaped (if_row t u o)
if_shaped t u (Some v) = either_shaped (to_boolean v) (Becomes t) (Becomes u) tt tt
if_shaped t u None = tt

module _ (l : Loop) (body : IsPart l.body) where
  test_shaped : (t : Tree) → ProgressShaped (loops.at_test l t)
  test_shaped Tree.Missing = (body, tt)
  test_shaped t = (tt, tt)

  start_shaped : (t : Tree) → ProgressShaped (loops.at_start l t)
  start_shaped Tree.Missing = test_shaped l.test
  start_shaped t = (tt, tt)

  update_shaped : (t : Tree) → ProgressShaped (loops.at_update l t)
  update_shaped Tree.Missing = test_shaped l.test
  update_shaped t = (tt, tt)

  tested_shaped : (o : Option Value) → ProgressShaped (loops.test_row l o)
  tested_shaped o = either_shaped (loops.holds o) (loops.into_body l) Finishes (body, tt) tt

  loop_meets_shaped : (k : Completion) → ProgressShaped (loops.body_meets l k)
  loop_meets_shaped (completion.Break x) =
      either_shaped (takes l.labels x) Finishes (Completes (completion.Break x)) tt tt
  loop_meets_shaped (completion.Continue x) =
      either_shaped (takes l.labels x) (loops.into_update l) (Completes (completion.Continue x))
      (update_shaped l.update) tt
  loop_meets_shaped k = tt

default_shaped : (ls : Labels) (o : Option Tree) → ProgressShaped (switches.at_default ls o)
default_shaped ls (Some cs) = statements_parts cs
default_shaped ls None = tt

clause_shaped : (cs : Tree) (ls : Labels) (v : Value) (o : Option switches.Tested) → TestThere o
    → ProgressShaped (switches.at_clause cs ls v o)
clause_shaped cs ls v (Some k) t = (t, tt)
clause_shaped cs ls v None t = default_shaped ls (switches.from_default cs)

switch_shaped : (cs : Tree) (ls : Labels) (o : Option Value)
    → ProgressShaped (switches.switch_row cs ls o)
switch_shaped cs ls (Some v) = clause_shaped cs ls v (switches.first_tested cs) (tests_there cs)
switch_shaped cs ls None = tt

case_shaped : (cs left : Tree) (ls : Labels) (o : Option (Value × Value))
    → ProgressShaped (switches.case_row cs left ls o)
case_shaped cs left ls (Some vs) =
    let rest = switches.behind_first left in
    either_shaped (same vs.0 vs.1) (switches.into_statements ls left)
    (switches.at_clause cs ls vs.0 (switches.first_tested rest)) (statements_parts left)
    (clause_shaped cs ls vs.0 (switches.first_tested rest) (tests_there rest))
case_shaped cs left ls None = tt

brought_shaped : (k : Option Completion) → ProgressShaped (finally_row k)
brought_shaped (Some k) = tt
brought_shaped None = tt

finally_shaped : (f : Tree) (k : Option Completion) → ProgressShaped (into_finally f k)
finally_shaped Tree.Missing k = brought_shaped k
finally_shaped f k = listed_parts f

return_shaped : (o : Option Value) → ProgressShaped (return_row o)
return_shaped (Some v) = tt
return_shaped None = tt

throw_shaped : (o : Option Value) → ProgressShaped (throw_row o)
throw_shaped (Some v) = tt
throw_shaped None = tt

var_shaped : (a : Arena) (ds : List Declarator) (done : List Value)
    → ProgressShaped (control_row (var_as a ds) done)
var_shaped a [] done = tt
var_shaped a (d ∷ ds) done = tt

var_meets_shaped : (a : Arena) (ds : List Declarator) (k : Completion)
    → ProgressShaped (control_meets (var_as a ds) k)
var_meets_shaped a [] k = tt
var_meets_shaped a (d ∷ ds) k = tt

body_meets_shaped : (n : Option Value) (k : Completion) → ProgressShaped (body_meets n k)
body_meets_shaped n (completion.Return v) = tt
body_meets_shaped n k = tt

module _ (a : Arena) (c : Context) where
  -- the step of a row that touches no world
  pub control_shaped : (r : CodeRow) (done : List Value) → IsHeld a (row_parts r)
      → ProgressShaped (control_row (row_as a c r) done)
  control_shaped (code.Var ds i) done h = var_shaped a (drop i ds.now) done
  control_shaped (code.If s u) done h = if_shaped _ _ (only done)
  control_shaped (code.DoWhile l) done h = (node_part (loop_as a l).body h.1.1.1.0, tt)
  control_shaped (code.While l) done h =
      test_shaped (loop_as a l) (node_part (loop_as a l).body h.1.1.1.0) (loop_as a l).test
  control_shaped (code.For l) done h =
      start_shaped (loop_as a l) (node_part (loop_as a l).body h.1.1.1.0) (loop_as a l).start
  control_shaped (code.LoopStart l) done h =
      test_shaped (loop_as a l) (node_part (loop_as a l).body h.1.1.1.0) (loop_as a l).test
  control_shaped (code.LoopTest l) done h =
      tested_shaped (loop_as a l) (node_part (loop_as a l).body h.1.1.1.0) (only done)
  control_shaped (code.LoopBody l) done h =
      update_shaped (loop_as a l) (node_part (loop_as a l).body h.1.1.1.0) (loop_as a l).update
  control_shaped (code.LoopUpdate l) done h =
      test_shaped (loop_as a l) (node_part (loop_as a l).body h.1.1.1.0) (loop_as a l).test
  control_shaped code.Return done h = return_shaped (slice_get done 0)
  control_shaped code.Throw done h = throw_shaped (slice_get done 0)
  control_shaped (code.Switch s) done h =
      switch_shaped (clauses_as a s.clauses.now) (labels_around a s.labelling) (only done)
  control_shaped (code.Case s i) done h =
      case_shaped (clauses_as a s.clauses.now) (clauses_as a (drop i s.clauses.now))
      (labels_around a s.labelling) (pair done)
  control_shaped (code.Try g) done h = finally_shaped (finally_as a g.now) None
  control_shaped (code.Catch s g) done h = finally_shaped (finally_as a g.now) None
  control_shaped (code.Finally k) done h = brought_shaped (option_copied k)
  control_shaped r done h = tt

  -- what a completion does to one
  pub meets_shaped : (r : CodeRow) (k : Completion) → IsHeld a (row_parts r)
      → ProgressShaped (control_meets (row_as a c r) k)
  meets_shaped (code.Var ds i) k h = var_meets_shaped a (drop i ds.now) k
  meets_shaped (code.LoopBody l) k h =
      loop_meets_shaped (loop_as a l) (node_part (loop_as a l).body h.1.1.1.0) k
  meets_shaped (code.Labelled l ls) k h =
      either_shaped (is_break_of k l.now) Finishes (Completes k) tt tt
  meets_shaped (code.SwitchBody ls) (completion.Break x) h =
      either_shaped (takes (labels_around a ls) x) Finishes (Completes (completion.Break x)) tt tt
  meets_shaped (code.SwitchBody ls) k h = tt
  meets_shaped (code.Catch s g) k h = finally_shaped (finally_as a g.now) (Some k)
  meets_shaped (code.Body n) k h = body_meets_shaped (option_copied n) k
  meets_shaped r k h = tt

  operands_shaped : (xs : List Operand) → AllParts (operand_trees a c xs) → values_coming xs ≡ []
  operands_shaped [] t = refl
  operands_shaped (operand.Value v ∷ xs) t = absurd t.0
  operands_shaped (operand.Node id ∷ xs) t = operands_shaped xs t.1

  pub move_shaped : (r : CodeRow) (e : Evaluation) (m : StmtMove)
      → ProgressShaped (progress_of a c r e m) → IsShaped m e.todo
  move_shaped r e (move.GoesOn p) t = operands_shaped e.todo t
  move_shaped r e (move.Names v ks) t = operands_shaped e.todo t
  move_shaped r e (move.Finally k) t = operands_shaped e.todo t
  move_shaped r e m t = tt

  module _ (w : World) (vs : List Value) where
    declared_next : (r : CodeRow) (i : ℕ) → RowThere w (row_as a c (at_phase r (phase.Declared i))) vs
        → follows r (phase.Declared i) ≡ true
    declared_next (code.Var ds j) i t = refl
    declared_next r i t = absurd t

    start_next : (r : CodeRow) → RowThere w (row_as a c (at_phase r phase.LoopStart)) vs
        → follows r phase.LoopStart ≡ true
    start_next (code.DoWhile l) t = refl
    start_next (code.While l) t = refl
    start_next (code.For l) t = refl
    start_next (code.LoopStart l) t = refl
    start_next (code.LoopTest l) t = refl
    start_next (code.LoopBody l) t = refl
    start_next (code.LoopUpdate l) t = refl
    start_next r t = absurd t

    test_next : (r : CodeRow) → RowThere w (row_as a c (at_phase r phase.LoopTest)) vs
        → follows r phase.LoopTest ≡ true
    test_next (code.DoWhile l) t = refl
    test_next (code.While l) t = refl
    test_next (code.For l) t = refl
    test_next (code.LoopStart l) t = refl
    test_next (code.LoopTest l) t = refl
    test_next (code.LoopBody l) t = refl
    test_next (code.LoopUpdate l) t = refl
    test_next r t = absurd t

    body_next : (r : CodeRow) → RowThere w (row_as a c (at_phase r phase.LoopBody)) vs
        → follows r phase.LoopBody ≡ true
    body_next (code.DoWhile l) t = refl
    body_next (code.While l) t = refl
    body_next (code.For l) t = refl
    body_next (code.LoopStart l) t = refl
    body_next (code.LoopTest l) t = refl
    body_next (code.LoopBody l) t = refl
    body_next (code.LoopUpdate l) t = refl
    body_next r t = absurd t

    update_next : (r : CodeRow) → RowThere w (row_as a c (at_phase r phase.LoopUpdate)) vs
        → follows r phase.LoopUpdate ≡ true
    update_next (code.DoWhile l) t = refl
    update_next (code.While l) t = refl
    update_next (code.For l) t = refl
    update_next (code.LoopStart l) t = refl
    update_next (code.LoopTest l) t = refl
    update_next (code.LoopBody l) t = refl
    update_next (code.LoopUpdate l) t = refl
    update_next r t = absurd t

    names_next : (r : CodeRow) (i : ℕ) → RowThere w (row_as a c (at_phase r (phase.Names i))) vs
        → follows r (phase.Names i) ≡ true
    names_next (code.ForInNames f v ks j) i t = refl
    names_next r i t = absurd t

    case_next : (r : CodeRow) (i : ℕ) → RowThere w (row_as a c (at_phase r (phase.Case i))) vs
        → follows r (phase.Case i) ≡ true
    case_next (code.Switch s) i t = refl
    case_next (code.Case s j) i t = refl
    case_next r i t = absurd t

    clauses_next : (r : CodeRow) → RowThere w (row_as a c (at_phase r phase.Clauses)) vs
        → follows r phase.Clauses ≡ true
    clauses_next (code.Switch s) t = refl
    clauses_next (code.Case s j) t = refl
    clauses_next r t = absurd t

    catch_next : (r : CodeRow) (s : ScopeId)
        → RowThere w (row_as a c (at_phase r (phase.Catch s))) vs
        → follows r (phase.Catch s) ≡ true
    catch_next (code.Try g) s t = refl
    catch_next r s t = absurd t

    phase_next : (r : CodeRow) (p : StmtPhase) → RowThere w (row_as a c (at_phase r p)) vs
        → follows r p ≡ true
    phase_next r phase.Begun t = absurd t
    phase_next r (phase.Declared i) t = declared_next r i t
    phase_next r phase.LoopStart t = start_next r t
    phase_next r phase.LoopTest t = test_next r t
    phase_next r phase.LoopBody t = body_next r t
    phase_next r phase.LoopUpdate t = update_next r t
    phase_next r (phase.Names i) t = names_next r i t
    phase_next r (phase.Case i) t = case_next r i t
    phase_next r phase.Clauses t = clauses_next r t
    phase_next r (phase.Catch s) t = catch_next r s t
    phase_next r phase.Finally t = absurd t
    phase_next r phase.Body t = absurd t

    listing_next : (r : CodeRow) (v : Value) (ks : List (List ℕ))
        → RowThere w (with_names a c r v ks) vs → IsNext r (move.Names v ks)
    listing_next (code.ForIn f) v ks t = refl
    listing_next r v ks t = absurd t

  -- a row goes on in a phase of its own
  pub next_there : (w : World) (vs : List Value) (r : CodeRow) (e : Evaluation) (m : StmtMove)
      → ProgressThere w vs (progress_of a c r e m) → IsNext r m
  next_there w vs r e (move.GoesOn p) t = phase_next w (e.done ++ vs) r p t
  next_there w vs r e (move.Names v ks) t = listing_next w (e.done ++ vs) r v ks t
  next_there w vs r e m t = tt

-- of a move that ends its node
pub ended_shaped : (xs : List Operand) (m : StmtMove) (g : Progress) → ended_as m ≡ Some g
    → IsShaped m xs
ended_shaped xs (move.GoesOn p) g e = absurd cc
ended_shaped xs (move.Names v ks) g e = absurd cc
ended_shaped xs (move.Finally k) g e = absurd cc
ended_shaped xs m g e = tt

pub ended_next : (r : CodeRow) (m : StmtMove) (g : Progress) → ended_as m ≡ Some g → IsNext r m
ended_next r (move.GoesOn p) g e = absurd cc
ended_next r (move.Names v ks) g e = absurd cc
ended_next r m g e = tt

module _ {H : Type 0} (s : Option ScopeId) (w : World) (h : H) where
  abbrev pub MadeShaped : Made H → Type 0
  MadeShaped x = ProgressShaped x.progress

  catch_shaped : (x : List ℕ) (ss f : Tree) (v : Value) (b : Bool)
      → MadeShaped (if b
      then made (GoesOn (StmtRow.Catch (next_scope w) f) [] (listed ss)) (with_caught w s x v) h
      else throws RangeError w h)
  catch_shaped x ss f v true = listed_parts ss
  catch_shaped x ss f v false = tt

  thrown_shaped : (k f : Tree) (v : Value) → MadeShaped (throw_meets s w h k f v)
  thrown_shaped (Tree.Cons (Tree.Word x) (Tree.Cons ss r)) f v =
      catch_shaped x ss f v (scopes_fit w 1)
  thrown_shaped k f v = finally_shaped f (Some (completion.Throw v))

  pub try_shaped : (k f : Tree) (e : Completion) → MadeShaped (try_meets s w h k f e)
  try_shaped k f (completion.Throw v) = thrown_shaped k f v
  try_shaped k f (completion.Return v) = finally_shaped f (Some (completion.Return v))
  try_shaped k f (completion.Break l) = finally_shaped f (Some (completion.Break l))
  try_shaped k f (completion.Continue l) = finally_shaped f (Some (completion.Continue l))

  pub left_shaped : (a : Arena) (c : Context) (r : CodeRow) (e : Evaluation) (m : StmtMove)
      (w' : World) (h' : H) (x : Made H) → made_of a c r e m w' h' ≡ x → MadeShaped x
      → IsShaped m e.todo
  left_shaped a c r e m w' h' x is t = move_shaped a c r e m (subst MadeShaped (sym is) t)
