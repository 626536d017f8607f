-- The step of each row of a statement whose operands are values, what a completion does to one,
-- which has no step, and where its operands run.
use Rattle.std.specs.Prelude.{Bool, true, false, List, [], Option, Some, slice_get}
use Rattle.js_value.specs.declared.value.Value.{Value}
use Rattle.js_heap.specs.World.{World}
use Rattle.js_heap.specs.declared.class.ScopeId.{ScopeId}
use Rattle.js_reference.specs.Own.{OwnProperties}
use Rattle.js_term.specs.declared.completion.Completion.{Completion}
use Rattle.js_term.specs.declared.completion.Completion.TheVariants as completion
use Rattle.js_term.specs.declared.context.Context.{Context}
use Rattle.js_term.specs.Operands.{Labels}
use Rattle.js_term.specs.Place.{Place}
use Rattle.js_term.specs.Table.{Step}
use Rattle.js_stmt.specs.Bodies.{body_row, body_meets}
use Rattle.js_stmt.specs.ForIn.{for_in_row, for_in_keys_row, for_in_meets}
use Rattle.js_stmt.specs.Jumps.{labelled_meets, return_row, throw_row}
use Rattle.js_stmt.specs.Loops as loops
use Rattle.js_stmt.specs.Made.{Made, Progress, made, step_of}
use Rattle.js_stmt.specs.Made.Progress.{Completes, Finishes}
use Rattle.js_stmt.specs.Rows.{StmtRow}
use Rattle.js_stmt.specs.Setting.{Setting}
use Rattle.js_stmt.specs.Steps.{only, pair}
use Rattle.js_stmt.specs.Switches.{case_row, switch_meets, switch_row}
use Rattle.js_stmt.specs.Tries.{catch_meets, finally_row, try_meets, try_row}
use Rattle.js_stmt.specs.Variables.{if_row, var_row}

-- the rows that are finished as soon as their operands are
abbrev pub stmt_has_no_step : StmtRow → Bool
stmt_has_no_step StmtRow.Free = true
stmt_has_no_step (StmtRow.Labelled l ls) = true
stmt_has_no_step (StmtRow.SwitchBody labels) = true
stmt_has_no_step r = false

-- the labels that stand directly around the operands of a row
abbrev pub labels_inside : StmtRow → Labels
labels_inside (StmtRow.Labelled l ls) = ls
labels_inside r = []

-- where the operands of a row run
abbrev pub inner_stmt : StmtRow → Context → Context
inner_stmt (StmtRow.Catch s f) c = record { text = c.text; scope = Some s; this = c.this }
inner_stmt (StmtRow.Body b made) c = b
inner_stmt r c = c

-- the step of a row that touches no world
abbrev pub control_row : StmtRow → List Value → Progress
control_row (StmtRow.If t u) vs = if_row t u (only vs)
control_row (StmtRow.DoWhile l) vs = loops.into_body l
control_row (StmtRow.While l) vs = loops.into_test l
control_row (StmtRow.For l) vs = loops.into_start l
control_row (StmtRow.LoopStart l) vs = loops.into_test l
control_row (StmtRow.LoopTest l) vs = loops.test_row l (only vs)
control_row (StmtRow.LoopBody l) vs = loops.into_update l
control_row (StmtRow.LoopUpdate l) vs = loops.into_test l
control_row (StmtRow.Continue l) vs = Completes (completion.Continue l)
control_row (StmtRow.Break l) vs = Completes (completion.Break l)
control_row StmtRow.Return vs = return_row (slice_get vs 0)
control_row StmtRow.Throw vs = throw_row (slice_get vs 0)
control_row (StmtRow.Switch cs ls) vs = switch_row cs ls (only vs)
control_row (StmtRow.Case cs left ls) vs = case_row cs left ls (pair vs)
control_row (StmtRow.Try k f) vs = try_row f
control_row (StmtRow.Catch n f) vs = try_row f
control_row (StmtRow.Finally k) vs = finally_row k
control_row (StmtRow.Body b n) vs = body_row n
control_row r vs = Finishes

-- what a completion does to a row that touches no world then
abbrev pub control_meets : StmtRow → Completion → Progress
control_meets (StmtRow.LoopBody l) k = loops.body_meets l k
control_meets (StmtRow.Labelled l ls) k = labelled_meets l k
control_meets (StmtRow.SwitchBody ls) k = switch_meets ls k
control_meets (StmtRow.Catch n f) k = catch_meets f k
control_meets (StmtRow.Body b n) k = body_meets n k
control_meets r k = Completes k

-- O: the host's properties. s: the scope in which the statement's names are looked up.
module _ {H : Type 0} (O : OwnProperties H) (s : Option ScopeId) (w : World) (h : H) where
  abbrev pub unchanged : Progress → Made H
  unchanged g = made g w h

  -- what the step of a row over these values comes to
  abbrev pub made_stmt : StmtRow → List Value → Made H
  made_stmt (StmtRow.Var x ds) vs = var_row O s w h x ds (only vs)
  made_stmt (StmtRow.ForIn x b ls) vs = unchanged (for_in_row w x b ls (only vs))
  made_stmt (StmtRow.ForInKeys v ks x b ls) vs = for_in_keys_row O w h s v x b ls ks
  made_stmt r vs = unchanged (control_row r vs)

  -- what a completion comes to that an operand of the row has come to
  abbrev pub met_stmt : StmtRow → Completion → Made H
  met_stmt (StmtRow.ForInKeys v ks x b ls) k = for_in_meets O w h s v x b ls ks k
  met_stmt (StmtRow.Try e f) k = try_meets s w h e f k
  met_stmt r k = unchanged (control_meets r k)

-- the same as steps among all rows
module _ {R H : Type 0} (S : Setting R) (O : OwnProperties H) (p : Place) (c : Context)
    (w : World) (h : H) where
  abbrev pub make_stmt : StmtRow → List Value → Step R H
  make_stmt r vs = step_of S p (made_stmt O c.scope w h r vs)

  abbrev pub meets_stmt : StmtRow → Completion → Step R H
  meets_stmt r k = step_of S p (met_stmt O c.scope w h r k)
