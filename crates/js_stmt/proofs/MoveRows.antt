-- A move of one row of a loop or a switch is that of another.
use Rattle.std.proofs.Common.{◌≡◌, List, [], ◌∷◌, ◌++◌, false, Option, Some, drop, refl, ap}
use Rattle.std.specs.Prelude.{Err, IfOk, Ok, Result}
use Rattle.js_value.specs.declared.value.Value.{Value}
use Rattle.js_heap.specs.World.{World}
use Rattle.js_heap.specs.declared.class.ScopeId.{ScopeId}
use Rattle.js_host.specs.There.{AreThere}
use Rattle.js_reference.specs.Own.{OwnProperties}
use Rattle.js_term.specs.declared.completion.Completion.{Completion}
use Rattle.js_tree.specs.declared.node.Declarator.{Declarator}
use Rattle.js_tree.specs.Arena.{Arena}
use Rattle.js_term.specs.Evaluation.{Evaluation}
use Rattle.js_term.specs.declared.context.Context.{Context}
use Rattle.js_stmt.specs.CodeRows.{at_phase, ended_as, operand_trees, progress_of, row_as}
use Rattle.js_stmt.specs.CodeRows.{meeting_touches, touches, var_as}
use Rattle.js_stmt.specs.Made.{Progress, made}
use Rattle.js_stmt.specs.Make.{control_meets, control_row, made_stmt, met_stmt}
use Rattle.js_stmt.specs.Made.Progress.{GoesOn}
use Rattle.js_stmt.specs.declared.phase.StmtPhase.{StmtPhase}
use Rattle.js_stmt.specs.declared.phase.StmtPhase.TheVariants as phase
use Rattle.js_stmt.specs.declared.row.LoopParts.{LoopParts}
use Rattle.js_stmt.specs.declared.row.StmtRow.{StmtRow}
use Rattle.js_stmt.specs.declared.row.StmtRow.TheVariants as code
use Rattle.js_stmt.specs.declared.row.SwitchParts.{SwitchParts}
use Rattle.js_stmt.specs.declared.stmt_move.StmtMove.{StmtMove}
use Rattle.js_stmt.specs.declared.stmt_move.StmtMove.TheVariants as move
use Rattle.std.specs.Prelude.{ℕ}

-- the rows of a loop, each by its parts
pub data LoopRow : Type 0 where
  IsDoWhile : LoopRow
  IsWhile : LoopRow
  IsFor : LoopRow
  IsStart : LoopRow
  IsTest : LoopRow
  IsUpdate : LoopRow

abbrev pub row_of_loop : LoopRow → LoopParts → StmtRow
row_of_loop IsDoWhile l = code.DoWhile l
row_of_loop IsWhile l = code.While l
row_of_loop IsFor l = code.For l
row_of_loop IsStart l = code.LoopStart l
row_of_loop IsTest l = code.LoopTest l
row_of_loop IsUpdate l = code.LoopUpdate l

loop_phase : (k : LoopRow) (l : LoopParts) (p : StmtPhase)
    → at_phase (row_of_loop k l) p ≡ at_phase (code.LoopBody l) p
loop_phase IsDoWhile l phase.Begun = refl
loop_phase IsDoWhile l p = refl
loop_phase IsWhile l phase.Begun = refl
loop_phase IsWhile l p = refl
loop_phase IsFor l phase.Begun = refl
loop_phase IsFor l p = refl
loop_phase IsStart l phase.Begun = refl
loop_phase IsStart l p = refl
loop_phase IsTest l phase.Begun = refl
loop_phase IsTest l p = refl
loop_phase IsUpdate l phase.Begun = refl
loop_phase IsUpdate l p = refl

module _ (a : Arena) (c : Context) where
  pub loop_moves : (k : LoopRow) (l : LoopParts) (e : Evaluation) (m : StmtMove)
      → progress_of a c (row_of_loop k l) e m ≡ progress_of a c (code.LoopBody l) e m
  loop_moves k l e (move.GoesOn p) =
      ap (λ r. GoesOn (row_as a c r) e.done (operand_trees a c e.todo)) (loop_phase k l p)
  loop_moves IsDoWhile l e (move.Names v ks) = refl
  loop_moves IsWhile l e (move.Names v ks) = refl
  loop_moves IsFor l e (move.Names v ks) = refl
  loop_moves IsStart l e (move.Names v ks) = refl
  loop_moves IsTest l e (move.Names v ks) = refl
  loop_moves IsUpdate l e (move.Names v ks) = refl
  loop_moves k l e m = refl

  -- what ends a node is the same of any row
  pub ended : (r : StmtRow) (e : Evaluation) (m : StmtMove) (g : Progress) → ended_as m ≡ Some g
      → progress_of a c r e m ≡ g
  ended r e move.Finished g is = cc
  ended r e (move.Value v) g is = cc
  ended r e (move.Abrupt k) g is = cc
  ended r e m g is = cc

case_phase : (s : SwitchParts) (i : ℕ) (p : StmtPhase)
    → at_phase (code.Case s i) p ≡ at_phase (code.Switch s) p
case_phase s i phase.Begun = refl
case_phase s i p = refl

pub case_moves : (a : Arena) (c : Context) (s : SwitchParts) (i : ℕ) (e : Evaluation) (m : StmtMove)
    → progress_of a c (code.Case s i) e m ≡ progress_of a c (code.Switch s) e m
case_moves a c s i e (move.GoesOn p) =
    ap (λ r. GoesOn (row_as a c r) e.done (operand_trees a c e.todo)) (case_phase s i p)
case_moves a c s i e m = refl

-- what touches no world is control alone
module _ {H : Type 0} (O : OwnProperties H) (s : Option ScopeId) (w : World) (h : H) (a : Arena)
    (c : Context) where
  pub control_made : (r : StmtRow) (vs : List Value) → touches r ≡ false
      → made (control_row (row_as a c r) vs) w h ≡ made_stmt O s w h (row_as a c r) vs
  control_made (code.Var ds i) vs e = cc
  control_made (code.ForIn f) vs e = cc
  control_made (code.ForInNames f v ks i) vs e = cc
  control_made r vs e = refl

  var_met : (ds : List Declarator) (k : Completion)
      → made (control_meets (var_as a ds) k) w h ≡ met_stmt O s w h (var_as a ds) k
  var_met [] k = refl
  var_met (d ∷ ds) k = refl

  pub control_met : (r : StmtRow) (k : Completion) → meeting_touches r ≡ false
      → made (control_meets (row_as a c r) k) w h ≡ met_stmt O s w h (row_as a c r) k
  control_met (code.Var ds i) k e = var_met (drop i ds.now) k
  control_met (code.ForInNames f v ks i) k e = cc
  control_met (code.Try g) k e = cc
  control_met r k e = refl

-- what is there of some and others
pub front_there : (w : World) (xs ys : List Value) → AreThere w (xs ++ ys) → AreThere w xs
front_there w [] ys t = tt
front_there w (x ∷ xs) ys t = (t.0, front_there w xs ys t.1)

pub back_there : (w : World) (xs ys : List Value) → AreThere w (xs ++ ys) → AreThere w ys
back_there w [] ys t = t
back_there w (x ∷ xs) ys t = back_there w xs ys t.1

-- what holds of an answer for each context holds of it for all
pub within_ok : {X E C : Type 0} (r : Result X E) (Q : C → Type 0) (P : C → X → Type 0)
    → ((c : C) → Q c → IfOk r (P c)) → IfOk r (λ m. (c : C) → Q c → P c m)
within_ok (Ok x) Q P f = f
within_ok (Err e) Q P f = tt
