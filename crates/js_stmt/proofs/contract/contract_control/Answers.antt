use Rattle.std.proofs.Common.{◌≡◌, subst, sym, ◌∙◌, IfOk}
use Rattle.std.proofs.lemmas.Result.{IfOk-weaker}
use Rattle.js_term.specs.declared.context.Context.{Context}
use Rattle.js_stmt.specs.CodeRows.{progress_of, row_as}
use Rattle.js_stmt.specs.Make.{control_row}
use Rattle.js_stmt.specs.Parts.{IsHeld, row_parts}
use Rattle.js_stmt.specs.declared.row.StmtRow.{StmtRow}
use Rattle.js_stmt.specs.declared.row.StmtRow.TheVariants as code
use Rattle.js_stmt.proofs.MoveRows.{case_moves, loop_moves}
use Rattle.js_stmt.proofs.MoveRows.LoopRow.{IsDoWhile, IsFor, IsStart, IsTest, IsUpdate, IsWhile}
use Rattle.js_stmt.proofs.contract.contract_control.Goals as goal

pub returns-in-DoWhile : goal.returns-in-DoWhile
returns-in-DoWhile c = λ a.
    let P : StmtRow → Type 0 =
    λ r. IfOk c.into_body.result (λ m. (k : Context) → IsHeld a (row_parts r)
    → progress_of a k r c.into_body.new.operands m
    ≡ control_row (row_as a k r) c.args.operands.now.done) in
    subst P (sym c.in-DoWhile.is)
    (IfOk-weaker c.into_body.result _ _
    (λ m makes. λ k h. loop_moves a k IsDoWhile c.in-DoWhile.parts c.into_body.new.operands m ∙ makes k h)
    (c.into_body.ensures a))

pub returns-in-While : goal.returns-in-While
returns-in-While c = λ a.
    let P : StmtRow → Type 0 =
    λ r. IfOk c.into_test.result (λ m. (k : Context) → IsHeld a (row_parts r)
    → progress_of a k r c.into_test.new.operands m
    ≡ control_row (row_as a k r) c.args.operands.now.done) in
    subst P (sym c.in-While.is)
    (IfOk-weaker c.into_test.result _ _
    (λ m makes. λ k h. loop_moves a k IsWhile c.in-While.parts c.into_test.new.operands m ∙ makes k h)
    (c.into_test.ensures a))

pub returns-in-For : goal.returns-in-For
returns-in-For c = λ a.
    let P : StmtRow → Type 0 =
    λ r. IfOk c.into_start.result (λ m. (k : Context) → IsHeld a (row_parts r)
    → progress_of a k r c.into_start.new.operands m
    ≡ control_row (row_as a k r) c.args.operands.now.done) in
    subst P (sym c.in-For.is)
    (IfOk-weaker c.into_start.result _ _
    (λ m makes. λ k h. loop_moves a k IsFor c.in-For.parts c.into_start.new.operands m ∙ makes k h)
    (c.into_start.ensures a))

pub returns-in-LoopStart : goal.returns-in-LoopStart
returns-in-LoopStart c = λ a.
    let P : StmtRow → Type 0 =
    λ r. IfOk c.into_test-in-LoopStart.result (λ m. (k : Context) → IsHeld a (row_parts r)
    → progress_of a k r c.into_test-in-LoopStart.new.operands m
    ≡ control_row (row_as a k r) c.args.operands.now.done) in
    subst P (sym c.in-LoopStart.is)
    (IfOk-weaker c.into_test-in-LoopStart.result _ _
    (λ m makes. λ k h. loop_moves a k IsStart c.in-LoopStart.parts c.into_test-in-LoopStart.new.operands m ∙ makes k h)
    (c.into_test-in-LoopStart.ensures a))

pub returns-in-LoopTest : goal.returns-in-LoopTest
returns-in-LoopTest c = λ a.
    let P : StmtRow → Type 0 =
    λ r. IfOk c.after_test.result (λ m. (k : Context) → IsHeld a (row_parts r)
    → progress_of a k r c.after_test.new.operands m
    ≡ control_row (row_as a k r) c.args.operands.now.done) in
    subst P (sym c.in-LoopTest.is)
    (IfOk-weaker c.after_test.result _ _
    (λ m makes. λ k h. loop_moves a k IsTest c.in-LoopTest.parts c.after_test.new.operands m ∙ makes k h)
    (c.after_test.ensures a))

pub returns-in-LoopUpdate : goal.returns-in-LoopUpdate
returns-in-LoopUpdate c = λ a.
    let P : StmtRow → Type 0 =
    λ r. IfOk c.into_test-in-LoopUpdate.result (λ m. (k : Context) → IsHeld a (row_parts r)
    → progress_of a k r c.into_test-in-LoopUpdate.new.operands m
    ≡ control_row (row_as a k r) c.args.operands.now.done) in
    subst P (sym c.in-LoopUpdate.is)
    (IfOk-weaker c.into_test-in-LoopUpdate.result _ _
    (λ m makes. λ k h. loop_moves a k IsUpdate c.in-LoopUpdate.parts c.into_test-in-LoopUpdate.new.operands m ∙ makes k h)
    (c.into_test-in-LoopUpdate.ensures a))

pub returns-in-LoopBody : goal.returns-in-LoopBody
returns-in-LoopBody c = λ a.
    let P : StmtRow → Type 0 =
    λ r. IfOk c.into_update.result (λ m. (k : Context) → IsHeld a (row_parts r)
    → progress_of a k r c.into_update.new.operands m
    ≡ control_row (row_as a k r) c.args.operands.now.done) in
    subst P (sym c.in-LoopBody.is)
    (IfOk-weaker c.into_update.result _ _
    (λ m makes. λ k h. makes k h)
    (c.into_update.ensures a))

pub returns-in-Switch : goal.returns-in-Switch
returns-in-Switch c = λ a.
    let P : StmtRow → Type 0 =
    λ r. IfOk c.into_switch.result (λ m. (k : Context) → IsHeld a (row_parts r)
    → progress_of a k r c.into_switch.new.operands m
    ≡ control_row (row_as a k r) c.args.operands.now.done) in
    subst P (sym c.in-Switch.is)
    (IfOk-weaker c.into_switch.result _ _
    (λ m makes. λ k h. makes k h)
    (c.into_switch.ensures a))

pub returns-in-Case : goal.returns-in-Case
returns-in-Case c = λ a.
    let P : StmtRow → Type 0 =
    λ r. IfOk c.after_case.result (λ m. (k : Context) → IsHeld a (row_parts r)
    → progress_of a k r c.after_case.new.operands m
    ≡ control_row (row_as a k r) c.args.operands.now.done) in
    subst P (sym c.in-Case.is)
    (IfOk-weaker c.after_case.result _ _
    (λ m makes. λ k h. case_moves a k c.in-Case.parts c.in-Case.at c.after_case.new.operands m ∙ makes k h)
    (c.after_case.ensures a))

pub returns-in-Try : goal.returns-in-Try
returns-in-Try c = λ a.
    let P : StmtRow → Type 0 =
    λ r. IfOk c.into_finally.result (λ m. (k : Context) → IsHeld a (row_parts r)
    → progress_of a k r c.into_finally.new.operands m
    ≡ control_row (row_as a k r) c.args.operands.now.done) in
    subst P (sym c.in-Try.is)
    (IfOk-weaker c.into_finally.result _ _
    (λ m makes. λ k h. makes k h.1.0)
    (c.into_finally.ensures a (code.Try c.in-Try.guarded)))

pub returns-in-Catch : goal.returns-in-Catch
returns-in-Catch c = λ a.
    let P : StmtRow → Type 0 =
    λ r. IfOk c.into_finally-in-Catch.result (λ m. (k : Context) → IsHeld a (row_parts r)
    → progress_of a k r c.into_finally-in-Catch.new.operands m
    ≡ control_row (row_as a k r) c.args.operands.now.done) in
    subst P (sym c.in-Catch.is)
    (IfOk-weaker c.into_finally-in-Catch.result _ _
    (λ m makes. λ k h. makes k h)
    (c.into_finally-in-Catch.ensures a (code.Catch c.in-Catch.field-0 c.in-Catch.guarded)))

pub returns-in-If : goal.returns-in-If
returns-in-If c = λ a.
    let P : StmtRow → Type 0 =
    λ r. (k : Context) → IsHeld a (row_parts r)
    → progress_of a k r c.args.operands.now c.chosen.result
    ≡ control_row (row_as a k r) c.args.operands.now.done in
    subst P (sym c.in-If.is)
    (λ k h. c.chosen.ensures a (code.If c.in-If.then c.in-If.otherwise) k h)
