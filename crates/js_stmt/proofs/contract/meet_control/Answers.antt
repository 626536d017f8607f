use Rattle.std.proofs.Common.{◌≡◌, IfOk, subst, sym}
use Rattle.std.proofs.lemmas.Result.{IfOk-weaker}
use Rattle.js_term.specs.declared.context.Context.{Context}
use Rattle.js_stmt.specs.CodeRows.{progress_of, row_as}
use Rattle.js_stmt.specs.Make.{control_meets}
use Rattle.js_stmt.specs.Parts.{IsHeld, row_parts}
use Rattle.js_stmt.specs.declared.row.StmtRow.{StmtRow}
use Rattle.js_stmt.specs.declared.row.StmtRow.TheVariants as code
use Rattle.js_stmt.proofs.contract.meet_control.Goals as goal

pub returns-in-Catch : goal.returns-in-Catch
returns-in-Catch c =
    let a = c.args.script.now in
    let P : StmtRow → Type 0 =
    λ r. IfOk c.into_finally.result (λ m. (k : Context) → IsHeld a (row_parts r)
    → progress_of a k r c.into_finally.new.operands m
    ≡ control_meets (row_as a k r) c.args.completion) in
    subst P (sym c.in-Catch.is)
    (IfOk-weaker c.into_finally.result _ _ (λ m makes. λ k h. makes k h)
    (c.into_finally.ensures a (code.Catch c.in-Catch.field-0 c.in-Catch.guarded)))
