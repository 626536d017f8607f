use Rattle.std.proofs.Common.{IfOk, subst, sym, ◌∙◌}
use Rattle.js_stmt.specs.CodeRows.{loop_as}
use Rattle.js_stmt.specs.Loops.{holds, into_body}
use Rattle.js_stmt.specs.Made.Progress.{Finishes}
use Rattle.js_stmt.specs.Parts.{Makes, loop_parts}
use Rattle.js_stmt.specs.Steps.{only}
use Rattle.js_stmt.specs.declared.row.StmtRow.TheVariants as code
use Rattle.js_stmt.proofs.Lists.{chosen}
use Rattle.js_stmt.proofs.loops.after_test.Goals as goal

pub returns-then-holds : goal.returns-then-holds
returns-then-holds c = λ a.
    let p = c.args.parts in
    subst
    (λ g. IfOk c.into_body.result
    (λ m. Makes a (loop_parts p) (code.LoopBody p) c.into_body.new.operands m g))
    (chosen (holds (only c.args.operands.now.done)) (into_body (loop_as a p)) Finishes
    (sym c.holds.ensures ∙ c.if-holds.true))
    (c.into_body.ensures a)
