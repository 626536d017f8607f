use Rattle.std.proofs.Common.{IfOk, subst}
use Rattle.js_stmt.specs.CodeRows.{loop_as}
use Rattle.js_stmt.specs.Loops.{at_test}
use Rattle.js_stmt.specs.Parts.{Makes, loop_parts}
use Rattle.js_stmt.specs.declared.row.StmtRow.TheVariants as code
use Rattle.js_stmt.proofs.Entries.{passed}
use Rattle.js_stmt.proofs.loops.into_test.Goals as goal

pub returns-in-None : goal.returns-in-None
returns-in-None c = λ a.
    let p = c.args.parts in
    subst
    (λ g. IfOk c.into_body.result
    (λ m. Makes a (loop_parts p) (code.LoopBody p) c.into_body.new.operands m g))
    (passed a (at_test (loop_as a p)) p.test c.in-None.is) (c.into_body.ensures a)
