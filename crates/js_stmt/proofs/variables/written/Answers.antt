use Rattle.std.proofs.Common.{IfOk, ◌+◌, ap, drop, subst, sym}
use Rattle.js_tree.specs.Trees.{declarators}
use Rattle.js_stmt.specs.CodeRows.{after_answer, declarators_as}
use Rattle.js_stmt.specs.Parts.{Makes}
use Rattle.js_stmt.specs.Variables.{first_initialised, next_declared}
use Rattle.js_stmt.specs.declared.row.StmtRow.TheVariants as code
use Rattle.js_stmt.proofs.variables.written.Goals as goal

pub returns-in-Returns : goal.returns-in-Returns
returns-in-Returns c = λ a.
    let ds = c.args.declarators.now in
    subst
    (λ g. IfOk c.into_next.result
    (λ m. Makes a (declarators ds) (code.Var c.args.declarators c.args.place)
    c.into_next.new.operands m g))
    (ap
    (after_answer
    (next_declared (first_initialised (declarators_as a (drop (c.args.place + 1) ds)))))
    (sym c.in-Returns.is))
    (c.into_next.ensures a)
