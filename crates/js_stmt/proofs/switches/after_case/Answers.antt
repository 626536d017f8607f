use Rattle.std.proofs.Common.{IfOk, Some, ap, drop, subst, sym, ◌∙◌}
use Rattle.js_tree.specs.Trees.{cases}
use Rattle.js_stmt.specs.CodeRows.{clauses_as, labels_around}
use Rattle.js_stmt.specs.Parts.{Makes}
use Rattle.js_stmt.specs.Steps.{pair}
use Rattle.js_stmt.specs.declared.row.StmtRow.TheVariants as code
use Rattle.js_stmt.proofs.ClauseLists.{case_other, case_same}
use Rattle.js_stmt.proofs.switches.after_case.Goals as goal

pub returns-then-is_same : goal.returns-then-is_same
returns-then-is_same c = λ a.
    let p = c.args.parts in
    let left = clauses_as a (drop c.args.at p.clauses.now) in
    subst
    (λ g. IfOk c.into_statements.result
    (λ m. Makes a (cases p.clauses.now) (code.Switch p) c.into_statements.new.operands m g))
    (case_same (clauses_as a p.clauses.now) left (labels_around a p.labelling)
    (pair c.args.operands.now.done) (sym (ap Some c.if-is_same.true) ∙ c.in-Some.ensures))
    (c.into_statements.ensures a)

pub returns-else-is_same : goal.returns-else-is_same
returns-else-is_same c = λ a.
    let p = c.args.parts in
    let left = clauses_as a (drop c.args.at p.clauses.now) in
    let found = case_other (clauses_as a p.clauses.now) left (labels_around a p.labelling)
    c.args.operands.now.done (sym (ap Some c.if-is_same.false) ∙ c.in-Some.ensures) in
    subst
    (λ g. IfOk c.past_case.result
    (λ m. Makes a (cases p.clauses.now) (code.Switch p) c.past_case.new.operands m g))
    found.2 (c.past_case.ensures a found.0 found.1)
