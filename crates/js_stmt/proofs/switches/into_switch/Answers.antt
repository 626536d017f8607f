use Rattle.std.proofs.Common.{IfOk, Some, ap, subst, ◌∙◌}
use Rattle.js_tree.specs.Trees.{cases}
use Rattle.js_stmt.specs.CodeRows.{clauses_as, labels_around}
use Rattle.js_stmt.specs.Parts.{Makes}
use Rattle.js_stmt.specs.Switches.{switch_row}
use Rattle.js_stmt.specs.declared.row.StmtRow.TheVariants as code
use Rattle.js_stmt.proofs.switches.into_switch.Goals as goal

pub returns : goal.returns
returns c = λ a.
    let p = c.args.parts in
    subst
    (λ o. IfOk c.into_clause.result
    (λ m. Makes a (cases p.clauses.now) (code.Switch p) c.into_clause.new.operands m
    (switch_row (clauses_as a p.clauses.now) (labels_around a p.labelling) o)))
    (ap Some c.in_ok-value-in-Some.ensures ∙ c.in-Some.ensures) (c.into_clause.ensures a)
