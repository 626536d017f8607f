use Rattle.std.proofs.Common.{Some, ap, subst, sym, ◌∙◌}
use Rattle.js_tree.specs.Trees.{declarators, parts}
use Rattle.js_tree.specs.declared.node.Node.TheVariants as node
use Rattle.js_stmt.specs.CodeRows.{labels_around}
use Rattle.js_stmt.specs.Lent.{IsLentOf}
use Rattle.js_stmt.specs.NodeRows.{begun_row}
use Rattle.js_stmt.specs.Parts.{IsHeld}
use Rattle.js_stmt.proofs.node_rows.begun_row.Goals as goal

pub returns-in-Var-clause-held : goal.returns-in-Var-clause-held
returns-in-Var-clause-held c =
    let a = c.args.script.now in
    let held = subst (λ n. IsHeld a (parts n)) c.in-Var.is c.requires.held in
    c.var_row.ensures.held a
    (subst (λ ds. IsHeld a (declarators ds)) (sym c.as_slice.ensures) held.0)

pub returns-in-ForIn-clause-row : goal.returns-in-ForIn-clause-row
returns-in-ForIn-clause-row c = λ k.
    let a = c.args.script.now in
    c.for_in_row.ensures.row k
    ∙ sym (ap (begun_row a (labels_around a c.args.labelling)) c.in-ForIn.is)

pub returns-in-Var-clause-lent : goal.returns-in-Var-clause-lent
returns-in-Var-clause-lent c = λ k.
    let a = c.args.script.now in
    let here = ap (λ ds. Some (node.Var ds)) c.as_slice.ensures ∙ sym (ap Some c.in-Var.is) in
    subst (λ n. IsLentOf a c.args.labelling n k c.var_row.result) here
    (c.var_row.ensures.lent a c.args.labelling k)

pub returns-in-ForIn-clause-lent : goal.returns-in-ForIn-clause-lent
returns-in-ForIn-clause-lent c = λ k.
    let a = c.args.script.now in
    subst (λ n. IsLentOf a c.args.labelling (Some n) k c.for_in_row.result) (sym c.in-ForIn.is)
    (c.for_in_row.ensures.lent c.in-ForIn.object k)
