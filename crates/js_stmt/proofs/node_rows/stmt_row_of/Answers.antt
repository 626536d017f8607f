use Rattle.std.proofs.Common.{◌≤◌, ◌∙◌, arith, length, subst, sym}
use Rattle.js_tree.specs.Trees.{parts}
use Rattle.js_stmt.specs.Lent.{IsLentOf}
use Rattle.js_stmt.specs.declared.row.Labelling.{Labelling}
use Rattle.js_stmt.proofs.NodeParts.{held_within, row_found, within_all}
use Rattle.js_stmt.proofs.node_rows.stmt_row_of.Goals as goal

pub phase_row-requires-clause-within : goal.phase_row-requires-clause-within
phase_row-requires-clause-within c =
    let a = c.args.script.now in
    let there = c.requires in
    let few : c.args.id.number ≤ length a.kept = omega (arith, there) in
    within_all a c.count-nodes.ensures.ordered c.args.id.number (length a.pending) few
    (parts c.node.result.now) c.node.ensures.within

pub phase_row-requires-clause-held : goal.phase_row-requires-clause-held
phase_row-requires-clause-held c =
    let a = c.args.script.now in
    let there = c.requires in
    let few : c.args.id.number ≤ length a.kept = omega (arith, there) in
    held_within a c.count-nodes.ensures.ordered c.args.id.number (length a.pending) few
    (parts c.node.result.now) c.node.ensures.within

pub returns-clause-row : goal.returns-clause-row
returns-clause-row c = λ k.
    c.phase_row.ensures.row k
    ∙ row_found c.args.script.now k c.args.id c.args.outermost c.node.result.now c.args.phase
    c.args.kept.now c.node.ensures.is

pub returns-clause-lent : goal.returns-clause-lent
returns-clause-lent c =
    let labelling : Labelling =
    record { outermost = c.args.outermost; statement = c.args.id } in
    subst (λ n. IsLentOf c.args.script.now labelling n c.args.kept.now c.phase_row.result)
    (sym c.node.ensures.is) c.phase_row.ensures.lent
