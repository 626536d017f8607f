use Rattle.std.proofs.Common.{ap, refl, ◌∙◌}
use Rattle.js_stmt.proofs.NodeParts.{begun_at, var_begun}
use Rattle.js_stmt.proofs.node_rows.var_row.Goals as goal

pub returns-in-Some-clause-row : goal.returns-in-Some-clause-row
returns-in-Some-clause-row c = λ a k h.
    let ds = c.args.list.now in
    ap (begun_at a ds) c.in-Some.ensures ∙ var_begun a ds ds 0 refl h

pub returns-in-None-clause-row : goal.returns-in-None-clause-row
returns-in-None-clause-row c = λ a k h.
    let ds = c.args.list.now in
    ap (begun_at a ds) c.in-None.ensures ∙ var_begun a ds ds 0 refl h
