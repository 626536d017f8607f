use Rattle.std.proofs.Common.{drop}
use Rattle.js_stmt.specs.CodeRows.{labels_around}
use Rattle.js_stmt.proofs.ClauseLists.{held_drop, statements_entered}
use Rattle.js_stmt.proofs.switches.into_statements.Goals as goal

pub returns : goal.returns
returns c = λ a k h.
    let cs = c.args.parts.clauses.now in
    statements_entered a k (labels_around a c.args.parts.labelling) (drop c.args.from cs)
    c.restart_from.new.operands c.in_ok-restart_from.ensures (held_drop a cs c.args.from h)
