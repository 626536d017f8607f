use Rattle.std.proofs.Common.{ap, ◌∙◌}
use Rattle.js_term.specs.ArenaOperands.{as_operands}
use Rattle.js_term.specs.Evaluation.{and_then}
use Rattle.js_stmt.proofs.ClauseLists.{clauses_stepped}
use Rattle.js_stmt.proofs.switches.push_statements.Goals as goal

pub loop-clause-preserved : goal.loop-clause-preserved
loop-clause-preserved c =
    c.in_ok-push_nodes.ensures
    ∙ ap (λ ids. and_then (as_operands ids) c.loop-clause.operands) c.as_slice.ensures
    ∙ clauses_stepped c.args.clauses.now c.loop-clause.clause-index c.clause-item.result
    c.args.operands.now c.loop-clause.operands c.loop-clause-test.true c.clause-item.is
    c.loop-clause.invariant
