-- The statements of the clauses that were passed stand behind the others.
use Rattle.std.proofs.Common.{◌≡◌, take}
use Rattle.js_term.specs.ArenaOperands.{as_operands}
use Rattle.js_term.specs.Evaluation.{and_then}
use Rattle.js_stmt.specs.CodeRows.{clause_nodes}
use Rattle.js_stmt.proofs.switches.push_statements.Given as goal

abbrev pub invariant-loop-clause : goal.invariant-loop-clause
invariant-loop-clause l =
    l.operands ≡ and_then (as_operands (clause_nodes (take l.clause-index l.clauses))) l.fn.operands
