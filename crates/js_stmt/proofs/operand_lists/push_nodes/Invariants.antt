-- What was passed stands behind the others.
use Rattle.std.proofs.Common.{◌≡◌, take}
use Rattle.js_term.specs.ArenaOperands.{as_operands}
use Rattle.js_term.specs.Evaluation.{and_then}
use Rattle.js_stmt.proofs.operand_lists.push_nodes.Given as goal

abbrev pub invariant-loop-id : goal.invariant-loop-id
invariant-loop-id l = l.operands ≡ and_then (as_operands (take l.id-index l.ids)) l.fn.operands
