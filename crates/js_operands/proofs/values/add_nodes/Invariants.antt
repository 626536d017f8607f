-- The nodes of what was passed stand behind those before.
use Rattle.std.proofs.Common.{◌≡◌, take}
use Rattle.js_term.specs.ArenaOperands.{as_operands}
use Rattle.js_term.specs.Evaluation.{and_then}
use Rattle.js_operands.proofs.values.add_nodes.Given as goal

abbrev pub invariant-loop-node : goal.invariant-loop-node
invariant-loop-node l = l.operands ≡ and_then (as_operands (take l.node-index l.nodes)) l.fn.operands
