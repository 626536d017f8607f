-- The operands of what was passed stand behind those before.
use Rattle.std.proofs.Common.{◌≡◌, take}
use Rattle.js_term.specs.ArenaOperands.{as_operands, values_of_entries}
use Rattle.js_term.specs.Evaluation.{and_then}
use Rattle.js_term.proofs.begun.push_entries.Given as goal

abbrev pub invariant-loop-entry : goal.invariant-loop-entry
invariant-loop-entry l = l.operands ≡ and_then (as_operands (values_of_entries (take l.entry-index l.entries))) l.fn.operands
