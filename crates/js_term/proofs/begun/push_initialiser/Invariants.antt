-- None of those that were passed has an initialiser.
use Rattle.std.proofs.Common.{◌≡◌, drop}
use Rattle.js_term.specs.ArenaOperands.{first_value}
use Rattle.js_term.proofs.begun.push_initialiser.Given as goal

abbrev pub invariant-loop-declarator : goal.invariant-loop-declarator
invariant-loop-declarator l = record {
  same : l.operands ≡ l.fn.operands;
  passed : first_value l.list ≡ first_value (drop l.declarator-index l.list);
}
