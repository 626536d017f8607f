-- No declarator before has an initialiser.
use Rattle.std.proofs.Common.{◌≡◌, drop}
use Rattle.js_stmt.specs.CodeRows.{initialised_from}
use Rattle.js_stmt.proofs.variables.first_initialised.Given as goal

abbrev pub invariant-loop-at : goal.invariant-loop-at
invariant-loop-at l =
    initialised_from l.from (drop l.from l.declarators)
    ≡ initialised_from l.at (drop l.at l.declarators)
