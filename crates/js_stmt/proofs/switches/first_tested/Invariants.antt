-- No clause before has a test.
use Rattle.std.proofs.Common.{◌≡◌, drop}
use Rattle.js_stmt.specs.CodeRows.{tested_from}
use Rattle.js_stmt.proofs.switches.first_tested.Given as goal

abbrev pub invariant-loop-at : goal.invariant-loop-at
invariant-loop-at l = tested_from l.from (drop l.from l.clauses) ≡ tested_from l.at (drop l.at l.clauses)
