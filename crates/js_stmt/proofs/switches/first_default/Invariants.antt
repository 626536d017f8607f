-- No clause before is `default`.
use Rattle.std.proofs.Common.{◌≡◌, drop}
use Rattle.js_stmt.specs.CodeRows.{default_from}
use Rattle.js_stmt.proofs.switches.first_default.Given as goal

abbrev pub invariant-loop-at : goal.invariant-loop-at
invariant-loop-at l = default_from 0 l.clauses ≡ default_from l.at (drop l.at l.clauses)
