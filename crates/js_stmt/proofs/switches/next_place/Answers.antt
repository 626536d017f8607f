use Rattle.js_stmt.proofs.ClauseLists.{behind_more}
use Rattle.js_stmt.proofs.switches.next_place.Goals as goal

pub returns-then-at-clauses : goal.returns-then-at-clauses
returns-then-at-clauses c = λ a. behind_more a c.args.clauses.now c.args.at
