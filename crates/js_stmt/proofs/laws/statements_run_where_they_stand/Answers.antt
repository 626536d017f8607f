use Rattle.js_stmt.proofs.Later.{catch_runs, stands}
use Rattle.js_stmt.proofs.laws.statements_run_where_they_stand.Goals as goal

pub returns : goal.returns
returns c = record { stay = stands; catch = catch_runs }
