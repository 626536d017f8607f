use Rattle.js_control.proofs.WaitsOver.{rows-compute, rows-wait}
use Rattle.js_control.proofs.laws.rows_stay_over_their_first_operands.Goals as goal

pub returns : goal.returns
returns g c = record { waits = rows-wait; computes = rows-compute }
