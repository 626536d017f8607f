use Rattle.js_term.proofs.ThreeRows.{finished, met-throw, three_rows-commute}
use Rattle.js_term.proofs.laws.three_rows_are_a_table.Goals as goal

pub returns : goal.returns
returns c = record { finished = finished; met = met-throw; commutes = three_rows-commute }
