use Rattle.term_answers.proofs.Commuting.{three-rows-commute}
use Rattle.term_answers.proofs.laws.three_rows_commute.Goals as goal

pub returns : goal.returns
returns c = three-rows-commute
