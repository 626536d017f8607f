use Rattle.js_term.proofs.Moves.{move-lighter, move-same}
use Rattle.js_term.proofs.laws.a_free_move_changes_no_term.Goals as goal

pub returns : goal.returns
returns g c = record { same = move-same; lighter = λ S no_step l. move-lighter S no_step l }
