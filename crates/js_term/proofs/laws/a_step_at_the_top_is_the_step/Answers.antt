use Rattle.js_term.proofs.Readings.{contract-reading}
use Rattle.js_term.proofs.laws.a_step_at_the_top_is_the_step.Goals as goal

pub returns : goal.returns
returns g c = λ T term fs k w h t a e. contract-reading T term fs k w h t a e
