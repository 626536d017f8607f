use Rattle.js_term.specs.Term.{terms}
use Rattle.js_term.proofs.Readings.{contract-stop}
use Rattle.js_term.proofs.laws.a_waiting_frame_meets_a_completion.Goals as goal

pub returns : goal.returns
returns g c = λ T term x w h r vs todo k. contract-stop T x w h r vs k (terms (term r) todo)
