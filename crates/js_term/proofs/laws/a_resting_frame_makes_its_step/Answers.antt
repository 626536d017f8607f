use Rattle.js_term.specs.Term.{terms}
use Rattle.js_term.proofs.Readings.{contract-early, contract-values}
use Rattle.js_term.proofs.laws.a_resting_frame_makes_its_step.Goals as goal

pub returns : goal.returns
returns g c = record {
  rests = λ T term k w h r vs. contract-values T k w h r vs;
  early = λ T term k w h r vs x todo. contract-early T k w h r vs (term r x) (terms (term r) todo);
}
