use Rattle.js_term.proofs.Simulation.{simulation}
use Rattle.js_term.proofs.laws.contraction_commutes_with_the_image.Goals as goal

pub returns : goal.returns
returns g c = simulation
