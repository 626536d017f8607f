use Rattle.js_term.proofs.Dues.{contract-comes}
use Rattle.js_term.proofs.laws.a_contraction_is_of_what_is_due.Goals as goal

pub returns : goal.returns
returns g c = λ T free at w h t. contract-comes T free at w h t
