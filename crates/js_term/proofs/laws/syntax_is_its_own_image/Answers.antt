use Rattle.js_term.proofs.SyntaxImages.{term-plain}
use Rattle.js_term.proofs.laws.syntax_is_its_own_image.Goals as goal

pub returns : goal.returns
returns g c = λ T P I l row same x ls t. term-plain T P I l row same x ls t
