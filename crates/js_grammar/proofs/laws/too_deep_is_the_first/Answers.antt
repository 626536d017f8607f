use Rattle.js_grammar.proofs.One.{first_too_deep}
use Rattle.js_grammar.proofs.laws.too_deep_is_the_first.Goals as goal

pub returns : goal.returns
returns c = first_too_deep
