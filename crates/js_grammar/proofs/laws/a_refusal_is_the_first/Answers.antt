use Rattle.js_grammar.proofs.One.{first_refused}
use Rattle.js_grammar.proofs.laws.a_refusal_is_the_first.Goals as goal

pub returns : goal.returns
returns c = first_refused
