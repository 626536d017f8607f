use Rattle.js_grammar.proofs.One.{one_answer}
use Rattle.js_grammar.proofs.laws.an_answer_is_one.Goals as goal

pub returns : goal.returns
returns c = one_answer
