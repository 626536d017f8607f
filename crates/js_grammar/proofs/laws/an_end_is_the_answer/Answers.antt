use Rattle.js_grammar.proofs.Meta.{answer}
use Rattle.js_grammar.proofs.laws.an_end_is_the_answer.Goals as goal

pub returns : goal.returns
returns c = answer
