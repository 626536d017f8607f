use Rattle.js_grammar.proofs.Total.{answered}
use Rattle.js_grammar.proofs.laws.each_text_has_one_answer.Goals as goal

pub returns : goal.returns
returns c = answered
