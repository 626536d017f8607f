use Rattle.js_grammar.proofs.PrecedenceLaws.{expression_comes_first}
use Rattle.js_grammar.proofs.precedence.an_expression_comes_first.Goals as goal

pub returns : goal.returns
returns c = expression_comes_first
