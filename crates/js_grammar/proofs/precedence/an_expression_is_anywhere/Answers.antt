use Rattle.js_grammar.proofs.PrecedenceLaws.{expression_is_anywhere}
use Rattle.js_grammar.proofs.precedence.an_expression_is_anywhere.Goals as goal

pub returns : goal.returns
returns c = expression_is_anywhere
