use Rattle.js_grammar.proofs.PrecedenceLaws.{one_operation}
use Rattle.js_grammar.proofs.precedence.an_operation_is_one.Goals as goal

pub returns : goal.returns
returns c = one_operation
