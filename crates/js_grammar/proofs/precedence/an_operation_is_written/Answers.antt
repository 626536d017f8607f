use Rattle.js_grammar.proofs.PrecedenceLaws.{operation_is_written}
use Rattle.js_grammar.proofs.precedence.an_operation_is_written.Goals as goal

pub returns : goal.returns
returns c = operation_is_written
