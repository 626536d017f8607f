use Rattle.js_expr.proofs.Results.{weaker}
use Rattle.js_expr.proofs.reading.read_tokens.Goals as goal

pub returns-clause-answer : goal.returns-clause-answer
returns-clause-answer c = weaker c.end_of.result _ _ (λ a (o, shows, ends). (o, shows, c.an_end_is_the_answer.ensures _ o ends)) c.end_of.ensures
