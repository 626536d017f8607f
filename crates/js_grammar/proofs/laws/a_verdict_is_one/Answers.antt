use Rattle.js_grammar.proofs.Verdicts.{one_verdict}
use Rattle.js_grammar.proofs.laws.a_verdict_is_one.Goals as goal

pub returns : goal.returns
returns c = one_verdict c.tokens_are_one.ensures
