use Rattle.js_expr.proofs.Going.{word_refused, word_deep, word_on}
use Rattle.js_expr.proofs.reading.Reading.word.Goals as goal

pub returns-then-not-is_seen-clause-goes : goal.returns-then-not-is_seen-clause-goes
returns-then-not-is_seen-clause-goes c = word_refused c.requires c.args.word c.if-not-is_seen.ensures

pub returns-then-not-may_stand-clause-goes : goal.returns-then-not-may_stand-clause-goes
returns-then-not-may_stand-clause-goes c = word_deep c.requires c.args.word c.if-not-is_seen.ensures c.if-not-may_stand.ensures

pub returns-clause-goes : goal.returns-clause-goes
returns-clause-goes c = word_on c.requires c.args.word c.if-not-is_seen.ensures c.if-not-may_stand.ensures c.advance.new.self c.advance.ensures.rest
