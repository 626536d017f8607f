use Rattle.js_expr.proofs.Going.{free_on, free_deep, free_inserted}
use Rattle.js_expr.proofs.reading.Reading.free_semicolon.Goals as goal

pub returns-then-not-is_seen-clause-goes : goal.returns-then-not-is_seen-clause-goes
returns-then-not-is_seen-clause-goes c = free_inserted c.requires c.if-not-is_seen.ensures

pub returns-then-not-may_stand-clause-goes : goal.returns-then-not-may_stand-clause-goes
returns-then-not-may_stand-clause-goes c = free_deep c.requires c.if-not-is_seen.ensures c.if-not-may_stand.ensures

pub returns-clause-goes : goal.returns-clause-goes
returns-clause-goes c = free_on c.requires c.if-not-is_seen.ensures c.if-not-may_stand.ensures c.advance.new.self c.advance.ensures.rest
