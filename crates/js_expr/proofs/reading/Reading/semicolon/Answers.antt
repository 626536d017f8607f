use Rattle.std.proofs.Common.{sym, ◌∙◌}
use Rattle.js_expr.proofs.Going.{semicolon_on, semicolon_deep, semicolon_inserted, semicolon_missing}
use Rattle.js_expr.proofs.reading.Reading.semicolon.Goals as goal

pub returns-then-not-may_stand-clause-goes : goal.returns-then-not-may_stand-clause-goes
returns-then-not-may_stand-clause-goes c = semicolon_deep c.requires c.if-is_seen.ensures c.if-not-may_stand.ensures

pub returns-then-is_seen-clause-goes : goal.returns-then-is_seen-clause-goes
returns-then-is_seen-clause-goes c = semicolon_on c.requires c.if-is_seen.ensures c.if-not-may_stand.ensures c.advance.new.self c.advance.ensures.rest

pub returns-then-may_insert-clause-goes : goal.returns-then-may_insert-clause-goes
returns-then-may_insert-clause-goes c = semicolon_inserted c.requires c.if-is_seen.ensures (sym c.may_insert.ensures ∙ c.if-may_insert.true)

pub returns-else-may_insert-clause-goes : goal.returns-else-may_insert-clause-goes
returns-else-may_insert-clause-goes c = semicolon_missing c.requires c.if-is_seen.ensures (sym c.may_insert.ensures ∙ c.if-may_insert.false)
