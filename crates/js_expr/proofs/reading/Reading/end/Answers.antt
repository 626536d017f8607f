use Rattle.js_expr.proofs.Going.{end_refused, end_accepted, may_finish}
use Rattle.js_expr.proofs.reading.Reading.end.Goals as goal

pub returns-then-not-is_end-clause-goes : goal.returns-then-not-is_end-clause-goes
returns-then-not-is_end-clause-goes c = end_refused c.requires.at c.if-not-is_end.ensures

pub finish-requires : goal.finish-requires
finish-requires c = may_finish c.args.self.now _ c.requires.goes

pub returns-clause-goes : goal.returns-clause-goes
returns-clause-goes c = end_accepted c.requires.at (record c.args.self.now { trees = c.finish.new.self }) c.if-not-is_end.ensures c.in_ok-finish.ensures
