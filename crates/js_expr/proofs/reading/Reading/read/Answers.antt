use Rattle.js_expr.proofs.Going.{part_on, build_on, leave_on, never_ends, may_build, may_look}
use Rattle.js_expr.proofs.reading.Reading.read.Goals as goal

pub returns-in-Never-clause-goes : goal.returns-in-Never-clause-goes
returns-in-Never-clause-goes c = never_ends c.args.tokens.now c.args.names c.args.self.now c.args.symbol c.in-Never.is

pub part-requires-clause-trees : goal.part-requires-clause-trees
part-requires-clause-trees c = may_look c.args.self.now _ c.requires.goes

pub returns-in-Part-clause-goes : goal.returns-in-Part-clause-goes
returns-in-Part-clause-goes c = part_on c.requires.at c.in-Part.part c.args.symbol c.part.new.self c.in-Part.is c.in_ok-part-in-Part.ensures.rest c.in_ok-part-in-Part.ensures.stack

pub make-requires : goal.make-requires
make-requires c = may_build c.args.self.now c.in-Build.build c.args.symbol c.in-Build.is c.requires.goes

pub returns-in-Build-clause-goes : goal.returns-in-Build-clause-goes
returns-in-Build-clause-goes c = build_on c.requires.at c.in-Build.build c.args.symbol c.make.new.self c.in-Build.is c.in_ok-make-in-Build.ensures.rest c.in_ok-make-in-Build.ensures.trees

pub returns-clause-goes : goal.returns-clause-goes
returns-clause-goes c = leave_on c.requires.at c.in-Leave.field-0 c.args.symbol c.in-Leave.is
