use Rattle.js_expr.proofs.Looking.{holds_none}
use Rattle.js_expr.proofs.trees.Trees.new.Goals as goal

pub returns-clause-trees : goal.returns-clause-trees
returns-clause-trees c = holds_none _ c.new.ensures c.new-2.ensures
