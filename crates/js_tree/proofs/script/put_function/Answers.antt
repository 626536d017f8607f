use Rattle.js_tree.proofs.Index.{function_put}
use Rattle.js_tree.proofs.script.put_function.Goals as goal

pub returns-clause-ok : goal.returns-clause-ok
returns-clause-ok c = function_put c.args.unit c.args.id c.args.index.now c.insert.new.self c.in_ok-insert.ensures.updates.0
