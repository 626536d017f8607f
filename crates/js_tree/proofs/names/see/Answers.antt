use Rattle.js_tree.proofs.Joins.{seen_joined}
use Rattle.js_tree.proofs.names.see.Goals as goal

pub returns-clause-ok : goal.returns-clause-ok
returns-clause-ok c = seen_joined c.args.name c.args.seen.now c.insert.new.self c.in_ok-is_new.ensures.updates.0
