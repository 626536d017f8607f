use Rattle.std.proofs.Common.{length, reverse}
use Rattle.std.proofs.lemmas.Result.{on_ok_weaker}
use Rattle.js_tree.proofs.Walks.{node_within}
use Rattle.js_tree.proofs.script.Script.look_at.Goals as goal

pub returns-in-At-clause-within : goal.returns-in-At-clause-within
returns-in-At-clause-within c =
    on_ok_weaker c.push_inside.result
    (node_within c.args.wanted (length c.args.self.now.kept) (length c.args.self.now.pending) c.args.item c.in-At.id c.in-At.is (reverse c.args.stack.now.items) c.requires c.node.result.now c.node.ensures.within (reverse c.push_inside.new.stack.items))
    c.push_inside.ensures
