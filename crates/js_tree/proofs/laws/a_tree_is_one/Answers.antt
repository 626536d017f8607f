use Rattle.js_tree.proofs.Held.{one_tree}
use Rattle.js_tree.proofs.laws.a_tree_is_one.Goals as goal

pub returns : goal.returns
returns c = one_tree
