use Rattle.js_tree.proofs.Held.{kept_tree}
use Rattle.js_tree.proofs.laws.added_nodes_keep_trees.Goals as goal

pub returns : goal.returns
returns c = kept_tree
