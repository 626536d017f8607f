use Rattle.dom_tree.proofs.Neighbours.{walk_ordered}
use Rattle.dom_tree.proofs.laws.walk_is_in_tree_order.Goals as goal

pub returns : goal.returns
returns c = walk_ordered
