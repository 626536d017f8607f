use Rattle.js_tree.proofs.Computed.{part_computed}
use Rattle.js_tree.proofs.laws.a_tree_is_there.Goals as goal

pub returns : goal.returns
returns c = part_computed
