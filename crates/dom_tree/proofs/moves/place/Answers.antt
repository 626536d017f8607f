use Rattle.dom_tree.specs.inner.Kept.{with_place}
use Rattle.dom_tree.proofs.Items.{set_is_changed}
use Rattle.dom_tree.proofs.moves.place.Goals as goal

pub returns : goal.returns
returns c = set_is_changed (with_place c.args.parent c.args.previous c.args.next) c.args.child c.args.nodes.now c.index-nodes-child.result c.requires
