use Rattle.std.proofs.Common.{◌∙◌, ap, get_or, refl}
use Rattle.js_tree.specs.declared.node.NodeId.{NodeId}
use Rattle.js_tree.specs.Trees.{elements}
use Rattle.js_pieces.proofs.Entries.{element_step}
use Rattle.js_pieces.proofs.pieces.elements_of.Goals as goal

pub loop-id-preserved : goal.loop-id-preserved
loop-id-preserved c =
    let d : NodeId = record { number = 0 } in
    ap elements c.in_ok-push.ensures.ok ∙
    element_step c.loop-id.all c.args.ids.now c.loop-id.id-index (get_or c.args.ids.now c.loop-id.id-index d) d
    c.loop-id.invariant c.loop-id-test.true refl
