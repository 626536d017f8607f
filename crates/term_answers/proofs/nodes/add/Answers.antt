use Rattle.std.proofs.Common.{length, subst}
use Rattle.js_tree.specs.Arena.{IsWithin}
use Rattle.js_tree.specs.Trees.{parts}
use Rattle.term_answers.proofs.nodes.add.Goals as goal

pub add-requires : goal.add-requires
add-requires c =
    let pending = length c.args.script.now.pending in
    subst (λ n. IsWithin n pending (parts c.in_ok-node.node)) c.count-count.ensures.is (c.in_ok-node.ensures pending)
