use Rattle.std.proofs.Common.{◌≡◌, ◌∙◌, Some, ap, sym, subst}
use Rattle.js_tree.specs.declared.node.NodeId.{NodeId}
use Rattle.js_tree.specs.declared.node.Declarator.{Declarator}
use Rattle.js_tree.specs.Trees.{entries}
use Rattle.js_pieces.proofs.Entries.{entry_step, named_at}
use Rattle.js_pieces.proofs.pieces.entries_of.Goals as goal

pub entry_of-requires : goal.entry_of-requires
entry_of-requires c =
    subst (λ (z : Declarator). (id : NodeId) × (z.value ≡ Some id)) (sym c.named-item.is)
    (named_at c.args.list.now c.loop-named.named-index c.named-item.result c.requires c.loop-named-test.true)

pub loop-named-preserved : goal.loop-named-preserved
loop-named-preserved c =
    ap entries c.in_ok-push.ensures.ok ∙
    entry_step c.loop-named.all c.args.list.now c.loop-named.named-index c.in_ok-entry_of.field-0 c.named-item.result
    c.named-item.result c.loop-named.invariant c.loop-named-test.true c.named-item.is
    c.in_ok-entry_of.ensures.0 c.in_ok-entry_of.ensures.1
