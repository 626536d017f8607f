use Rattle.std.proofs.Common.{sym, ◌∙◌}
use Rattle.js_term.proofs.Pushes.{entries_stepped, none_more}
use Rattle.js_term.proofs.begun.push_entries.Goals as goal

pub loop-entry-init : goal.loop-entry-init
loop-entry-init c = sym (none_more c.args.operands.now)

pub loop-entry-preserved : goal.loop-entry-preserved
loop-entry-preserved c =
    c.in_ok-push_node.ensures
    ∙ entries_stepped c.args.entries.now c.loop-entry.entry-index c.entry-item.result c.args.operands.now c.loop-entry.operands c.loop-entry-test.true c.entry-item.is c.loop-entry.invariant
