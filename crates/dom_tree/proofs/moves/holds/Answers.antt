use Rattle.std.proofs.Common.{sym, ◌∙◌}
use Rattle.dom_tree.proofs.Kept.{first_at}
use Rattle.dom_tree.proofs.Found.{none_is, holds_none}
use Rattle.dom_tree.proofs.moves.holds.Goals as goal

pub returns-then-is_none : goal.returns-then-is_none
returns-then-is_none c =
    holds_none c.args.nodes.now c.requires.linked c.args.wanted c.args.node
    (sym (first_at c.args.nodes.now c.args.wanted c.index-nodes-wanted.result c.requires.wanted c.requires.linked) ∙ none_is _ c.is_none.result c.is_none.ensures c.if-is_none.true)
