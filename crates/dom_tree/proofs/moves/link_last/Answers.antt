use Rattle.std.proofs.Common.{Some, None, sym, ap, subst, ◌∙◌}
use Rattle.dom_tree.specs.Changes.{changed}
use Rattle.dom_tree.specs.inner.Kept.{nodes_of, with_place, preceded, IsLinked}
use Rattle.dom_tree.proofs.Kept.{last_at}
use Rattle.dom_tree.proofs.Linking.{put_last, last_there}
use Rattle.dom_tree.proofs.moves.link_last.Goals as goal

pub follow-requires-clause-at : goal.follow-requires-clause-at
follow-requires-clause-at c =
    last_there (nodes_of c.args.nodes.now) c.args.nodes.now c.requires.linked.fits c.requires.linked.keeps c.args.child c.args.parent c.requires.child c.requires.parent c.requires.free _
    (last_at c.args.nodes.now c.args.parent c.index-nodes-parent.result c.requires.parent c.requires.linked)

pub returns-clause-is : goal.returns-clause-is
returns-clause-is c =
    ap nodes_of (c.place.ensures ∙ ap (changed (with_place (Some c.args.parent) _ None) c.args.child) (c.precede.ensures ∙ ap (preceded c.args.parent None (Some c.args.child)) c.follow.ensures))
    ∙ (put_last (nodes_of c.args.nodes.now) c.args.nodes.now c.requires.linked.fits c.requires.linked.keeps c.args.child c.args.parent c.requires.child c.requires.parent c.requires.free c.requires.fits _
    (last_at c.args.nodes.now c.args.parent c.index-nodes-parent.result c.requires.parent c.requires.linked)).0

pub returns-clause-linked : goal.returns-clause-linked
returns-clause-linked c =
    subst IsLinked
    (sym (c.place.ensures ∙ ap (changed (with_place (Some c.args.parent) _ None) c.args.child) (c.precede.ensures ∙ ap (preceded c.args.parent None (Some c.args.child)) c.follow.ensures)))
    (put_last (nodes_of c.args.nodes.now) c.args.nodes.now c.requires.linked.fits c.requires.linked.keeps c.args.child c.args.parent c.requires.child c.requires.parent c.requires.free c.requires.fits _
    (last_at c.args.nodes.now c.args.parent c.index-nodes-parent.result c.requires.parent c.requires.linked)).1
