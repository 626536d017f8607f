use Rattle.std.proofs.Common.{◌<◌, length, sym, ap, subst, ◌∙◌}
use Rattle.dom_tree.specs.Nodes.{parent_of, Fits}
use Rattle.dom_tree.specs.Changes.{at_end, appended}
use Rattle.dom_tree.specs.inner.Kept.{nodes_of}
use Rattle.dom_tree.proofs.Kept.{nodes_length}
use Rattle.dom_tree.proofs.Moved.{removed_here, appended_fits, placed_gone}
use Rattle.dom_tree.proofs.moves.append_child.Goals as goal

pub link_last-requires-clause-free : goal.link_last-requires-clause-free
link_last-requires-clause-free c =
    ap (λ l. parent_of l c.args.child) c.remove_child.ensures.is
    ∙ removed_here (nodes_of c.args.nodes.now) c.requires.linked.fits c.args.child (subst (λ n. c.args.child < n) (sym (nodes_length c.args.nodes.now)) c.requires.child)

pub link_last-requires-clause-fits : goal.link_last-requires-clause-fits
link_last-requires-clause-fits c =
    let parent_there = subst (λ n. c.args.parent < n) (sym (nodes_length c.args.nodes.now)) c.requires.parent in
    let child_there = subst (λ n. c.args.child < n) (sym (nodes_length c.args.nodes.now)) c.requires.child in
    subst Fits
    (sym (ap (appended c.args.parent c.args.child) c.remove_child.ensures.is
    ∙ placed_gone (nodes_of c.args.nodes.now) c.requires.linked.fits c.args.parent c.args.child parent_there child_there c.requires.valid (at_end c.args.child)))
    (appended_fits (nodes_of c.args.nodes.now) c.requires.linked.fits c.args.parent c.args.child parent_there child_there c.requires.valid)

pub returns-clause-is : goal.returns-clause-is
returns-clause-is c =
    let parent_there = subst (λ n. c.args.parent < n) (sym (nodes_length c.args.nodes.now)) c.requires.parent in
    let child_there = subst (λ n. c.args.child < n) (sym (nodes_length c.args.nodes.now)) c.requires.child in
    c.link_last.ensures.is ∙ ap (appended c.args.parent c.args.child) c.remove_child.ensures.is
    ∙ placed_gone (nodes_of c.args.nodes.now) c.requires.linked.fits c.args.parent c.args.child parent_there child_there c.requires.valid (at_end c.args.child)
