use Rattle.std.proofs.Common.{◌≢◌, ◌<◌, length, sym, ap, subst, ◌∙◌}
use Rattle.dom_tree.specs.Nodes.{parent_of, is_one, is_child, Fits}
use Rattle.dom_tree.specs.Changes.{put_before, placed}
use Rattle.dom_tree.specs.inner.Kept.{nodes_of}
use Rattle.dom_tree.proofs.Kept.{nodes_length}
use Rattle.dom_tree.proofs.Moved.{removed_here, removed_others, inserted_fits, placed_gone}
use Rattle.dom_tree.proofs.moves.insert_child.Goals as goal

pub link_before-requires-clause-free : goal.link_before-requires-clause-free
link_before-requires-clause-free c =
    ap (λ l. parent_of l c.args.child) c.remove_child.ensures.is
    ∙ removed_here (nodes_of c.args.nodes.now) c.requires.linked.fits c.args.child (subst (λ n. c.args.child < n) (sym (nodes_length c.args.nodes.now)) c.requires.child)

pub link_before-requires-clause-before : goal.link_before-requires-clause-before
link_before-requires-clause-before c =
    ap (λ l. is_child l c.args.parent c.args.before) c.remove_child.ensures.is
    ∙ ap (is_one c.args.parent) (removed_others (nodes_of c.args.nodes.now) c.requires.linked.fits c.args.child (subst (λ n. c.args.child < n) (sym (nodes_length c.args.nodes.now)) c.requires.child) c.args.before (λ is. c.requires.apart (sym is)))
    ∙ c.requires.before

pub link_before-requires-clause-fits : goal.link_before-requires-clause-fits
link_before-requires-clause-fits c =
    let parent_there = subst (λ n. c.args.parent < n) (sym (nodes_length c.args.nodes.now)) c.requires.parent in
    let child_there = subst (λ n. c.args.child < n) (sym (nodes_length c.args.nodes.now)) c.requires.child in
    subst Fits
    (sym (ap (placed (put_before c.args.before c.args.child) c.args.parent c.args.child) c.remove_child.ensures.is
    ∙ placed_gone (nodes_of c.args.nodes.now) c.requires.linked.fits c.args.parent c.args.child parent_there child_there c.requires.valid (put_before c.args.before c.args.child)))
    (inserted_fits (nodes_of c.args.nodes.now) c.requires.linked.fits c.args.parent c.args.child parent_there child_there c.requires.valid c.args.before c.requires.before c.requires.apart)

pub returns-clause-is : goal.returns-clause-is
returns-clause-is c =
    let parent_there = subst (λ n. c.args.parent < n) (sym (nodes_length c.args.nodes.now)) c.requires.parent in
    let child_there = subst (λ n. c.args.child < n) (sym (nodes_length c.args.nodes.now)) c.requires.child in
    c.link_before.ensures.is ∙ ap (placed (put_before c.args.before c.args.child) c.args.parent c.args.child) c.remove_child.ensures.is
    ∙ placed_gone (nodes_of c.args.nodes.now) c.requires.linked.fits c.args.parent c.args.child parent_there child_there c.requires.valid (put_before c.args.before c.args.child)
