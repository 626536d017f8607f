use Rattle.std.proofs.Common.{◌≡◌, ◌<◌, length, Some, sym, ap, subst, ◌∙◌, arith}
use Rattle.dom_tree.specs.Changes.{changed}
use Rattle.dom_tree.specs.inner.Kept.{nodes_of, with_place, preceded, IsLinked}
use Rattle.dom_tree.proofs.Kept.{previous_to}
use Rattle.dom_tree.proofs.Linking.{put_before_it, before_there, previous_there}
use Rattle.dom_tree.proofs.moves.link_before.Goals as goal

pub bounds-nodes-before : goal.bounds-nodes-before
bounds-nodes-before c =
    before_there (nodes_of c.args.nodes.now) c.args.nodes.now c.requires.linked.fits c.requires.linked.keeps c.args.child c.args.parent c.requires.child c.requires.parent c.requires.free c.args.before c.requires.before

pub follow-requires-clause-at : goal.follow-requires-clause-at
follow-requires-clause-at c =
    let inside = before_there (nodes_of c.args.nodes.now) c.args.nodes.now c.requires.linked.fits c.requires.linked.keeps c.args.child c.args.parent c.requires.child c.requires.parent c.requires.free c.args.before c.requires.before in
    previous_there (nodes_of c.args.nodes.now) c.args.nodes.now c.requires.linked.fits c.requires.linked.keeps c.args.child c.args.parent c.requires.child c.requires.parent c.requires.free c.args.before c.requires.before _
    (previous_to c.args.nodes.now c.args.before c.index-nodes-before.result inside c.requires.linked)

pub precede-requires-clause-at : goal.precede-requires-clause-at
precede-requires-clause-at c =
    let inside = before_there (nodes_of c.args.nodes.now) c.args.nodes.now c.requires.linked.fits c.requires.linked.keeps c.args.child c.args.parent c.requires.child c.requires.parent c.requires.free c.args.before c.requires.before in
    let same : length c.args.nodes.now ≡ length c.follow.new.nodes = omega arith in
    subst (λ n. c.args.before < n) same inside

pub returns-clause-is : goal.returns-clause-is
returns-clause-is c =
    let inside = before_there (nodes_of c.args.nodes.now) c.args.nodes.now c.requires.linked.fits c.requires.linked.keeps c.args.child c.args.parent c.requires.child c.requires.parent c.requires.free c.args.before c.requires.before in
    ap nodes_of
    (c.place.ensures ∙ ap (changed (with_place (Some c.args.parent) _ (Some c.args.before)) c.args.child) (c.precede.ensures ∙ ap (preceded c.args.parent (Some c.args.before) (Some c.args.child)) c.follow.ensures))
    ∙ (put_before_it (nodes_of c.args.nodes.now) c.args.nodes.now c.requires.linked.fits c.requires.linked.keeps c.args.child c.args.parent c.requires.child c.requires.parent c.requires.free c.args.before c.requires.before c.requires.fits _
    (previous_to c.args.nodes.now c.args.before c.index-nodes-before.result inside c.requires.linked)).0

pub returns-clause-linked : goal.returns-clause-linked
returns-clause-linked c =
    let inside = before_there (nodes_of c.args.nodes.now) c.args.nodes.now c.requires.linked.fits c.requires.linked.keeps c.args.child c.args.parent c.requires.child c.requires.parent c.requires.free c.args.before c.requires.before in
    subst IsLinked
    (sym (c.place.ensures ∙ ap (changed (with_place (Some c.args.parent) _ (Some c.args.before)) c.args.child) (c.precede.ensures ∙ ap (preceded c.args.parent (Some c.args.before) (Some c.args.child)) c.follow.ensures)))
    (put_before_it (nodes_of c.args.nodes.now) c.args.nodes.now c.requires.linked.fits c.requires.linked.keeps c.args.child c.args.parent c.requires.child c.requires.parent c.requires.free c.args.before c.requires.before c.requires.fits _
    (previous_to c.args.nodes.now c.args.before c.index-nodes-before.result inside c.requires.linked)).1
