use Rattle.std.proofs.Common.{◌≡◌, ℕ, ◌<◌, length, get_or, Option, Some, None, IfSome, sym, ap, subst, ◌∙◌, arith}
use Rattle.dom_tree.specs.Nodes.{parent_of}
use Rattle.dom_tree.specs.Changes.{changed}
use Rattle.dom_tree.specs.inner.Kept.{nodes_of, with_place, preceded, IsLinked}
use Rattle.dom_tree.proofs.Kept.{parent_at, previous_to, next_to, nodes_length}
use Rattle.dom_tree.proofs.Moved.{removed_free}
use Rattle.dom_tree.proofs.Linking.{links_there, taken_so}
use Rattle.dom_tree.proofs.moves.remove_child.Goals as goal

pub follow-requires-clause-parent : goal.follow-requires-clause-parent
follow-requires-clause-parent c =
    let above : parent_of (nodes_of c.args.nodes.now) c.args.child ≡ Some c.in-Some.parent = parent_at c.args.nodes.now c.args.child c.index-nodes-child.result c.requires.child ∙ c.in-Some.is in
    subst (λ n. c.in-Some.parent < n) (nodes_length c.args.nodes.now) (c.requires.linked.fits.parents c.args.child c.in-Some.parent above).0

pub follow-requires-clause-at : goal.follow-requires-clause-at
follow-requires-clause-at c =
    let above : parent_of (nodes_of c.args.nodes.now) c.args.child ≡ Some c.in-Some.parent = parent_at c.args.nodes.now c.args.child c.index-nodes-child.result c.requires.child ∙ c.in-Some.is in
    (links_there (nodes_of c.args.nodes.now) c.args.nodes.now c.requires.linked.fits c.requires.linked.keeps c.args.child c.in-Some.parent c.requires.child above _ _
    (previous_to c.args.nodes.now c.args.child c.index-nodes-child.result c.requires.child c.requires.linked) (next_to c.args.nodes.now c.args.child c.index-nodes-child.result c.requires.child c.requires.linked)).0

pub precede-requires-clause-parent : goal.precede-requires-clause-parent
precede-requires-clause-parent c =
    let above : parent_of (nodes_of c.args.nodes.now) c.args.child ≡ Some c.in-Some.parent = parent_at c.args.nodes.now c.args.child c.index-nodes-child.result c.requires.child ∙ c.in-Some.is in
    let same : length c.args.nodes.now ≡ length c.follow.new.nodes = omega arith in
    subst (λ n. c.in-Some.parent < n) (nodes_length c.args.nodes.now ∙ same) (c.requires.linked.fits.parents c.args.child c.in-Some.parent above).0

pub precede-requires-clause-at : goal.precede-requires-clause-at
precede-requires-clause-at c =
    let above : parent_of (nodes_of c.args.nodes.now) c.args.child ≡ Some c.in-Some.parent = parent_at c.args.nodes.now c.args.child c.index-nodes-child.result c.requires.child ∙ c.in-Some.is in
    let same : length c.args.nodes.now ≡ length c.follow.new.nodes = omega arith in
    let next : Option ℕ = (get_or c.args.nodes.now c.args.child c.index-nodes-child.result).links.next in
    subst (λ n. IfSome next (λ x. x < n)) same
    (links_there (nodes_of c.args.nodes.now) c.args.nodes.now c.requires.linked.fits c.requires.linked.keeps c.args.child c.in-Some.parent c.requires.child above _ _
    (previous_to c.args.nodes.now c.args.child c.index-nodes-child.result c.requires.child c.requires.linked) (next_to c.args.nodes.now c.args.child c.index-nodes-child.result c.requires.child c.requires.linked)).1

pub returns-in-Some-clause-is : goal.returns-in-Some-clause-is
returns-in-Some-clause-is c =
    let above : parent_of (nodes_of c.args.nodes.now) c.args.child ≡ Some c.in-Some.parent = parent_at c.args.nodes.now c.args.child c.index-nodes-child.result c.requires.child ∙ c.in-Some.is in
    ap nodes_of (c.place.ensures ∙ ap (changed (with_place None None None) c.args.child) (c.precede.ensures ∙ ap (preceded c.in-Some.parent _ _) c.follow.ensures))
    ∙ (taken_so (nodes_of c.args.nodes.now) c.args.nodes.now c.requires.linked.fits c.requires.linked.keeps c.args.child c.in-Some.parent c.requires.child above _ _
    (previous_to c.args.nodes.now c.args.child c.index-nodes-child.result c.requires.child c.requires.linked) (next_to c.args.nodes.now c.args.child c.index-nodes-child.result c.requires.child c.requires.linked)).0

pub returns-in-Some-clause-linked : goal.returns-in-Some-clause-linked
returns-in-Some-clause-linked c =
    let above : parent_of (nodes_of c.args.nodes.now) c.args.child ≡ Some c.in-Some.parent = parent_at c.args.nodes.now c.args.child c.index-nodes-child.result c.requires.child ∙ c.in-Some.is in
    subst IsLinked (sym (c.place.ensures ∙ ap (changed (with_place None None None) c.args.child) (c.precede.ensures ∙ ap (preceded c.in-Some.parent _ _) c.follow.ensures)))
    (taken_so (nodes_of c.args.nodes.now) c.args.nodes.now c.requires.linked.fits c.requires.linked.keeps c.args.child c.in-Some.parent c.requires.child above _ _
    (previous_to c.args.nodes.now c.args.child c.index-nodes-child.result c.requires.child c.requires.linked) (next_to c.args.nodes.now c.args.child c.index-nodes-child.result c.requires.child c.requires.linked)).1

pub returns-in-None-clause-is : goal.returns-in-None-clause-is
returns-in-None-clause-is c = removed_free c.args.child (nodes_of c.args.nodes.now) (parent_at c.args.nodes.now c.args.child c.index-nodes-child.result c.requires.child ∙ c.in-None.is)
