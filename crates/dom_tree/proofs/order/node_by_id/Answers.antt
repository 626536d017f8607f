use Rattle.std.proofs.Common.{◌≡◌, ◌<◌, length, Some, None, refl, rules, sym, ap, subst, ◌∙◌}
use Rattle.dom_tree.specs.Order.{has_id, has_id_in}
use Rattle.dom_tree.specs.declared.parts.NodeData.{NodeData}
use Rattle.dom_tree.specs.inner.Kept.{nodes_of, bare}
use Rattle.dom_tree.proofs.Kept.{node_at, nodes_length}
use Rattle.dom_tree.proofs.Walks.{begun, some_nodes}
use Rattle.dom_tree.proofs.Neighbours.{walk_hit, walk_missed, walk_ended, walk_smaller}
use Rattle.dom_tree.proofs.order.node_by_id.Goals as goal

pub walk-init : goal.walk-init
walk-init c = record {
  there = subst (λ n. 0 < n) (nodes_length c.args.nodes.now) (some_nodes (nodes_of c.args.nodes.now) c.requires.fits);
  same = begun (nodes_of c.args.nodes.now) c.requires.fits c.args.id.now;
}

pub returns-then-has_id : goal.returns-then-has_id
returns-then-has_id c =
    let nodes = nodes_of c.args.nodes.now in
    let has : has_id nodes c.args.id.now c.in-Some.node ≡ c.has_id.result =
    ap (has_id_in c.args.id.now) (node_at c.args.nodes.now c.in-Some.node c.index-nodes-node.result c.in-Some.ensures.there)
    ∙ sym (c.has_id.ensures ∙ ap (λ (n : NodeData). has_id_in c.args.id.now (Some (bare n))) c.index-nodes-node.is) in
    sym (c.walk.invariant.same ∙ walk_hit nodes c.requires.fits (has_id nodes c.args.id.now) c.walk.here (Some c.in-Some.node) c.in-Some.ensures.is c.in-Some.node refl (has ∙ c.if-has_id.true))

pub walk-smaller : goal.walk-smaller
walk-smaller c =
    let nodes = nodes_of c.args.nodes.now in
    walk_smaller nodes c.requires.fits (has_id nodes c.args.id.now) c.walk.here (Some c.in-Some.node) c.in-Some.ensures.is c.in-Some.node refl

pub walk-preserved : goal.walk-preserved
walk-preserved c =
    let nodes = nodes_of c.args.nodes.now in
    let has : has_id nodes c.args.id.now c.in-Some.node ≡ c.has_id.result =
    ap (has_id_in c.args.id.now) (node_at c.args.nodes.now c.in-Some.node c.index-nodes-node.result c.in-Some.ensures.there)
    ∙ sym (c.has_id.ensures ∙ ap (λ (n : NodeData). has_id_in c.args.id.now (Some (bare n))) c.index-nodes-node.is) in
    record {
      there = c.in-Some.ensures.there;
      same = c.walk.invariant.same
          ∙ walk_missed nodes c.requires.fits (has_id nodes c.args.id.now) c.walk.here (Some c.in-Some.node) c.in-Some.ensures.is c.in-Some.node refl (has ∙ c.if-has_id.false);
    }

pub returns : goal.returns
returns c =
    let nodes = nodes_of c.args.nodes.now in
    let none : c.next_within.result ≡ None = search rules in
    sym (c.walk.invariant.same ∙ walk_ended nodes c.requires.fits (has_id nodes c.args.id.now) c.walk.here c.next_within.result c.next_within.ensures.is none)
