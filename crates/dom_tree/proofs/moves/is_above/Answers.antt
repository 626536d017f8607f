use Rattle.std.proofs.Common.{◌∙◌, ◌<◌, length, subst}
use Rattle.dom_tree.specs.Nodes.{parent_of}
use Rattle.dom_tree.specs.inner.Kept.{nodes_of}
use Rattle.dom_tree.proofs.Kept.{parent_at, nodes_length}
use Rattle.dom_tree.proofs.Ways.{Ends_step}
use Rattle.dom_tree.proofs.Steps.{up_smaller, up_ends, up_same}
use Rattle.dom_tree.proofs.moves.is_above.Goals as goal

pub loop-above-init : goal.loop-above-init
loop-above-init c =
    let here = parent_at c.args.nodes.now c.args.node c.index-nodes-node.result c.requires.node in
    record {
      ends = rw (← here) (Ends_step (parent_of (nodes_of c.args.nodes.now)) (length (nodes_of c.args.nodes.now)) c.args.node (c.requires.linked.fits.ends c.args.node));
      there = λ x is. subst (λ n. x < n) (nodes_length c.args.nodes.now) (c.requires.linked.fits.parents c.args.node x (here ∙ is)).0;
      same = rw (← here);
    }

pub loop-above-smaller : goal.loop-above-smaller
loop-above-smaller c =
    up_smaller (parent_of (nodes_of c.args.nodes.now)) (length (nodes_of c.args.nodes.now)) c.in-Some.x c.loop-above.above _ c.in-Some.is
    (parent_at c.args.nodes.now c.in-Some.x c.index-nodes-x.result (c.loop-above.invariant.there c.in-Some.x c.in-Some.is)) c.loop-above.invariant.ends

pub loop-above-preserved : goal.loop-above-preserved
loop-above-preserved c =
    let here = parent_at c.args.nodes.now c.in-Some.x c.index-nodes-x.result (c.loop-above.invariant.there c.in-Some.x c.in-Some.is) in
    record {
      ends = up_ends (parent_of (nodes_of c.args.nodes.now)) (length (nodes_of c.args.nodes.now)) c.in-Some.x c.loop-above.above _ c.in-Some.is here c.loop-above.invariant.ends;
      there = λ x is. subst (λ n. x < n) (nodes_length c.args.nodes.now) (c.requires.linked.fits.parents c.in-Some.x x (here ∙ is)).0;
      same = c.loop-above.invariant.same ∙ up_same (parent_of (nodes_of c.args.nodes.now)) (length (nodes_of c.args.nodes.now)) c.in-Some.x c.loop-above.above _ c.in-Some.is here c.loop-above.invariant.ends c.args.wanted c.if-x-wanted.false;
    }
