use Rattle.std.proofs.Common.{◌≡◌, ◌<◌, length, false, is_some, Some, None, rules, sym, ap, subst, ◌∙◌, arith}
use Rattle.dom_tree.specs.Nodes.{parent_of}
use Rattle.dom_tree.specs.Order.{first_child}
use Rattle.dom_tree.specs.inner.Kept.{nodes_of}
use Rattle.dom_tree.proofs.Kept.{parent_at, nodes_length}
use Rattle.dom_tree.proofs.Walks.{depth_step}
use Rattle.dom_tree.proofs.Neighbours.{other_none, climbs, top_reached}
use Rattle.dom_tree.proofs.kin.next_within.Goals as goal

pub loop-here-smaller : goal.loop-here-smaller
loop-here-smaller c =
    let above : parent_of (nodes_of c.args.nodes.now) c.loop-here.here ≡ Some c.in-Some.parent = parent_at c.args.nodes.now c.loop-here.here _ c.loop-here.invariant.there ∙ c.in-Some.is in
    omega (arith, depth_step (nodes_of c.args.nodes.now) c.requires.linked.fits c.loop-here.here c.in-Some.parent above)

pub loop-here-preserved : goal.loop-here-preserved
loop-here-preserved c =
    let above : parent_of (nodes_of c.args.nodes.now) c.loop-here.here ≡ Some c.in-Some.parent = parent_at c.args.nodes.now c.loop-here.here _ c.loop-here.invariant.there ∙ c.in-Some.is in
    let none : is_some c.next_sibling-beside.result ≡ false = search rules in
    record {
      there = subst (λ n. c.in-Some.parent < n) (nodes_length c.args.nodes.now) (c.requires.linked.fits.parents c.loop-here.here c.in-Some.parent above).0;
      same = c.loop-here.invariant.same
          ∙ climbs (nodes_of c.args.nodes.now) c.requires.linked.fits c.args.root c.loop-here.here c.in-Some.parent c.next_sibling-beside.result c.loop-here-test.true c.next_sibling-beside.ensures.is none above;
    }

pub returns-in-None-clause-is : goal.returns-in-None-clause-is
returns-in-None-clause-is c =
    let above : parent_of (nodes_of c.args.nodes.now) c.loop-here.here ≡ None = parent_at c.args.nodes.now c.loop-here.here _ c.loop-here.invariant.there ∙ c.in-None.is in
    let none : is_some c.next_sibling-beside.result ≡ false = search rules in
    let childless : is_some c.first_child-below.result ≡ false = search rules in
    sym
    (other_none (first_child (nodes_of c.args.nodes.now) c.args.node) _ (ap is_some (sym c.first_child-below.ensures.is) ∙ childless) ∙ c.loop-here.invariant.same
    ∙ top_reached (nodes_of c.args.nodes.now) c.requires.linked.fits c.args.root c.loop-here.here c.next_sibling-beside.result c.loop-here-test.true c.next_sibling-beside.ensures.is none above)
