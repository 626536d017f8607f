use Rattle.std.proofs.Common.{◌+◌, ◌<◌, ◌≤◌, ◌-◌, ◌++◌, length, map, ap, ◌∙◌, subst, IfSome, arith}
use Rattle.dom_tree.specs.Node.{node_with}
use Rattle.dom_tree.specs.Nodes.{ancestors, children_of, parent_of, way_up}
use Rattle.event_dispatch.specs.declared.event_path.Target.TheVariants.{Node}
use Rattle.event_dispatch.proofs.Ways.{parent_read, way_end, way_start, way_step, way_top}
use Rattle.event_dispatch.proofs.event_path.push_ancestors.Goals as goal

pub loop-step-init : goal.loop-step-init
loop-step-init c =
    let nodes = c.args.dom.now in
    let read = parent_read nodes c.args.node (node_with (children_of nodes c.args.node) c.node.result.now) c.count-count.ensures.fits c.node.ensures in
    record {
      way = way_start (parent_of nodes) c.args.path.now.items (length nodes) c.node.result.now.parent (parent_of nodes c.args.node) read.0;
      there = read.1;
    }

pub node-requires-in-loop-step : goal.node-requires-in-loop-step
node-requires-in-loop-step c = subst (λ o. IfSome o (λ p. p < length c.args.dom.now)) c.in-Some.is c.loop-step.invariant.there

pub loop-step-preserved : goal.loop-step-preserved
loop-step-preserved c =
    let nodes = c.args.dom.now in
    let p = c.in-Some.parent in
    let read = parent_read nodes p (node_with (children_of nodes p) c.node-in-loop-step.result.now) c.count-count.ensures.fits c.node-in-loop-step.ensures in
    let more : c.loop-step._step < length nodes = omega (arith, c.count-count.ensures.is, c.loop-step-test.true) in
    let done = c.args.path.now.items ++ map Node (ancestors nodes c.args.node) in
    record {
      way =
          ap (λ xs. xs ++ map Node (way_up (parent_of nodes) (length nodes - (c.loop-step._step + 1)) c.node-in-loop-step.result.now.parent)) c.in_ok-push.ensures
          ∙ way_step (parent_of nodes) c.loop-step.path.items done (length nodes) c.loop-step._step p c.node-in-loop-step.result.now.parent c.loop-step.above more c.in-Some.is read.0 c.loop-step.invariant.way;
      there = read.1;
    }

pub returns-in_default : goal.returns-in_default
returns-in_default c =
    let nodes = c.args.dom.now in
    way_top (parent_of nodes) c.loop-step.path.items (c.args.path.now.items ++ map Node (ancestors nodes c.args.node)) (length nodes - c.loop-step._step) c.loop-step.above c.in_default.is c.loop-step.invariant.way

pub returns : goal.returns
returns c =
    let nodes = c.args.dom.now in
    let end : length nodes ≤ c.loop-step._step = omega (arith, c.count-count.ensures.is, c.loop-step-test.false) in
    way_end (parent_of nodes) c.loop-step.path.items (c.args.path.now.items ++ map Node (ancestors nodes c.args.node)) (length nodes) c.loop-step._step c.loop-step.above end c.loop-step.invariant.way
