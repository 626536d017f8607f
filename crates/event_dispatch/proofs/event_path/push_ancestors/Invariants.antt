use Rattle.std.proofs.Common.{◌≡◌, ◌-◌, ◌<◌, ◌++◌, length, map, IfSome}
use Rattle.dom_tree.specs.Nodes.{ancestors, parent_of, way_up}
use Rattle.event_dispatch.specs.declared.event_path.Target.TheVariants.{Node}
use Rattle.event_dispatch.proofs.event_path.push_ancestors.Given as goal

-- what was put behind, and the rest of the way up; and what stands next is there
abbrev pub invariant-loop-step : goal.invariant-loop-step
invariant-loop-step l = record {
  way : l.path.items ++ map Node (way_up (parent_of l.dom) (length l.dom - l._step) l.above) ≡ l.initial.path.items ++ map Node (ancestors l.dom l.fn.node);
  there : IfSome l.above (λ p. p < length l.dom);
}
