use Rattle.std.proofs.Common.{◌≡◌, ◌≤◌, false, ◌++◌, reverse, drop, length}
use Rattle.js_tree.specs.Trees.{elements}
use Rattle.js_tree.specs.Walk.{items_in}
use Rattle.js_tree.proofs.walk.push_options.Given as goal

abbrev pub invariant-loop-at : goal.invariant-loop-at
invariant-loop-at l = record {
  within : l.at ≤ length l.ids;
  reads : reverse l.stack.items ≡ items_in false (elements (drop l.at l.ids)) ++ reverse l.initial.stack.items;
}

abbrev pub decreases-loop-at : goal.decreases-loop-at
decreases-loop-at l = l.at
