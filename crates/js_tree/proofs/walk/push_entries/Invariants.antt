use Rattle.std.proofs.Common.{◌≡◌, ◌≤◌, false, ◌++◌, reverse, drop, length}
use Rattle.js_tree.specs.Trees.{entries}
use Rattle.js_tree.specs.Walk.{items_in}
use Rattle.js_tree.proofs.walk.push_entries.Given as goal

abbrev pub invariant-loop-at : goal.invariant-loop-at
invariant-loop-at l = record {
  within : l.at ≤ length l.list;
  reads : reverse l.stack.items ≡ items_in false (entries (drop l.at l.list)) ++ reverse l.initial.stack.items;
}

abbrev pub decreases-loop-at : goal.decreases-loop-at
decreases-loop-at l = l.at
