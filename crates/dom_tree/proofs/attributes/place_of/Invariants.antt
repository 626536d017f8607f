use Rattle.std.proofs.Common.{◌≡◌, ℕ, List, ◌++◌, take, drop}
use Rattle.dom_tree.specs.Names.{with_value}
use Rattle.dom_tree.proofs.attributes.place_of.Given as goal

abbrev pub invariant-loop-index : goal.invariant-loop-index
invariant-loop-index l = (value : List ℕ) → with_value l.name value l.items ≡ take l.index l.items ++ with_value l.name value (drop l.index l.items)
