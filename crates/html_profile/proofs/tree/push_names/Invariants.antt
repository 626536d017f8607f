use Rattle.std.proofs.Common.{◌≡◌, ◌++◌, map, take}
use Rattle.html_profile.specs.Tree.{name_at}
use Rattle.html_profile.proofs.tree.push_names.Given as goal

abbrev pub invariant-loop-attribute : goal.invariant-loop-attribute
invariant-loop-attribute l = l.names.items ≡ l.fn.names.items ++ map (name_at l.total l.node) (map (λ a. a.now) (take l.attribute-index l.attributes))
