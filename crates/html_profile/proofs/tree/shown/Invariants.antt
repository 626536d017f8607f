use Rattle.std.proofs.Common.{◌≡◌, map, take}
use Rattle.html_profile.specs.Tree.{shown_attribute}
use Rattle.html_profile.proofs.tree.shown.Given as goal

abbrev pub invariant-loop-attribute : goal.invariant-loop-attribute
invariant-loop-attribute l = l.shown.items ≡ map shown_attribute (map (λ a. a.now) (take l.attribute-index l.attributes))
