use Rattle.std.proofs.Common.{◌≡◌, take}
use Rattle.dom_tree.proofs.attributes.copies.Given as goal

abbrev pub invariant-loop-attribute : goal.invariant-loop-attribute
invariant-loop-attribute l = l.made.items ≡ take l.attribute-index l.items
