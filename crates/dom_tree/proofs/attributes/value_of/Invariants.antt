use Rattle.std.proofs.Common.{◌≡◌, drop}
use Rattle.dom_tree.specs.Names.{value_named}
use Rattle.dom_tree.proofs.attributes.value_of.Given as goal

abbrev pub invariant-loop-attribute : goal.invariant-loop-attribute
invariant-loop-attribute l = value_named l.word l.items ≡ value_named l.word (drop l.attribute-index l.items)
