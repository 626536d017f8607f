use Rattle.std.proofs.Common.{◌≡◌, drop}
use Rattle.dom_tree.specs.Names.{value_named}
use Rattle.dom_tree.proofs.attributes.Attributes.value.Given as goal

abbrev pub invariant-loop-attribute : goal.invariant-loop-attribute
invariant-loop-attribute l = value_named l.name l.self ≡ value_named l.name (drop l.attribute-index l.self)
