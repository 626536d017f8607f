use Rattle.std.proofs.Common.{◌≡◌, drop}
use Rattle.html_profile.specs.Names.{value_named}
use Rattle.html_profile.proofs.names.value_named.Given as goal

-- none of those before has the name
abbrev pub invariant-loop-attribute : goal.invariant-loop-attribute
invariant-loop-attribute l = value_named l.name l.attributes ≡ value_named l.name (drop l.attribute-index l.attributes)
