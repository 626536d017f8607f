use Rattle.std.proofs.Common.{ℕ, ◌≤◌, List, ◌++◌, length, Option}
use Rattle.html_profile.specs.declared.tag.Attribute.{Attribute}
use Rattle.html_profile.specs.Attributes.{IsAttributes}
use Rattle.html_profile.proofs.tag.attributes.Given as goal

-- whatever attributes follow, these stand before them
abbrev pub invariant-loop-attributes : goal.invariant-loop-attributes
invariant-loop-attributes l = record {
  on : (more : List Attribute) (end : Option (List ℕ)) → IsAttributes l.rest more end → IsAttributes l.fn.text (l.attributes.items ++ more) end;
  behind : length l.rest ≤ length l.fn.text;
}

abbrev pub decreases-loop-attributes : goal.decreases-loop-attributes
decreases-loop-attributes l = length l.rest
