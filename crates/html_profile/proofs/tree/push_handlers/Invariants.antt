use Rattle.std.proofs.Common.{◌≡◌, ◌++◌, map, take}
use Rattle.html_profile.specs.Tree.{handlers_of}
use Rattle.html_profile.proofs.tree.push_handlers.Given as goal

abbrev pub invariant-loop-attribute : goal.invariant-loop-attribute
invariant-loop-attribute l = l.handlers.items ≡ l.fn.handlers.items ++ handlers_of l.total l.node (map (λ a. a.now) (take l.attribute-index l.attributes))
