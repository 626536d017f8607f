use Rattle.std.proofs.Common.{◌≡◌, ℕ, List, [], ◌++◌, map, drop}
use Rattle.html_profile.specs.Names.{firsts}
use Rattle.html_profile.specs.Seen.{HasNames}
use Rattle.html_profile.proofs.tree.firsts.Given as goal

-- whatever follows, what was kept stands before what will be
abbrev pub invariant-loop-attribute : goal.invariant-loop-attribute
invariant-loop-attribute l = (names : List (List ℕ)) × HasNames l.seen names × (firsts [] l.attributes ≡ map (λ a. a.now) l.kept.items ++ firsts names (drop l.attribute-index l.attributes))
