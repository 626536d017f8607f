-- What a production sees of the trees that were read.
use Rattle.std.specs.Prelude.{List, ◌∷◌, Option, Some, None}
use Rattle.js_tree.specs.declared.production.Production.{Production}
use Rattle.js_tree.specs.declared.production.Production.TheVariants as p
use Rattle.js_tree.specs.Trees.{Tree, Made}

-- what may be assigned to: a name or a member (ECMA-262 edition 5.1, 8.7)
abbrev pub target : Production → Option Production
target p.Name = Some p.Name
target p.Member = Some p.Member
target p.Index = Some p.Index
target _ = None

-- the last tree, where it may be assigned to
abbrev pub target_of : List Tree → Option Production
target_of (Made q _ _ _ ∷ vs) = target q
target_of _ = None
