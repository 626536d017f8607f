-- The names of the open elements.
use Rattle.std.specs.Prelude.{◌≡◌, ℕ, Bool, not, List, [], ◌∷◌, map, reverse}
use Rattle.std.specs.List.{list_any}
use Rattle.std.specs.Str.{bytes_eq}
use Rattle.html_profile.specs.declared.tree.Open.{Open}
use Rattle.html_profile.specs.declared.standing.Standing.{Standing}
use Rattle.html_profile.specs.Seen.{HasNames}

-- of each name, whether it doesn't stand again behind
abbrev pub last_ones : List (List ℕ) → List Bool
last_ones [] = []
last_ones (name ∷ names) = not (list_any (bytes_eq name) names) ∷ last_ones names

-- these are the names, innermost first
abbrev pub HasStanding : Standing → List (List ℕ) → Type 0
HasStanding s names = HasNames s.seen names × (reverse s.alone.items ≡ last_ones names)

-- the names of open elements
abbrev pub names_of : List Open → List (List ℕ)
names_of open_ones = map (λ o. o.name) open_ones
