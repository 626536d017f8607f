-- Names that a list has, as a set.
use Rattle.std.specs.Prelude.{◌≡◌, ℕ, List}
use Rattle.std.specs.Ordering.{nat_cmp}
use Rattle.std.specs.Cmp.Lexicographic.{slice_cmp}
use Rattle.std.specs.BTreeSet.{BTreeSet, contains}
use Rattle.js_tree.specs.Names.{is_among}

-- the set has these names and no others
abbrev pub HasNames : BTreeSet (List ℕ) → List (List ℕ) → Type 0
HasNames set names = (t : List ℕ) → contains (slice_cmp nat_cmp) set t ≡ is_among t names
