-- Names that were seen.
use Rattle.std.specs.Prelude.{◌≡◌, ℕ, List}
use Rattle.std.specs.List.{list_any}
use Rattle.std.specs.Ordering.{nat_cmp}
use Rattle.std.specs.Str.{bytes_eq}
use Rattle.std.specs.Cmp.Lexicographic.{slice_cmp}
use Rattle.std.specs.BTreeSet.{contains_by}
use Rattle.html_profile.specs.declared.seen.Seen.{Seen}

-- the set has these names and no others
abbrev pub HasNames : Seen → List (List ℕ) → Type 0
HasNames seen names = (q : List ℕ) →
    contains_by (λ k. slice_cmp nat_cmp q k.items) seen.names ≡ list_any (bytes_eq q) names
