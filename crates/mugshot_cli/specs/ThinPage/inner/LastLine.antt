-- The last line of a trace, by its first word.
use Rattle.std.specs.Prelude.{◌≡◌, ℕ, ◌≤◌, List, [], ◌∷◌, length}
use Rattle.mugshot_cli.specs.ThinPage.Tracing.{last_line, last_lines}
use Rattle.mugshot_cli.specs.declared.counts.Counts.{Counts}
use Rattle.mugshot_cli.specs.declared.thin_page.end.End.{End}

-- a run that ends so has a last line with this word
pub record HasLine (word : List ℕ) (end : End) : Type 0 where
  pub short : length word ≤ 40
  pub is : (turns : ℕ) (counts : Counts) (inputs : ℕ)
      → last_lines end turns counts inputs ≡ last_line word turns counts inputs ∷ []

-- it has none
abbrev pub HasNoLine : End → Type 0
HasNoLine end = (turns : ℕ) (counts : Counts) (inputs : ℕ) → last_lines end turns counts inputs ≡ []
