-- The parts of a thin page, as they stand in front of other bytes.
use Rattle.std.specs.Prelude.{◌≡◌, ◌≢◌, ◌⊎◌, ℕ, ◌<◌, ◌≤◌, List, [], ◌∷◌, ◌++◌, length, map, All}
use Rattle.mugshot_cli.specs.ThinPage.Reading.{EndsScript, IsArgument, IsStatement, argument_text}
use Rattle.mugshot_cli.specs.ThinPage.Reading.{joined, statement_text, written}
use Rattle.mugshot_cli.specs.declared.thin_page.reading.Argument.{Argument}
use Rattle.mugshot_cli.specs.declared.thin_page.reading.Statement.{Statement}

abbrev pub IsDigit : ℕ → Type 0
IsDigit b = (48 ≤ b) × (b ≤ 57)

-- no digit stands there
abbrev pub EndsDigits : List ℕ → Type 0
EndsDigits [] = Unit {0}
EndsDigits (b ∷ more) = (b < 48) ⊎ (57 < b)

-- a comma or a parenthesis stands there
abbrev pub EndsArgument : List ℕ → Type 0
EndsArgument [] = ⊥
EndsArgument (b ∷ more) = (b ≡ 44) ⊎ (b ≡ 41)

-- in front stand the arguments of a call, up to its parenthesis
pub record HasArguments (bytes : List ℕ) (arguments : List Argument) (more : List ℕ) : Type 0 where
  pub some : arguments ≢ []
  pub few : length arguments ≤ 8
  pub valid : All IsArgument arguments
  pub is : bytes ≡ joined 44 (map argument_text arguments) ++ 41 ∷ more

-- in front stands a statement
pub record HasStatement (bytes : List ℕ) (found : Statement) (more : List ℕ) : Type 0 where
  pub valid : IsStatement found
  pub is : bytes ≡ statement_text found ++ more

-- statements, up to the end of the script
pub record AreStatements (bytes : List ℕ) (statements : List Statement) : Type 0 where
  pub some : statements ≢ []
  pub valid : All IsStatement statements
  pub end : List ℕ
  pub ends : EndsScript end
  pub is : bytes ≡ written statements ++ end
