-- A thin page: nothing, or a script of statements that take a reading or log their arguments,
-- without white space.
use Rattle.std.specs.Prelude.{◌≡◌, ◌≢◌, ◌⊎◌, ℕ, ◌<◌, ◌≤◌, List, [], ◌∷◌, ◌++◌, length, map}
use Rattle.std.specs.Prelude.{flat_map, All, codes, decimal}
use Rattle.mug_text.specs.declared.limits.TheConstants.{SAFE_END}
use Rattle.mugshot_cli.specs.declared.thin_page.reading.Argument.{Argument}
use Rattle.mugshot_cli.specs.declared.thin_page.reading.Argument.TheVariants.{Now, Rand, Number}
use Rattle.mugshot_cli.specs.declared.thin_page.reading.Statement.{Statement}
use Rattle.mugshot_cli.specs.declared.thin_page.reading.Statement.TheVariants as statement

-- texts with a separator between each two
abbrev pub joined : ℕ → List (List ℕ) → List ℕ
joined separator [] = []
joined separator (text ∷ texts) = text ++ flat_map (λ t. separator ∷ t) texts

abbrev pub argument_text : Argument → List ℕ
argument_text Now = codes "Date.now()"
argument_text Rand = codes "Math.random()"
argument_text (Number n) = decimal n

-- its number is in its range
abbrev pub IsArgument : Argument → Type 0
IsArgument Now = Unit {0}
IsArgument Rand = Unit {0}
IsArgument (Number n) = n < SAFE_END

-- a comma, 44, stands between arguments, and a parenthesis, 41, behind the last
abbrev pub statement_text : Statement → List ℕ
statement_text statement.Now = codes "Date.now()"
statement_text statement.Rand = codes "Math.random()"
statement_text (statement.Log arguments) =
    codes "console.log(" ++ (joined 44 (map argument_text arguments) ++ 41 ∷ [])

-- one to eight arguments
abbrev pub IsStatement : Statement → Type 0
IsStatement statement.Now = Unit {0}
IsStatement statement.Rand = Unit {0}
IsStatement (statement.Log arguments) =
    (arguments ≢ []) × (length arguments ≤ 8) × All IsArgument arguments

-- a semicolon, 59, stands between statements
abbrev pub written : List Statement → List ℕ
written statements = joined 59 (map statement_text statements)

-- what may stand behind the last statement: the end of the script, with a semicolon before it or
-- without
abbrev pub EndsScript : List ℕ → Type 0
EndsScript end = (end ≡ codes "</script>") ⊎ (end ≡ codes ";</script>")

-- a script of one statement at least
pub record IsScript (bytes : List ℕ) (statements : List Statement) : Type 0 where
  pub some : statements ≢ []
  pub valid : All IsStatement statements
  pub end : List ℕ
  pub ends : EndsScript end
  pub is : bytes ≡ codes "<script>" ++ (written statements ++ end)

-- the page of these statements
abbrev pub IsThin : List ℕ → List Statement → Type 0
IsThin bytes statements = ((bytes ≡ []) × (statements ≡ [])) ⊎ IsScript bytes statements
