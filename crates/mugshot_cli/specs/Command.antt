-- The words of a command line, without the program's name.
use Rattle.std.specs.Prelude.{◌≡◌, ◌≢◌, ◌⊎◌, ℕ, ◌≤◌, List, [], ◌∷◌, ◌++◌, codes, decimal}
use Rattle.input_log.specs.declared.item.TheConstants.{STEPS_LIMIT}
use Rattle.mugshot_cli.specs.declared.command.TheConstants.{DEFAULT_STEPS}
use Rattle.mugshot_cli.specs.declared.command.Command.{Command}
use Rattle.mugshot_cli.specs.declared.command.Command.TheVariants as command

-- a word that names a file: it is nonempty, and doesn't begin with two dashes
pub record IsFileName (word : List ℕ) : Type 0 where
  pub nonempty : word ≢ []
  pub no_option : (rest : List ℕ) → word ≢ codes "--" ++ rest

-- the words that give a budget: none, and it is the default, or an option and a number from 1 to
-- the limit in decimal digits
abbrev pub AreSteps : List (List ℕ) → ℕ → Type 0
AreSteps words n =
    ((words ≡ []) × (n ≡ DEFAULT_STEPS))
    ⊎ ((words ≡ codes "--steps" ∷ decimal n ∷ []) × (1 ≤ n) × (n ≤ STEPS_LIMIT))

-- the words that name the files of a capture, and then give its budget
pub record AreFiles (words : List (List ℕ)) (page arrivals session : List ℕ)
    (steps : ℕ) : Type 0 where
  pub page_is : IsFileName page
  pub arrivals_are : IsFileName arrivals
  pub session_is : IsFileName session
  pub option : List (List ℕ)
  pub steps_are : AreSteps option steps
  pub is : words ≡ page ∷ arrivals ∷ session ∷ option

-- the words that spell a command
abbrev pub Spells : List (List ℕ) → Command → Type 0
Spells words (command.List session) = (words ≡ codes "list" ∷ session ∷ []) × IsFileName session
Spells words (command.Replay session) = (words ≡ codes "replay" ∷ session ∷ []) × IsFileName session
Spells words (command.Capture page arrivals session steps) =
    (files : List (List ℕ)) × (words ≡ codes "capture" ∷ files)
    × AreFiles files page arrivals session steps

-- the words spell no command
abbrev pub SpellsNone : List (List ℕ) → Type 0
SpellsNone words = (c : Command) → Spells words c → ⊥
