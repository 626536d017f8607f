-- What the functions under the commands come to.
use Rattle.std.specs.Prelude.{◌≡◌, ℕ, ◌+◌, ◌≤◌, List, ◌∷◌}
use Rattle.input_log.specs.declared.item.LogItem.{LogItem}
use Rattle.input_log.specs.declared.item.LogItem.TheVariants.{Head}
use Rattle.input_log.specs.declared.item.TheConstants.{STEPS_LIMIT}
use Rattle.mugshot_cli.specs.Command.{AreFiles, Spells}
use Rattle.mugshot_cli.specs.declared.command.Action.{Action}
use Rattle.mugshot_cli.specs.declared.command.Action.TheVariants as action
use Rattle.mugshot_cli.specs.declared.command.Command.{Command}
use Rattle.mugshot_cli.specs.declared.command.Command.TheVariants as command
use Rattle.mugshot_cli.specs.declared.thin_page.end.End.{End}
use Rattle.mugshot_cli.specs.declared.thin_page.end.End.TheVariants as end
use Rattle.mugshot_cli.specs.declared.replaying.ReplayOutcome.{ReplayOutcome}
use Rattle.mugshot_cli.specs.declared.replaying.ReplayOutcome.TheVariants.{Done, Budget, Diverged}

-- the words are the files and the budget of this command, where it is a capture
abbrev pub HasFiles : List (List ℕ) → Command → Type 0
HasFiles words (command.Capture page arrivals session steps) =
    AreFiles words page arrivals session steps
HasFiles words (command.List session) = ⊥
HasFiles words (command.Replay session) = ⊥

-- what a command does
abbrev pub action_of : Command → Action
action_of (command.List session) = action.List
action_of (command.Replay session) = action.Replay
action_of (command.Capture page arrivals session steps) = action.Capture steps

-- the words spell a command that does this
pub record Asks (words : List (List ℕ)) (asked : Action) : Type 0 where
  pub command : Command
  pub spells : Spells words command
  pub is : asked ≡ action_of command

-- the items begin with a head of this page and budget, and after it come these inputs
pub record BeginsWithHead (items : List LogItem) (page : List ℕ) (budget : ℕ)
    (inputs : List LogItem) : Type 0 where
  pub base : List ℕ
  pub is : items ≡ Head base budget page ∷ inputs
  pub most : budget ≤ STEPS_LIMIT

-- the answer where a run with this budget, which consumed so many inputs, was printed to its end;
-- the head is item 0
abbrev pub outcome_at : End → ℕ → ℕ → ReplayOutcome
outcome_at end.Finished budget consumed = Done
outcome_at end.Cut budget consumed = Done
outcome_at end.Budget budget consumed = Budget budget
outcome_at (end.Diverged wanted found) budget consumed = Diverged (1 + consumed) wanted found
