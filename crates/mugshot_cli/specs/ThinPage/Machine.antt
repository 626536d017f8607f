-- A thin page as a machine: its states, and what one step makes of a state.
use Rattle.std.specs.Prelude.{ℕ, ◌+◌, ◌-◌, Bool, true, false, List, [], ◌∷◌, ◌++◌, length, drop}
use Rattle.std.specs.Prelude.{flat_map, count_by, decimal}
use Rattle.mugshot_cli.specs.declared.counts.Counts.{Counts}
use Rattle.mugshot_cli.specs.declared.thin_page.reading.Argument.{Argument}
use Rattle.mugshot_cli.specs.declared.thin_page.reading.Argument.TheVariants as argument
use Rattle.mugshot_cli.specs.declared.thin_page.reading.Statement.{Statement}
use Rattle.mugshot_cli.specs.declared.thin_page.reading.Statement.TheVariants as statement
use Rattle.mugshot_cli.specs.declared.thin_page.page.Move.{Move}
use Rattle.mugshot_cli.specs.declared.thin_page.page.Move.TheVariants.{Pass, Clock, Draw, Print}
use Rattle.mugshot_cli.specs.declared.thin_page.page.Question.{Question}
use Rattle.mugshot_cli.specs.declared.thin_page.page.Question.TheVariants as question

-- ---- the steps of a turn

-- a call of a method is a step for the object's name, a step that reads the function, those of its
-- arguments, and the call's own; a number takes no step
abbrev pub argument_moves : Argument → List Move
argument_moves argument.Now = Pass ∷ Pass ∷ Clock ∷ []
argument_moves argument.Rand = Pass ∷ Pass ∷ Draw ∷ []
argument_moves (argument.Number n) = []

-- an expression statement has no step of its own
abbrev pub statement_moves : Statement → List Move
statement_moves statement.Now = Pass ∷ Pass ∷ Clock ∷ []
statement_moves statement.Rand = Pass ∷ Pass ∷ Draw ∷ []
statement_moves (statement.Log arguments) =
    Pass ∷ Pass ∷ (flat_map argument_moves arguments ++ Print arguments ∷ [])

-- a script is read in one step, and then run; the empty page has none
abbrev pub script_moves : List Statement → List Move
script_moves [] = []
script_moves (first ∷ others) = Pass ∷ flat_map statement_moves (first ∷ others)

-- behind the start of a load turn: a step for the handler attributes, the script, and the start and
-- the end of two dispatches without listeners, DOMContentLoaded and load
abbrev pub turn_moves : List Statement → List Move
turn_moves statements = Pass ∷ (script_moves statements ++ (Pass ∷ Pass ∷ Pass ∷ Pass ∷ []))

-- ---- a console line

-- whether an argument asks
abbrev pub is_question : Argument → Bool
is_question argument.Now = true
is_question argument.Rand = true
is_question (argument.Number n) = false

-- the first of the answers
abbrev pub first_of : List ℕ → ℕ
first_of [] = 0
first_of (v ∷ values) = v

-- the values of the arguments, of which those that ask take the answers in their order
abbrev pub values_of : List Argument → List ℕ → List ℕ
values_of [] answers = []
values_of (argument.Now ∷ arguments) answers =
    first_of answers ∷ values_of arguments (drop 1 answers)
values_of (argument.Rand ∷ arguments) answers =
    first_of answers ∷ values_of arguments (drop 1 answers)
values_of (argument.Number n ∷ arguments) answers = n ∷ values_of arguments answers

-- the numbers with a space between them
abbrev pub spaced : List ℕ → List ℕ
spaced [] = []
spaced (n ∷ numbers) = decimal n ++ flat_map (λ m. 32 ∷ decimal m) numbers

-- the line of a call whose questions were answered last
abbrev pub line_text : List Argument → List ℕ → List ℕ
line_text arguments given =
    spaced (values_of arguments (drop (length given - count_by is_question arguments) given))

-- ---- states

-- the steps of a load turn; the numbers of page steps and of started turns, and the clock; what is
-- left of the running turn, where none runs nothing; the answers given in it;
-- and the console's lines, whose digits and spaces are printed as they are
pub record State : Type 0 where
  pub turn : List Move
  pub steps : ℕ
  pub turns : ℕ
  pub clock : ℕ
  pub left : List Move
  pub given : List ℕ
  pub console : List (List ℕ)

-- the state before the first step
abbrev pub start_state : List Statement → State
start_state statements = record {
  turn = turn_moves statements;
  steps = 0;
  turns = 0;
  clock = 0;
  left = [];
  given = [];
  console = [];
}

-- the state after the start of a turn at t, which is a step
abbrev pub begun : State → ℕ → State
begun s t = record {
  turn = s.turn;
  steps = s.steps + 1;
  turns = s.turns + 1;
  clock = t;
  left = s.turn;
  given = [];
  console = s.console;
}

-- a step that leaves these steps to the turn, with these answers and lines
abbrev pub stepped : State → List Move → List ℕ → List (List ℕ) → State
stepped s left given console = record {
  turn = s.turn;
  steps = s.steps + 1;
  turns = s.turns;
  clock = s.clock;
  left = left;
  given = given;
  console = console;
}

-- the state after one step of a turn, of which these are left; the answer counts where the step
-- asks
abbrev pub contract : State → Move → List Move → ℕ → State
contract s Pass left answer = stepped s left s.given s.console
contract s Clock left answer = stepped s left (s.given ++ answer ∷ []) s.console
contract s Draw left answer = stepped s left (s.given ++ answer ∷ []) s.console
contract s (Print arguments) left answer =
    stepped s left s.given (s.console ++ line_text arguments s.given ∷ [])

-- what is counted at a state; a thin page has no inserted code
abbrev pub counts_of : State → Counts
counts_of s = record { steps = s.steps; hidden = 0; calls = 0; nested = 0 }

-- whether a turn runs
abbrev pub runs : List Move → Bool
runs [] = false
runs (move ∷ left) = true

-- what the next step asks
abbrev pub asks : List Move → Question
asks [] = question.Nothing
asks (Pass ∷ left) = question.Nothing
asks (Clock ∷ left) = question.Clock
asks (Draw ∷ left) = question.Word
asks (Print arguments ∷ left) = question.Nothing

-- the state after the next step of the running turn
abbrev pub advanced : State → List Move → ℕ → State
advanced s [] answer = s
advanced s (move ∷ left) answer = contract s move left answer
