-- The runs of a thin page: over arrivals, as it is recorded, and over inputs, as it is replayed.
-- Both go by the same steps.
use Rattle.std.specs.Prelude.{ℕ, zero, suc, ◌==◌, Bool, true, false, List, [], ◌∷◌, ◌++◌, drop}
use Rattle.std.specs.Prelude.{if◌then◌else◌}
use Rattle.arrival_file.specs.declared.arrival.Arrival.{Arrival}
use Rattle.arrival_file.specs.declared.arrival.Turn.{Turn}
use Rattle.arrival_file.specs.declared.arrival.Turn.TheVariants as turn
use Rattle.input_log.specs.Inputs.{item_of}
use Rattle.input_log.specs.Kinds.{word_of}
use Rattle.page_inputs.specs.declared.input.PageInput.{PageInput}
use Rattle.page_inputs.specs.declared.input.PageInput.TheVariants.{Load, Now, Rand}
use Rattle.mugshot_cli.specs.ThinPage.Machine.{State, start_state, begun, contract, counts_of}
use Rattle.mugshot_cli.specs.declared.counts.Counts.{Counts}
use Rattle.mugshot_cli.specs.declared.thin_page.page.Move.{Move}
use Rattle.mugshot_cli.specs.declared.thin_page.page.Move.TheVariants.{Pass, Clock, Draw, Print}
use Rattle.mugshot_cli.specs.declared.thin_page.reading.Statement.{Statement}
use Rattle.mugshot_cli.specs.declared.thin_page.end.End.{End}
use Rattle.mugshot_cli.specs.declared.thin_page.end.End.TheVariants.{Finished, Budget, Cut}
use Rattle.mugshot_cli.specs.declared.thin_page.end.End.TheVariants.{Diverged}
use Rattle.mugshot_cli.specs.declared.thin_page.end.Want.TheVariants as want
use Rattle.input_log.specs.declared.item.Word.TheVariants as word

-- a run: the states that it visits, of which the last stands apart; the inputs that it consumes, in
-- their order; how it ends; how many arrivals it drops, of which a load is none; and what is
-- counted at its end
pub record Run : Type 0 where
  pub before : List State
  pub last : State
  pub inputs : List PageInput
  pub end : End
  pub dropped : ℕ
  pub counts : Counts

-- the states that a run visits
abbrev pub visited : Run → List State
visited run = run.before ++ run.last ∷ []

-- a run that ends at once
abbrev pub ends : State → End → Run
ends s end = record {
  before = [];
  last = s;
  inputs = [];
  end = end;
  dropped = 0;
  counts = counts_of s;
}

-- a run that makes a step from a state, which consumes these inputs, and then goes on
abbrev pub steps : State → List PageInput → Run → Run
steps s inputs run = record {
  before = s ∷ run.before;
  last = run.last;
  inputs = inputs ++ run.inputs;
  end = run.end;
  dropped = run.dropped;
  counts = run.counts;
}

-- ---- over arrivals

-- what answers the questions of a turn: its moment, the readings of the clock and the random words
-- that were given for it and not used yet
pub record Answers : Type 0 where
  pub t : ℕ
  pub nows : List ℕ
  pub rands : List ℕ

-- no turn was begun
abbrev pub no_answers : Answers
no_answers = record { t = 0; nows = []; rands = [] }

abbrev pub moment : Turn → ℕ
moment (turn.Load t) = t

abbrev pub answers_of : Arrival → Answers
answers_of arrival = record { t = moment arrival.turn; nows = arrival.nows; rands = arrival.rands }

-- the first of the values, or this one where there is none
abbrev pub first_or : ℕ → List ℕ → ℕ
first_or value [] = value
first_or value (v ∷ values) = v

-- a reading of the clock is the next one given, else the turn's moment; a random word is the next
-- one given, else 0
abbrev pub answer : Answers → Move → ℕ
answer a Pass = 0
answer a Clock = first_or a.t a.nows
answer a Draw = first_or 0 a.rands
answer a (Print arguments) = 0

-- the input that an answer is
abbrev pub asked : Answers → Move → List PageInput
asked a Pass = []
asked a Clock = Now (answer a Clock) ∷ []
asked a Draw = Rand (answer a Draw) ∷ []
asked a (Print arguments) = []

-- the answers that are left after a step
abbrev pub used : Answers → Move → Answers
used a Pass = a
used a Clock = record { t = a.t; nows = drop 1 a.nows; rands = a.rands }
used a Draw = record { t = a.t; nows = a.nows; rands = drop 1 a.rands }
used a (Print arguments) = a

-- no turn runs and no arrival is left
abbrev pub is_finished : List Move → List Arrival → Bool
is_finished [] [] = true
is_finished [] (arrival ∷ arrivals) = false
is_finished (move ∷ left) arrivals = false

-- where steps are left: a turn that runs makes its next step, and where none runs the next arrival
-- begins one
abbrev pub goes_on :
    (State → Answers → List Arrival → Run) → State → Answers → List Move → List Arrival → Run
goes_on next s a [] [] = ends s Finished
goes_on next s a [] (arrival ∷ arrivals) =
    steps s (Load (moment arrival.turn) ∷ [])
    (next (begun s (moment arrival.turn)) (answers_of arrival) arrivals)
goes_on next s a (move ∷ left) arrivals =
    steps s (asked a move) (next (contract s move left (answer a move)) (used a move) arrivals)

-- from a state with so many page steps left
unfoldable pub plain_from : ℕ → State → Answers → List Arrival → Run
plain_from zero s a arrivals = ends s (if is_finished s.left arrivals then Finished else Budget)
plain_from (suc n) s a arrivals = goes_on (plain_from n) s a s.left arrivals

-- the plain run of a page with this budget
abbrev pub plain : ℕ → List Statement → List Arrival → Run
plain budget statements arrivals = plain_from budget (start_state statements) no_answers arrivals

-- ---- over inputs

-- no turn runs and no input is left
abbrev pub is_over : List Move → List PageInput → Bool
is_over [] [] = true
is_over [] (input ∷ inputs) = false
is_over (move ∷ left) inputs = false

-- where no turn runs: the first turn is a load, and no turn follows it
abbrev pub begins : (State → List PageInput → Run) → State → List PageInput → Run
begins next s [] = ends s Finished
begins next s (Load t ∷ inputs) =
    if s.turns == 0 then steps s (Load t ∷ []) (next (begun s t) inputs)
    else ends s (Diverged want.Turn word.Load)
begins next s (input ∷ inputs) =
    ends s (Diverged (if s.turns == 0 then want.Load else want.Turn) (word_of (item_of input)))

-- a step that asks the clock: the next input is a reading
abbrev pub reads : (State → List PageInput → Run) → State → List Move → List PageInput → Run
reads next s left [] = ends s Cut
reads next s left (Now v ∷ inputs) = steps s (Now v ∷ []) (next (contract s Clock left v) inputs)
reads next s left (input ∷ inputs) = ends s (Diverged want.Now (word_of (item_of input)))

-- a step that asks for a random word: the next input is one
abbrev pub draws : (State → List PageInput → Run) → State → List Move → List PageInput → Run
draws next s left [] = ends s Cut
draws next s left (Rand w ∷ inputs) = steps s (Rand w ∷ []) (next (contract s Draw left w) inputs)
draws next s left (input ∷ inputs) = ends s (Diverged want.Rand (word_of (item_of input)))

-- where steps are left
abbrev pub follows : (State → List PageInput → Run) → State → List Move → List PageInput → Run
follows next s [] inputs = begins next s inputs
follows next s (Pass ∷ left) inputs = steps s [] (next (contract s Pass left 0) inputs)
follows next s (Clock ∷ left) inputs = reads next s left inputs
follows next s (Draw ∷ left) inputs = draws next s left inputs
follows next s (Print arguments ∷ left) inputs =
    steps s [] (next (contract s (Print arguments) left 0) inputs)

-- from a state with so many page steps left
unfoldable pub replay_from : ℕ → State → List PageInput → Run
replay_from zero s inputs = ends s (if is_over s.left inputs then Finished else Budget)
replay_from (suc n) s inputs = follows (replay_from n) s s.left inputs

-- the run of a page from inputs, within this budget
abbrev pub from_inputs : ℕ → List Statement → List PageInput → Run
from_inputs budget statements inputs = replay_from budget (start_state statements) inputs
