-- What the code of the runs keeps.
use Rattle.std.specs.Prelude.{◌≡◌, ◌⊎◌, ℕ, ◌≤◌, false, List, ◌++◌}
use Rattle.arrival_file.specs.declared.arrival.Arrival.{Arrival}
use Rattle.page_inputs.specs.declared.input.PageInput.{PageInput}
use Rattle.mugshot_cli.specs.ThinPage.Machine.{State}
use Rattle.mugshot_cli.specs.declared.thin_page.end.End.{End}
use Rattle.mugshot_cli.specs.declared.thin_page.end.End.TheVariants.{Finished, Budget}
use Rattle.mugshot_cli.specs.declared.thin_page.end.PlainEnd.{PlainEnd}
use Rattle.mugshot_cli.specs.declared.thin_page.end.PlainEnd.TheVariants as plain_end
use Rattle.mugshot_cli.specs.ThinPage.Run.{Answers, Run, ends, is_finished, plain_from}

-- a run over arrivals: the page steps that are left, the state, and what is left of answers and
-- arrivals
pub record PlainState : Type 0 where
  pub left : ℕ
  pub state : State
  pub answers : Answers
  pub arrivals : List Arrival

-- two runs end alike
pub record EndsAlike (run rest : Run) : Type 0 where
  pub last_is : run.last ≡ rest.last
  pub end_is : run.end ≡ rest.end
  pub dropped_is : run.dropped ≡ rest.dropped
  pub counts_are : run.counts ≡ rest.counts

-- the rest of the run
abbrev pub rest_of : PlainState → Run
rest_of r = plain_from r.left r.state r.answers r.arrivals

-- the run isn't at its end
pub record RunsOn (r : PlainState) : Type 0 where
  pub left : 1 ≤ r.left
  pub unfinished : is_finished r.state.left r.arrivals ≡ false

-- one run is another's rest, after these inputs
pub record IsAhead (inputs : List PageInput) (run rest : Run) : Type 0 where
  pub inputs_are : run.inputs ≡ inputs ++ rest.inputs
  pub alike : EndsAlike run rest

-- a run ends in this state
pub record EndsIn (run : Run) (r : PlainState) : Type 0 where
  pub alike : EndsAlike run (rest_of r)
  pub end_is : rest_of r ≡ ends r.state run.end

-- the ends of a run over arrivals
abbrev pub IsPlainEnd : End → Type 0
IsPlainEnd end = (end ≡ Finished) ⊎ (end ≡ Budget)

-- the same end of a run
abbrev pub run_end : PlainEnd → End
run_end plain_end.Finished = Finished
run_end plain_end.Budget = Budget

-- the run is over, and this is its end
abbrev pub IsOver : PlainState → Type 0
IsOver r = (whole : Run) × EndsIn whole r
