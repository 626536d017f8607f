-- What the code of a run over inputs keeps.
use Rattle.std.specs.Prelude.{◌≡◌, ℕ, ◌+◌, List, ◌++◌, length, Option, Some, None}
use Rattle.page_inputs.specs.declared.input.PageInput.{PageInput}
use Rattle.mugshot_cli.specs.ThinPage.Machine.{State}
use Rattle.mugshot_cli.specs.ThinPage.Run.{Run, begins, draws, ends, reads, replay_from, steps}
use Rattle.mugshot_cli.specs.ThinPage.Run.{visited}
use Rattle.mugshot_cli.specs.ThinPage.Tracing.{trace_lines}
use Rattle.mugshot_cli.specs.ThinPage.inner.PlainState.{EndsAlike}
use Rattle.mugshot_cli.specs.declared.thin_page.page.Move.{Move}
use Rattle.mugshot_cli.specs.declared.thin_page.end.End.{End}

-- a run over inputs: the page steps that are left, the state, the inputs that are left, and the
-- number of those consumed
pub record ReplayState : Type 0 where
  pub left : ℕ
  pub state : State
  pub inputs : List PageInput
  pub consumed : ℕ

-- the rest of the run
abbrev pub replay_rest : ReplayState → Run
replay_rest r = replay_from r.left r.state r.inputs

-- where steps are left, a state in which no turn runs ends the run so before these inputs
abbrev pub EndsIdle : State → List PageInput → End → Type 0
EndsIdle s inputs end = (next : State → List PageInput → Run) → begins next s inputs ≡ ends s end

-- where steps are left, a step that asks the clock ends it so
abbrev pub EndsClock : List PageInput → End → Type 0
EndsClock inputs end =
    (next : State → List PageInput → Run) (s : State) (left : List Move)
    → reads next s left inputs ≡ ends s end

-- where steps are left, a step that asks for a random word ends it so
abbrev pub EndsDraw : List PageInput → End → Type 0
EndsDraw inputs end =
    (next : State → List PageInput → Run) (s : State) (left : List Move)
    → draws next s left inputs ≡ ends s end

-- a page step was made
pub record Stepped (old new : ReplayState) : Type 0 where
  pub inputs : List PageInput
  pub count : new.left + 1 ≡ old.left
  pub consumed : new.consumed ≡ old.consumed + length inputs
  pub is : replay_rest old ≡ steps old.state inputs (replay_rest new)

-- a page step was made, or the run ends here and nothing was changed
abbrev pub Went : Option End → ReplayState → ReplayState → Type 0
Went None old new = Stepped old new
Went (Some end) old new = (replay_rest old ≡ ends old.state end) × (new ≡ old)

-- the lines of the steps that are left
abbrev pub lines_left : ReplayState → List (List ℕ)
lines_left r = trace_lines (visited (replay_rest r))

-- the number of the inputs that are consumed at the end
abbrev pub consumed_at_end : ReplayState → ℕ
consumed_at_end r = r.consumed + length (replay_rest r).inputs

-- one run is another's rest, after these lines of the trace
pub record IsTraced (lines : List (List ℕ)) (old new : ReplayState) : Type 0 where
  pub lines_are : lines_left old ≡ lines ++ lines_left new
  pub alike : EndsAlike (replay_rest old) (replay_rest new)
  pub count : consumed_at_end old ≡ consumed_at_end new

-- the run was made to its end
pub record RanOut (end : End) (old new : ReplayState) : Type 0 where
  pub alike : EndsAlike (replay_rest old) (ends new.state end)
  pub count : new.consumed ≡ consumed_at_end old
