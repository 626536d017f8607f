-- What `replay` prints of a run.
use Rattle.std.specs.Prelude.{ℕ, nat_lt, List, [], ◌∷◌, ◌++◌, length, drop, map, codes, decimal}
use Rattle.std.specs.Prelude.{if◌then◌else◌}
use Rattle.mugshot_cli.specs.ThinPage.Machine.{State}
use Rattle.mugshot_cli.specs.ThinPage.Run.{Run, visited}
use Rattle.capture_engine.specs.Acks.{text_of_lines}
use Rattle.mugshot_cli.specs.Printing.{counts_text}
use Rattle.mugshot_cli.specs.declared.counts.Counts.{Counts}
use Rattle.mugshot_cli.specs.declared.thin_page.end.End.{End}
use Rattle.mugshot_cli.specs.declared.thin_page.end.End.TheVariants.{Finished, Budget, Cut}
use Rattle.mugshot_cli.specs.declared.thin_page.end.End.TheVariants.{Diverged}

-- the start of a turn, by its number from 1 and its moment
abbrev pub turn_line : ℕ → ℕ → List ℕ
turn_line turns clock =
    codes "turn " ++ decimal turns ++ codes " load " ++ decimal clock ++ codes "\n"

-- a line of the console
abbrev pub log_line : List ℕ → List ℕ
log_line text = codes "log " ++ text ++ codes "\n"

-- the start of a turn, where more were started than before
abbrev pub turn_lines : ℕ → State → List (List ℕ)
turn_lines turns s = if nat_lt turns s.turns then turn_line s.turns s.clock ∷ [] else []

-- the console's lines after the first n
abbrev pub log_lines : ℕ → State → List (List ℕ)
log_lines n s = map log_line (drop n s.console)

-- what a step that left this state adds to the trace, where so many turns were started and so many
-- lines logged before it
abbrev pub step_lines : ℕ → ℕ → State → List (List ℕ)
step_lines turns n s = turn_lines turns s ++ log_lines n s

-- what the steps between these states add
abbrev pub lines_after : State → List State → List (List ℕ)
lines_after old [] = []
lines_after old (s ∷ states) = step_lines old.turns (length old.console) s ++ lines_after s states

-- of the states that a run visits, the first adds nothing
abbrev pub trace_lines : List State → List (List ℕ)
trace_lines [] = []
trace_lines (s ∷ states) = lines_after s states

-- the last line: its word, and the numbers of turns, of what is counted, and of consumed inputs
abbrev pub last_line : List ℕ → ℕ → Counts → ℕ → List ℕ
last_line word turns counts inputs =
    word ++ codes " turns=" ++ decimal turns ++ counts_text counts
    ++ codes " inputs=" ++ decimal inputs ++ codes "\n"

-- a run that diverges has none
abbrev pub last_lines : End → ℕ → Counts → ℕ → List (List ℕ)
last_lines Finished turns counts inputs = last_line (codes "end") turns counts inputs ∷ []
last_lines Cut turns counts inputs = last_line (codes "cut") turns counts inputs ∷ []
last_lines Budget turns counts inputs = last_line (codes "budget") turns counts inputs ∷ []
last_lines (Diverged wanted found) turns counts inputs = []

-- those of a run
abbrev pub end_lines : Run → List (List ℕ)
end_lines run = last_lines run.end run.last.turns run.counts (length run.inputs)

-- all lines of a run
abbrev pub trace : Run → List (List ℕ)
trace run = trace_lines (visited run) ++ end_lines run

-- the text of a run
abbrev pub trace_text : Run → List ℕ
trace_text run = text_of_lines (trace run)
