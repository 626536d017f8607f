-- How the items of a recording stand in frames.
use Rattle.std.specs.Prelude.{◌≡◌, ◌≢◌, ◌⊎◌, ℕ, ◌+◌, ◌≤◌, nat_le, List, [], ◌∷◌, ◌++◌, length, map, if◌then◌else◌}
use Rattle.page_inputs.specs.Turns.{turns}
use Rattle.page_inputs.specs.declared.input.PageInput.{PageInput}
use Rattle.input_log.specs.Inputs.{logged}
use Rattle.input_log.specs.declared.item.LogItem.{LogItem}
use Rattle.session_store.specs.Session.{payload_of}
use Rattle.session_store.specs.Recovery.{place_after}
use Rattle.session_store.specs.declared.keeper.TheConstants.{SESSION_LIMIT}
use Rattle.capture_engine.specs.declared.recorder.TheConstants.{PAYLOAD_LIMIT}

-- one item or more, whose bytes are within the limit of a payload, or one larger item alone
abbrev pub IsRun : List LogItem → Type 0
IsRun items = (items ≢ []) × ((length (payload_of items) ≤ PAYLOAD_LIMIT) ⊎ (length items ≡ 1))

-- the run stands in front of the rest, and no longer one does
pub record IsLongestRun (run rest : List LogItem) : Type 0 where
  pub is_run : IsRun run
  pub longest : (more others : List LogItem) → rest ≡ more ++ others → IsRun (run ++ more)
      → more ≡ []

-- the runs of a turn's items: each is the longest at its place, and the last ends with the turn
abbrev pub AreRuns : List LogItem → List (List LogItem) → Type 0
AreRuns items [] = items ≡ []
AreRuns items (run ∷ runs) =
    (rest : List LogItem) × (items ≡ run ++ rest) × IsLongestRun run rest × AreRuns rest runs

-- the runs of some turns, turn by turn
abbrev pub AreTurnsRuns : List (List LogItem) → List (List LogItem) → Type 0
AreTurnsRuns [] runs = runs ≡ []
AreTurnsRuns (turn ∷ turns) runs =
    (first : List (List LogItem)) × (others : List (List LogItem)) × (runs ≡ first ++ others)
    × AreRuns turn first × AreTurnsRuns turns others

-- the frames of a session with this head, and with these items turn by turn: the head alone, and
-- then the runs
pub record AreFrames (head : LogItem) (turns frames : List (List LogItem)) : Type 0 where
  pub runs : List (List LogItem)
  pub are_runs : AreTurnsRuns turns runs
  pub is : frames ≡ (head ∷ []) ∷ runs

-- the frames of a session with this head and these inputs
abbrev pub AreFramesOf : LogItem → List PageInput → List (List LogItem) → Type 0
AreFramesOf head inputs frames = AreFrames head (map logged (turns inputs)) frames

-- of frames from this offset on, those before the first whose end would pass the limit of a session
abbrev pub fitting_from : ℕ → List (List LogItem) → List (List LogItem)
fitting_from at [] = []
fitting_from at (f ∷ frames) =
    if nat_le (at + 5 + length (payload_of f)) SESSION_LIMIT
    then f ∷ fitting_from (at + 5 + length (payload_of f)) frames
    else []

-- of all frames
abbrev pub fitting : List (List LogItem) → List (List LogItem)
fitting frames = fitting_from (place_after []) frames
