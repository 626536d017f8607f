-- The recording of a run, input by input. Each word takes what is shown and what the recorder keeps
-- before a call, and then what is shown and what it keeps after the call.
use Rattle.std.specs.Prelude.{◌≡◌, ◌⊎◌, ℕ, false, List, [], ◌∷◌, length, map}
use Rattle.std.specs.Prelude.{Option, Result, Ok, Err}
use Rattle.page_inputs.specs.Inputs.{begins_turn}
use Rattle.page_inputs.specs.Turns.{turns}
use Rattle.page_inputs.specs.declared.input.PageInput.{PageInput}
use Rattle.input_log.specs.Inputs.{logged}
use Rattle.input_log.specs.declared.item.LogItem.{LogItem}
use Rattle.capture_engine.specs.Frames.{AreFramesOf}
use Rattle.capture_engine.specs.Outside.{Shown, seen}
use Rattle.capture_engine.specs.Recording.{Committed, Halted, Recorded, RecorderState, Unchanged}
use Rattle.capture_engine.specs.Recording.{inputs_in}
use Rattle.capture_engine.specs.declared.recorder.CaptureFault.{CaptureFault}
use Rattle.capture_engine.specs.inner.Logging.{Logging}
use Rattle.mugshot_cli.specs.Capturing.{RunDid}
use Rattle.mugshot_cli.specs.Outside.{Stream}
use Rattle.mugshot_cli.specs.ThinPage.Run.{Run}
use Rattle.mugshot_cli.specs.ThinPage.inner.PlainState.{EndsIn, PlainState}
use Rattle.mugshot_cli.specs.declared.thin_page.end.PlainEnd.{PlainEnd}
use Rattle.mugshot_cli.specs.declared.thin_page.end.PlainEnd.TheVariants.{Finished, Budget}
use Rattle.mugshot_cli.specs.declared.thin_page.recording.RunOutcome.{RunOutcome}
use Rattle.mugshot_cli.specs.declared.thin_page.recording.RunOutcome.TheVariants as ran

-- no item of the turn is logged yet, or the input is an answer within it
pub record IsReady (start now : Shown) (head : LogItem) (all : List PageInput) (input : PageInput)
    (more : List PageInput) (r : RecorderState) : Type 0 where
  pub so_far : Logging start now head all (input ∷ more) r
  pub turn : (so_far.turn ≡ []) ⊎ (begins_turn input ≡ false)

-- in front of this input the turn that runs is over where the input begins another
pub record Begins (input : PageInput) (now now' : Shown) (r r' : RecorderState) : Type 0 where
  pub ready : (start : Shown) (head : LogItem) (all more : List PageInput)
      → Logging start now head all (input ∷ more) r → IsReady start now' head all input more r'

-- the recording was halted at this input, or in front of it
pub record InputHalts (input : PageInput) (fault : CaptureFault) (now now' : Shown)
    (r : RecorderState) : Type 0 where
  pub halted : (start : Shown) (head : LogItem) (all more : List PageInput)
      (frames : List (List LogItem))
      → Logging start now head all (input ∷ more) r → AreFramesOf head all frames
      → Halted fault start now' frames

-- this input is logged
pub record LogsInput (input : PageInput) (now now' : Shown) (r r' : RecorderState) : Type 0 where
  pub logged : (start : Shown) (head : LogItem) (all more : List PageInput)
      → Logging start now head all (input ∷ more) r → Logging start now' head all more r'

-- after its head these inputs are recorded, and their last turn is over
pub record RecordsAll (inputs : List PageInput) (now now' : Shown)
    (r r' : RecorderState) : Type 0 where
  pub recorded : (start : Shown) (head : LogItem)
      → Recorded start now head [] [] r → Recorded start now' head (map logged (turns inputs)) [] r'

-- their recording was halted
pub record HaltsIn (inputs : List PageInput) (fault : CaptureFault) (now now' : Shown)
    (r : RecorderState) : Type 0 where
  pub halted : (start : Shown) (head : LogItem) (frames : List (List LogItem))
      → Recorded start now head [] [] r → AreFramesOf head inputs frames
      → Halted fault start now' frames

-- what the recording of a run with this budget came to
abbrev pub recorded_as : ℕ → Result PlainEnd CaptureFault → RunOutcome
recorded_as budget (Ok Finished) = ran.Done
recorded_as budget (Ok Budget) = ran.Budget budget
recorded_as budget (Err fault) = ran.Halted fault

-- the last line of a run that is over was written, or the output failed
pub record Finishes (result : Result PlainEnd CaptureFault) (r : PlainState)
    (recorder : RecorderState) (before after : Stream) : Type 0 where
  pub did : (start : Shown) (whole : Run) (frames : List (List LogItem)) (held : Option (List ℕ))
      (moment disk budget : ℕ)
      → EndsIn whole r → inputs_in frames ≡ length whole.inputs
      → Committed start (seen held moment before.taken disk before.faults) frames [] recorder
      → RunDid (recorded_as budget result) budget whole frames start
      (seen held moment after.taken disk after.faults)

-- a run was recorded behind this head, whatever was shown when the session was begun
pub record RecordsRun (outcome : RunOutcome) (head : LogItem) (budget : ℕ) (run : Run)
    (now now' : Shown) : Type 0 where
  pub recorded : (start : Shown) → Unchanged start now
      → (frames : List (List LogItem)) × AreFramesOf head run.inputs frames
      × RunDid outcome budget run frames start now'
