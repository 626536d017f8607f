-- What the top call does, by the command that the words spell.
use Rattle.std.specs.Prelude.{◌≡◌, ◌⊎◌, ℕ, List, [], Some, Ok}
use Rattle.mug_outside.specs.Cause.{Rose}
use Rattle.arrival_file.specs.Format.{arrivals_of}
use Rattle.arrival_file.specs.declared.arrival.Arrivals.{Arrivals}
use Rattle.input_log.specs.declared.item.LogItem.{LogItem}
use Rattle.session_store.specs.Recovery.{Recovers, Whole}
use Rattle.capture_engine.specs.Frames.{fitting}
use Rattle.capture_engine.specs.Outside.{Shown}
use Rattle.mugshot_cli.specs.Command.{Spells, SpellsNone}
use Rattle.mugshot_cli.specs.Capturing.{AreRunFrames, CaptureDid, IsPage, IsThinPage}
use Rattle.mugshot_cli.specs.Listing.{ListDid}
use Rattle.mugshot_cli.specs.Outcome.{TookLine, line_of, of_capture, of_list, of_replay, status_of}
use Rattle.mugshot_cli.specs.Outside.{Outside, Still}
use Rattle.mugshot_cli.specs.Replaying.{ReplayDid, Replays}
use Rattle.mugshot_cli.specs.ThinPage.Run.{Run, plain}
use Rattle.mugshot_cli.specs.declared.capturing.CaptureOutcome.{CaptureOutcome}
use Rattle.mugshot_cli.specs.declared.command.Command.{Command}
use Rattle.mugshot_cli.specs.declared.command.Command.TheVariants as command
use Rattle.mugshot_cli.specs.declared.listing.ListOutcome.{ListOutcome}
use Rattle.mugshot_cli.specs.declared.outcome.Outcome.{Outcome}
use Rattle.mugshot_cli.specs.declared.outcome.Outcome.TheVariants.{Usage, NoMemory}
use Rattle.mugshot_cli.specs.declared.outcome.Status.{Status}
use Rattle.mugshot_cli.specs.declared.outcome.Status.TheVariants as status
use Rattle.mugshot_cli.specs.declared.replaying.ReplayOutcome.{ReplayOutcome}
use Rattle.mugshot_cli.specs.declared.thin_page.end.End.TheVariants as end
use Rattle.mugshot_cli.specs.declared.thin_page.reading.Statement.{Statement}

-- the command did what its outcome says, and this is what it came to
abbrev pub Did : Command → Outcome → Outside → Outside → Type 0
Did (command.List session) r before after =
    (own : ListOutcome) × (r ≡ of_list own) × ListDid own before.shows after.shows
Did (command.Replay session) r before after =
    (own : ReplayOutcome) × (r ≡ of_replay own) × ReplayDid own before.shows after.shows
Did (command.Capture page arrivals session steps) r before after =
    (own : CaptureOutcome) × (r ≡ of_capture own) × CaptureDid own steps before after

-- what the words came to: their command did, or nothing was done
pub record WordsDid (words : List (List ℕ)) (r : Outcome) (before after : Outside) : Type 0 where
  pub spelled : (c : Command) → Spells words c → Did c r before after
  pub unspelled : SpellsNone words → ((r ≡ Usage) ⊎ (r ≡ NoMemory)) × Still before.shows after.shows

-- there is an outcome that the status and the line on `err` tell, and by which the words' command
-- did what it does
pub record TopDid (words : List (List ℕ)) (answer : Status) (before after : Outside) : Type 0 where
  pub outcome : Outcome
  pub status_is : answer ≡ status_of outcome
  pub said : TookLine (line_of outcome) before.err after.err
  pub did : WordsDid words outcome before after

-- ---- that it answers at all

-- neither the disk's count of faults rose nor the output's
pub record IsQuiet (before after : Shown) : Type 0 where
  pub disk : Rose before.disk after.disk → ⊥
  pub out : Rose before.out after.out → ⊥

-- it is this status, or there was no memory
abbrev pub IsOrStarved : Status → Status → Type 0
IsOrStarved answer s = (answer ≡ s) ⊎ (answer ≡ status.NoMemory)

-- `list` of a session that reads is done
pub record ListCompletes (words : List (List ℕ)) (answer : Status)
    (before after : Shown) : Type 0 where
  pub completes : (session bytes : List ℕ) (items : List LogItem) (end : ℕ)
      → Spells words (command.List session)
      → before.held ≡ Some bytes → Recovers bytes (Whole items end) → IsQuiet before after
      → IsOrStarved answer status.Done

-- `replay` of a session with a thin page is done where its run is finished or cut, and over the
-- budget exactly where its run ends so
pub record AnswersRun (run : Run) (answer : Status) : Type 0 where
  pub done : (run.end ≡ end.Finished) ⊎ (run.end ≡ end.Cut) → IsOrStarved answer status.Done
  pub spent : run.end ≡ end.Budget → IsOrStarved answer status.Budget

pub record ReplayCompletes (words : List (List ℕ)) (answer : Status)
    (before after : Shown) : Type 0 where
  pub completes : (session bytes : List ℕ) (budget : ℕ) (run : Run)
      → Spells words (command.Replay session)
      → before.held ≡ Some bytes → Replays bytes budget run → IsQuiet before after
      → AnswersRun run answer

-- what a capture is given that answers: a thin page, an arrival file that reads, an empty disk, a
-- run that is finished, and frames that fit
pub record CanCapture (steps : ℕ) (before after : Outside) : Type 0 where
  pub bytes : List ℕ
  pub file : List ℕ
  pub statements : List Statement
  pub given : Arrivals
  pub page_is : before.page.left ≡ Some bytes
  pub text : IsPage bytes
  pub page : IsThinPage bytes statements
  pub file_is : before.arrivals.left ≡ Some file
  pub are : arrivals_of file ≡ Ok given
  pub empty : before.shows.held ≡ Some []
  pub finished : (plain steps statements given.turns).end ≡ end.Finished
  pub frames : List (List LogItem)
  pub frames_are : AreRunFrames given.base steps bytes (plain steps statements given.turns) frames
  pub fit : fitting frames ≡ frames
  pub quiet : IsQuiet before.shows after.shows
  pub page_quiet : Rose before.page.faults after.page.faults → ⊥
  pub arrivals_quiet : Rose before.arrivals.faults after.arrivals.faults → ⊥

-- `capture` of it is done
pub record CaptureCompletes (words : List (List ℕ)) (answer : Status)
    (before after : Outside) : Type 0 where
  pub completes : (page arrivals session : List ℕ) (steps : ℕ)
      → Spells words (command.Capture page arrivals session steps) → CanCapture steps before after
      → IsOrStarved answer status.Done
