-- What `capture` prints and writes, and why it answers as it does.
use Rattle.std.specs.Prelude.{◌≡◌, ◌≢◌, ◌⊎◌, ℕ, ◌+◌, ◌*◌, ◌<◌, ◌≤◌, List, [], ◌∷◌, ◌++◌, length}
use Rattle.std.specs.Prelude.{take, All, codes, decimal, Option, IfSome, option_map, Result, Ok, Err}
use Rattle.mug_outside.specs.Told.{ReadWithin, behind, TookLess}
use Rattle.mug_outside.specs.Cause.{Rose}
use Rattle.mug_text.specs.Text.{IsText, StopsAt}
use Rattle.mug_text.specs.declared.limits.TheConstants.{PAGE_LIMIT}
use Rattle.arrival_file.specs.Format.{arrivals_of}
use Rattle.arrival_file.specs.declared.arrival.ArrivalFault.{ArrivalFault}
use Rattle.arrival_file.specs.declared.arrival.ArrivalFault.TheVariants as arrival_fault
use Rattle.arrival_file.specs.declared.arrival.Arrivals.{Arrivals}
use Rattle.arrival_file.specs.declared.limits.TheConstants.{FILE_LIMIT}
use Rattle.input_log.specs.declared.item.LogItem.{LogItem}
use Rattle.input_log.specs.declared.item.LogItem.TheVariants.{Head}
use Rattle.arrival_file.specs.Ranges.{IsInRange}
use Rattle.arrival_file.specs.declared.arrival.Arrival.{Arrival}
use Rattle.input_log.specs.Inputs.{logged}
use Rattle.input_log.specs.Items.{IsItem}
use Rattle.session_store.specs.Keeping.{file}
use Rattle.session_store.specs.Recovery.{Recovers, Whole, place_after}
use Rattle.capture_engine.specs.Acks.{acks, acks_below, text_of_lines}
use Rattle.capture_engine.specs.Frames.{AreFramesOf, fitting}
use Rattle.capture_engine.specs.Outside.{IsEarly, Shown}
use Rattle.capture_engine.specs.declared.recorder.CaptureFault.{CaptureFault}
use Rattle.capture_engine.specs.declared.recorder.CaptureFault.TheVariants as fault
use Rattle.mugshot_cli.specs.Outside.{Outside, Still, Supply}
use Rattle.mugshot_cli.specs.Printing.{counts_text}
use Rattle.mugshot_cli.specs.ThinPage.Reading.{IsThin}
use Rattle.mugshot_cli.specs.ThinPage.Run.{Run, from_inputs, plain}
use Rattle.mugshot_cli.specs.declared.counts.Counts.{Counts}
use Rattle.mugshot_cli.specs.declared.thin_page.reading.Statement.{Statement}
use Rattle.mugshot_cli.specs.declared.thin_page.end.End.{End}
use Rattle.mugshot_cli.specs.declared.thin_page.end.End.TheVariants as end
use Rattle.mugshot_cli.specs.declared.thin_page.recording.RunOutcome.{RunOutcome}
use Rattle.mugshot_cli.specs.declared.thin_page.recording.RunOutcome.TheVariants as ran
use Rattle.mugshot_cli.specs.declared.sources.ArrivalsRefusal.{ArrivalsRefusal}
use Rattle.mugshot_cli.specs.declared.sources.ArrivalsRefusal.TheVariants as arrivals_refusal
use Rattle.mugshot_cli.specs.declared.capturing.CaptureOutcome.{CaptureOutcome}
use Rattle.mugshot_cli.specs.declared.capturing.CaptureOutcome.TheVariants as capture
use Rattle.mugshot_cli.specs.declared.sources.PageRefusal.{PageRefusal}
use Rattle.mugshot_cli.specs.declared.sources.PageRefusal.TheVariants as page_refusal

-- ---- the lines

-- the first word of the last line; a run over arrivals has no other end
abbrev pub end_word : End → List ℕ
end_word end.Finished = codes "done"
end_word end.Budget = codes "budget"
end_word other = []

-- the last line: the numbers of started and of dropped turns, of what is counted, of inputs and of
-- frames
abbrev pub summary : End → ℕ → ℕ → Counts → ℕ → ℕ → List ℕ
summary end turns dropped counts inputs frames =
    end_word end ++ codes " turns=" ++ decimal turns ++ codes " dropped=" ++ decimal dropped
    ++ counts_text counts ++ codes " inputs=" ++ decimal inputs
    ++ codes " frames=" ++ decimal frames ++ codes "\n"

-- the same of a run and the number of its frames
abbrev pub summary_line : Run → ℕ → List ℕ
summary_line run frames =
    summary run.end run.last.turns run.dropped run.counts (length run.inputs) frames

-- a line for each frame, and the last line
abbrev pub capture_lines : Run → List (List LogItem) → List (List ℕ)
capture_lines run frames = acks frames ++ summary_line run (length frames) ∷ []

-- of these lines n were taken whole, and of the next one less than the whole
pub record FailedAt (lines : List (List ℕ)) (n : ℕ) (taken taken' : Option (List ℕ)) : Type 0 where
  pub before : List (List ℕ)
  pub line : List ℕ
  pub after : List (List ℕ)
  pub is : lines ≡ before ++ line ∷ after
  pub number : n ≡ length before
  pub less : TookLess line (behind (text_of_lines before) taken) taken'

-- ---- what a recording did, from an empty disk on

-- the bytes that the disk held at the start and those of these frames
abbrev pub HoldsFrames : List (List LogItem) → Shown → Shown → Type 0
HoldsFrames frames start now = now.held ≡ option_map (λ _. file frames) start.held

-- the output took these lines since the start
abbrev pub TookLines : List (List ℕ) → Shown → Shown → Type 0
TookLines lines start now = now.taken ≡ behind (text_of_lines lines) start.taken

-- the disk made the writes and syncs of the header and of n frames
abbrev pub MadeFrames : ℕ → Shown → Shown → Type 0
MadeFrames n start now = IsEarly start.moment → now.moment ≡ start.moment + (2 + 4 * n)

-- the disk holds some bytes, where they are told
abbrev pub IsNotEmpty : Shown → Type 0
IsNotEmpty start = IfSome start.held (λ bytes. 0 < length bytes)

-- these frames fit and are committed, and these lines were taken
pub record HasRecorded (frames : List (List LogItem)) (lines : List (List ℕ))
    (start now : Shown) : Type 0 where
  pub fit : fitting frames ≡ frames
  pub file_is : HoldsFrames frames start now
  pub printed : TookLines lines start now
  pub time : MadeFrames (length frames) start now

-- the disk failed k writes and syncs after the start: the lines that name a number below k were
-- taken, and each frame of which a write was made fits
pub record FailedAfter (k : ℕ) (frames : List (List LogItem)) (start now : Shown) : Type 0 where
  pub time : now.moment ≡ start.moment + k
  pub printed : TookLines (acks_below k 0 2 frames) start now
  pub fit : (j : ℕ) → 2 + 4 * j < k → fitting (take (j + 1) frames) ≡ take (j + 1) frames

-- the disk failed, from an early moment on after a number of writes and syncs
pub record HasFailedDisk (frames : List (List LogItem)) (start now : Shown) : Type 0 where
  pub rose : Rose start.disk now.disk
  pub when : IsEarly start.moment → (k : ℕ) × FailedAfter k frames start now

-- the output failed after n whole lines: the disk holds one frame more than these acknowledge, or
-- all
pub record HasFailedOutput (run : Run) (frames : List (List LogItem))
    (start now : Shown) : Type 0 where
  pub n : ℕ
  pub rose : Rose start.out now.out
  pub failed : FailedAt (capture_lines run frames) n start.taken now.taken
  pub fit : fitting (take (n + 1) frames) ≡ take (n + 1) frames
  pub file_is : HoldsFrames (take (n + 1) frames) start now
  pub time : MadeFrames (length (take (n + 1) frames)) start now

-- memory was out after k frames
abbrev pub HasStarved : List (List LogItem) → Shown → Shown → Type 0
HasStarved frames start now = (k : ℕ) × HasRecorded (take k frames) (acks (take k frames)) start now

-- not all frames fit, and those that do are committed
pub record HasFilled (frames : List (List LogItem)) (start now : Shown) : Type 0 where
  pub more : fitting frames ≢ frames
  pub recorded : HasRecorded (fitting frames) (acks (fitting frames)) start now

-- by the fault: what a recording that was halted had done
abbrev pub HaltDid : CaptureFault → Run → List (List LogItem) → Shown → Shown → Type 0
HaltDid fault.NotEmpty run frames start now = Still start now × IsNotEmpty start
HaltDid fault.Full run frames start now = HasFilled frames start now
HaltDid fault.DiskFault run frames start now = HasFailedDisk frames start now
HaltDid fault.WriteFault run frames start now = HasFailedOutput run frames start now
HaltDid fault.NoMemory run frames start now = HasStarved frames start now

-- all frames are committed, all lines were taken, and the run ends so
pub record HasEnded (end : End) (run : Run) (frames : List (List LogItem))
    (start now : Shown) : Type 0 where
  pub end_is : run.end ≡ end
  pub recorded : HasRecorded frames (capture_lines run frames) start now

-- by what the recording came to, of a run with this budget and its frames
abbrev pub RunDid : RunOutcome → ℕ → Run → List (List LogItem) → Shown → Shown → Type 0
RunDid ran.Done budget run frames start now = HasEnded end.Finished run frames start now
RunDid (ran.Budget steps) budget run frames start now =
    (steps ≡ budget) × HasEnded end.Budget run frames start now
RunDid (ran.Halted why) budget run frames start now = HaltDid why run frames start now

-- ---- what `capture` did

-- a thin page within the limit
pub record IsThinPage (bytes : List ℕ) (statements : List Statement) : Type 0 where
  pub within : length bytes ≤ PAGE_LIMIT
  pub thin : IsThin bytes statements

-- UTF-8 within the limit
pub record IsPage (bytes : List ℕ) : Type 0 where
  pub within : length bytes ≤ PAGE_LIMIT
  pub units : List ℕ
  pub text : IsText bytes units

-- bytes within the limit, of which the one at this place is the first that isn't UTF-8
pub record IsNoText (bytes : List ℕ) (at : ℕ) : Type 0 where
  pub within : length bytes ≤ PAGE_LIMIT
  pub stops : StopsAt bytes at

-- UTF-8 within the limit, but not a thin page
pub record IsOtherPage (bytes : List ℕ) : Type 0 where
  pub page : IsPage bytes
  pub other : (statements : List Statement) → IsThin bytes statements → ⊥

-- no bytes are held
abbrev pub IsEmpty : Shown → Type 0
IsEmpty start = IfSome start.held (λ bytes. bytes ≡ [])

-- a source has these bytes left, where they are told
abbrev pub IsBytes : Supply → List ℕ → Type 0
IsBytes source bytes = IfSome source.left (λ b. b ≡ bytes)

-- a source has a thin page left, where it is told
abbrev pub HasThinPage : Supply → Type 0
HasThinPage page = IfSome page.left (λ b. (statements : List Statement) × IsThinPage b statements)

-- what an arrival file reads as, where it is told
abbrev pub ReadsAs : Supply → Result Arrivals ArrivalFault → Type 0
ReadsAs arrivals answer = IfSome arrivals.left (λ b. arrivals_of b ≡ answer)

-- the items of this run stand so in frames
abbrev pub AreRunFrames : List ℕ → ℕ → List ℕ → Run → List (List LogItem) → Type 0
AreRunFrames base budget page run frames = AreFramesOf (Head base budget page) run.inputs frames

-- the disk was empty, the page is thin and the arrival file reads, and their run was recorded
pub record DidRun (outcome : RunOutcome) (budget : ℕ) (before : Outside)
    (now : Shown) : Type 0 where
  pub empty : IsEmpty before.shows
  pub bytes : List ℕ
  pub statements : List Statement
  pub given : Arrivals
  pub frames : List (List LogItem)
  pub page_is : IsBytes before.page bytes
  pub page : IsThinPage bytes statements
  pub arrivals_are : ReadsAs before.arrivals (Ok given)
  pub frames_are : AreRunFrames given.base budget bytes (plain budget statements given.turns) frames
  pub did : RunDid outcome budget (plain budget statements given.turns) frames before.shows now

-- why a page is refused, by its bytes and its source's count of faults; what was read of it before
-- a fault is within the limit
abbrev pub PageRefused : PageRefusal → Supply → Supply → Type 0
PageRefused page_refusal.ReadFault before after =
    Rose before.faults after.faults × ReadWithin PAGE_LIMIT before.left after.left
PageRefused page_refusal.TooLarge before after = IfSome before.left (λ b. PAGE_LIMIT < length b)
PageRefused (page_refusal.NotUtf8 at) before after = IfSome before.left (λ b. IsNoText b at)
PageRefused page_refusal.NotBuilt before after = IfSome before.left IsOtherPage
PageRefused page_refusal.NoMemory before after = Unit {0}

-- why an arrival file is refused, behind a thin page
abbrev pub FileRefused : ArrivalsRefusal → Supply → Supply → Type 0
FileRefused arrivals_refusal.ReadFault before after =
    Rose before.faults after.faults × ReadWithin FILE_LIMIT before.left after.left
FileRefused (arrivals_refusal.Line line kind) before after =
    ReadsAs before (Err (arrival_fault.Line line kind))
FileRefused arrivals_refusal.NotBuilt before after =
    IfSome before.left (λ b. (line : ℕ) × (arrivals_of b ≡ Err (arrival_fault.NotBuilt line)))
FileRefused arrivals_refusal.NoMemory before after = Unit {0}

-- nothing was done, on an empty disk
pub record LeftEmpty (before after : Shown) : Type 0 where
  pub still : Still before after
  pub empty : IsEmpty before

-- by the outcome: nothing was done and why, or the run was recorded
abbrev pub CaptureDid : CaptureOutcome → ℕ → Outside → Outside → Type 0
CaptureDid capture.NotEmpty budget before after =
    Still before.shows after.shows × IsNotEmpty before.shows
CaptureDid capture.DiskFault budget before after =
    Still before.shows after.shows × Rose before.shows.disk after.shows.disk
CaptureDid capture.NoMemory budget before after = Still before.shows after.shows
CaptureDid (capture.Page why) budget before after =
    LeftEmpty before.shows after.shows × PageRefused why before.page after.page
CaptureDid (capture.Arrivals why) budget before after =
    LeftEmpty before.shows after.shows × HasThinPage before.page
    × FileRefused why before.arrivals after.arrivals
CaptureDid (capture.Ran outcome) budget before after = DidRun outcome budget before after.shows

-- ---- the finished file, and the replay of it

-- one turn at most
abbrev pub IsOneTurn : List Arrival → Type 0
IsOneTurn arrivals = (arrivals ≡ []) ⊎ ((arrival : Arrival) × (arrivals ≡ arrival ∷ []))

-- what the session file of this run comes to: it recovers to the head and the inputs, the run from
-- these is the recorded run, and it is finished or over the budget
pub record Replayable (base : List ℕ) (budget : ℕ) (page : List ℕ) (statements : List Statement)
    (run : Run) (frames : List (List LogItem)) : Type 0 where
  pub recovers : Recovers (file frames)
      (Whole (Head base budget page ∷ logged run.inputs) (place_after frames))
  pub replayed : from_inputs budget statements run.inputs ≡ run
  pub ended : (run.end ≡ end.Finished) ⊎ (run.end ≡ end.Budget)

-- it does so for a capture of a page and arrivals of at most one turn, whose frames fit
abbrev pub CaptureIsReplayed : Type 0
CaptureIsReplayed =
    (base page : List ℕ) (budget : ℕ) (statements : List Statement) (arrivals : List Arrival)
    (frames : List (List LogItem))
    → IsItem (Head base budget page) → All IsInRange arrivals → 1 ≤ budget → IsOneTurn arrivals
    → AreRunFrames base budget page (plain budget statements arrivals) frames
    → fitting frames ≡ frames
    → Replayable base budget page statements (plain budget statements arrivals) frames
