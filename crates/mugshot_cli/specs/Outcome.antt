-- What a command came to: its status, and the line that a refusal writes.
use Rattle.std.specs.Prelude.{◌≡◌, ℕ, List, [], ◌++◌, codes, decimal}
use Rattle.mug_outside.specs.Told.{behind, TookPart}
use Rattle.mug_outside.specs.Cause.{Rose}
use Rattle.arrival_file.specs.declared.arrival.ArrivalKind.{ArrivalKind}
use Rattle.arrival_file.specs.declared.arrival.ArrivalKind.TheVariants as kind
use Rattle.mugshot_cli.specs.declared.thin_page.end.Want.{Want}
use Rattle.mugshot_cli.specs.declared.thin_page.end.Want.TheVariants as want
use Rattle.input_log.specs.declared.item.Word.{Word}
use Rattle.input_log.specs.declared.item.Word.TheVariants as word
use Rattle.capture_engine.specs.declared.recorder.CaptureFault.{CaptureFault}
use Rattle.capture_engine.specs.declared.recorder.CaptureFault.TheVariants as fault
use Rattle.mugshot_cli.specs.Outside.{Stream}
use Rattle.mugshot_cli.specs.declared.sources.ArrivalsRefusal.{ArrivalsRefusal}
use Rattle.mugshot_cli.specs.declared.sources.ArrivalsRefusal.TheVariants as file
use Rattle.mugshot_cli.specs.declared.capturing.CaptureOutcome.{CaptureOutcome}
use Rattle.mugshot_cli.specs.declared.capturing.CaptureOutcome.TheVariants as capture
use Rattle.mugshot_cli.specs.declared.sources.PageRefusal.{PageRefusal}
use Rattle.mugshot_cli.specs.declared.sources.PageRefusal.TheVariants as page
use Rattle.mugshot_cli.specs.declared.listing.ListOutcome.{ListOutcome}
use Rattle.mugshot_cli.specs.declared.listing.ListOutcome.TheVariants as list
use Rattle.mugshot_cli.specs.declared.replaying.ReplayOutcome.{ReplayOutcome}
use Rattle.mugshot_cli.specs.declared.replaying.ReplayOutcome.TheVariants as replay
use Rattle.mugshot_cli.specs.declared.session.SessionRefusal.{SessionRefusal}
use Rattle.mugshot_cli.specs.declared.session.SessionRefusal.TheVariants as refusal
use Rattle.mugshot_cli.specs.declared.thin_page.recording.RunOutcome.{RunOutcome}
use Rattle.mugshot_cli.specs.declared.thin_page.recording.RunOutcome.TheVariants as ran
use Rattle.mugshot_cli.specs.declared.outcome.Outcome.{Outcome}
use Rattle.mugshot_cli.specs.declared.outcome.Outcome.TheVariants.{Done, Usage, PageTooLarge}
use Rattle.mugshot_cli.specs.declared.outcome.Outcome.TheVariants.{PageNotUtf8, BadArrivals, Budget}
use Rattle.mugshot_cli.specs.declared.outcome.Outcome.TheVariants.{NotEmpty, NotASession, Damaged}
use Rattle.mugshot_cli.specs.declared.outcome.Outcome.TheVariants.{Diverged, Full, ReadFault}
use Rattle.mugshot_cli.specs.declared.outcome.Outcome.TheVariants.{DiskFault, WriteFault, NoMemory}
use Rattle.mugshot_cli.specs.declared.outcome.Outcome.TheVariants.{NotBuilt}
use Rattle.mugshot_cli.specs.declared.outcome.Status.{Status}
use Rattle.mugshot_cli.specs.declared.outcome.Status.TheVariants as status

abbrev pub status_of : Outcome → Status
status_of Done = status.Done
status_of Usage = status.Usage
status_of PageTooLarge = status.BadPage
status_of (PageNotUtf8 at) = status.BadPage
status_of (BadArrivals line kind) = status.BadArrivals
status_of (Budget steps) = status.Budget
status_of NotEmpty = status.NotEmpty
status_of NotASession = status.NotASession
status_of (Damaged at) = status.Damaged
status_of (Diverged entry wanted found) = status.Diverged
status_of Full = status.Full
status_of ReadFault = status.ReadFault
status_of NotBuilt = status.NotBuilt
status_of DiskFault = status.DiskFault
status_of WriteFault = status.WriteFault
status_of NoMemory = status.NoMemory

-- the number with which the program ends
abbrev pub code_of : Status → ℕ
code_of status.Done = 0
code_of status.Usage = 2
code_of status.BadPage = 3
code_of status.BadArrivals = 4
code_of status.Reserved = 5
code_of status.Budget = 6
code_of status.NotEmpty = 7
code_of status.NotASession = 8
code_of status.Damaged = 9
code_of status.NoSuchStep = 10
code_of status.Diverged = 11
code_of status.Full = 12
code_of status.ReadFault = 20
code_of status.DiskFault = 21
code_of status.WriteFault = 22
code_of status.NoMemory = 30
code_of status.NotBuilt = 40

-- the word of a kind of fault in an arrival file
abbrev pub kind_text : ArrivalKind → List ℕ
kind_text kind.Form = codes "form"
kind_text kind.Number = codes "number"
kind_text kind.Size = codes "size"
kind_text kind.Url = codes "url"
kind_text kind.Twice = codes "twice"
kind_text kind.Order = codes "order"
kind_text kind.Length = codes "length"
kind_text kind.Utf8 = codes "utf8"

-- the word of what a run wants
abbrev pub want_text : Want → List ℕ
want_text want.Load = codes "load"
want_text want.Turn = codes "turn"
want_text want.Now = codes "now"
want_text want.Rand = codes "rand"

-- the word of an item, as in a list
abbrev pub word_text : Word → List ℕ
word_text word.Head = codes "head"
word_text word.Load = codes "load"
word_text word.Now = codes "now"
word_text word.Rand = codes "rand"

-- a refusal's line
abbrev pub refusal_line : List ℕ → List ℕ
refusal_line text = codes "mugshot: " ++ text ++ codes "\n"

abbrev pub line_of : Outcome → List ℕ
line_of Done = []
line_of Usage = refusal_line (codes "usage")
line_of PageTooLarge = refusal_line (codes "bad page: too large")
line_of (PageNotUtf8 at) = refusal_line (codes "bad page: not utf-8 at " ++ decimal at)
line_of (BadArrivals line kind) =
    refusal_line (codes "bad arrivals: line " ++ decimal line ++ codes ": " ++ kind_text kind)
line_of (Budget steps) =
    refusal_line (codes "budget of " ++ decimal steps ++ codes " steps is used up")
line_of NotEmpty = refusal_line (codes "session is not empty")
line_of NotASession = refusal_line (codes "not a session")
line_of (Damaged at) = refusal_line (codes "damaged session at " ++ decimal at)
line_of (Diverged entry wanted found) =
    refusal_line (codes "diverged at record " ++ decimal entry
    ++ codes ": wanted " ++ want_text wanted ++ codes ", found " ++ word_text found)
line_of Full = refusal_line (codes "session is full")
line_of ReadFault = refusal_line (codes "read fault")
line_of NotBuilt = refusal_line (codes "not built yet")
line_of DiskFault = refusal_line (codes "disk fault")
line_of WriteFault = refusal_line (codes "write fault")
line_of NoMemory = refusal_line (codes "out of memory")

-- a stream took a part from the front of the line, and all of it where its count of faults didn't
-- rise
pub record TookLine (line : List ℕ) (before after : Stream) : Type 0 where
  pub part : TookPart line before.taken after.taken
  pub whole : (Rose before.faults after.faults → ⊥) → after.taken ≡ behind line before.taken

-- ---- the outcomes of the commands

-- a session that is not read
abbrev pub of_refusal : SessionRefusal → Outcome
of_refusal refusal.NotASession = NotASession
of_refusal (refusal.Damaged at) = Damaged at
of_refusal refusal.NotBuilt = NotBuilt
of_refusal refusal.DiskFault = DiskFault
of_refusal refusal.NoMemory = NoMemory

abbrev pub of_list : ListOutcome → Outcome
of_list list.Done = Done
of_list (list.Refused why) = of_refusal why
of_list list.WriteFault = WriteFault
of_list list.NoMemory = NoMemory

abbrev pub of_replay : ReplayOutcome → Outcome
of_replay replay.Done = Done
of_replay (replay.Budget steps) = Budget steps
of_replay (replay.Diverged entry wanted found) = Diverged entry wanted found
of_replay (replay.Refused why) = of_refusal why
of_replay replay.Headless = NotASession
of_replay replay.OtherPage = NotBuilt
of_replay replay.WriteFault = WriteFault
of_replay replay.NoMemory = NoMemory

-- a page that is not captured
abbrev pub of_page : PageRefusal → Outcome
of_page page.ReadFault = ReadFault
of_page page.TooLarge = PageTooLarge
of_page (page.NotUtf8 at) = PageNotUtf8 at
of_page page.NotBuilt = NotBuilt
of_page page.NoMemory = NoMemory

-- an arrival file that is not read
abbrev pub of_file : ArrivalsRefusal → Outcome
of_file file.ReadFault = ReadFault
of_file (file.Line line kind) = BadArrivals line kind
of_file file.NotBuilt = NotBuilt
of_file file.NoMemory = NoMemory

-- a recording that was halted
abbrev pub of_fault : CaptureFault → Outcome
of_fault fault.NotEmpty = NotEmpty
of_fault fault.Full = Full
of_fault fault.DiskFault = DiskFault
of_fault fault.WriteFault = WriteFault
of_fault fault.NoMemory = NoMemory

abbrev pub of_run : RunOutcome → Outcome
of_run ran.Done = Done
of_run (ran.Budget steps) = Budget steps
of_run (ran.Halted why) = of_fault why

abbrev pub of_capture : CaptureOutcome → Outcome
of_capture capture.NotEmpty = NotEmpty
of_capture capture.DiskFault = DiskFault
of_capture capture.NoMemory = NoMemory
of_capture (capture.Page why) = of_page why
of_capture (capture.Arrivals why) = of_file why
of_capture (capture.Ran outcome) = of_run outcome
