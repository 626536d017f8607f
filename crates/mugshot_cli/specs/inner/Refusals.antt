-- The refusals that faults become.
use Rattle.mug_outside.specs.declared.source.ReadAll.{ReadAll}
use Rattle.mug_outside.specs.declared.source.ReadAll.TheVariants as read
use Rattle.mug_text.specs.declared.text.TextFault.{TextFault}
use Rattle.mug_text.specs.declared.text.TextFault.TheVariants as text
use Rattle.arrival_file.specs.declared.arrival.ArrivalFault.{ArrivalFault}
use Rattle.arrival_file.specs.declared.arrival.ArrivalFault.TheVariants as fault
use Rattle.arrival_file.specs.declared.arrival.ArrivalKind.TheVariants.{Size}
use Rattle.mugshot_cli.specs.declared.sources.ArrivalsRefusal.{ArrivalsRefusal}
use Rattle.mugshot_cli.specs.declared.sources.ArrivalsRefusal.TheVariants as file
use Rattle.mugshot_cli.specs.declared.sources.PageRefusal.{PageRefusal}
use Rattle.mugshot_cli.specs.declared.sources.PageRefusal.TheVariants as page
use Rattle.log_frames.specs.declared.reader.FrameFault.{FrameFault}
use Rattle.log_frames.specs.declared.reader.FrameFault.TheVariants as frame
use Rattle.mugshot_cli.specs.declared.damage.JudgeFault.{JudgeFault}
use Rattle.mugshot_cli.specs.declared.damage.JudgeFault.TheVariants as judge
use Rattle.mugshot_cli.specs.declared.session.SessionRefusal.{SessionRefusal}
use Rattle.mugshot_cli.specs.declared.session.SessionRefusal.TheVariants as refusal

-- a page that isn't read
abbrev pub page_of_read : ReadAll → PageRefusal
page_of_read read.TooLarge = page.TooLarge
page_of_read read.ReadFault = page.ReadFault
page_of_read read.NoMemory = page.NoMemory

-- a page that is no text
abbrev pub page_of_text : TextFault → PageRefusal
page_of_text (text.NotUtf8 at) = page.NotUtf8 at
page_of_text text.NoMemory = page.NoMemory

-- an arrival file that isn't read; line 0 stands for the file
abbrev pub file_of_read : ReadAll → ArrivalsRefusal
file_of_read read.TooLarge = file.Line 0 Size
file_of_read read.ReadFault = file.ReadFault
file_of_read read.NoMemory = file.NoMemory

-- one that says nothing
abbrev pub file_of_fault : ArrivalFault → ArrivalsRefusal
file_of_fault (fault.Line line kind) = file.Line line kind
file_of_fault (fault.NotBuilt line) = file.NotBuilt
file_of_fault fault.NoMemory = file.NoMemory

-- a frame that isn't read again
abbrev pub judge_of_frame : FrameFault → JudgeFault
judge_of_frame frame.ReadFault = judge.DiskFault
judge_of_frame frame.NoMemory = judge.NoMemory

-- a session whose broken frame isn't judged
abbrev pub refusal_of_judge : JudgeFault → SessionRefusal
refusal_of_judge judge.DiskFault = refusal.DiskFault
refusal_of_judge judge.NoMemory = refusal.NoMemory
