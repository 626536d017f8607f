-- What `recover` answers.
use Rattle.std.specs.Prelude.{ℕ, List, Result, Ok, Err}
use Rattle.log_frames.specs.declared.reader.FrameFault.{FrameFault}
use Rattle.log_frames.specs.declared.reader.FrameFault.TheVariants as frame
use Rattle.session_store.specs.Recovery.{Recovers, NoHeader, Broken, Whole}
use Rattle.session_store.specs.Session.{SessionState}
use Rattle.session_store.specs.declared.recovery.RecoverFault.{RecoverFault}
use Rattle.session_store.specs.declared.recovery.RecoverFault.TheVariants.{NotASession, Damaged, DiskFault, NoMemory}

-- a fault of the bytes is what recovery finds in them; the others say nothing of the bytes
abbrev pub Refuses : RecoverFault → List ℕ → Type 0
Refuses NotASession bytes = Recovers bytes NoHeader
Refuses (Damaged at) bytes = (payload : List ℕ) × Recovers bytes (Broken at payload)
Refuses DiskFault bytes = Unit {0}
Refuses NoMemory bytes = Unit {0}

-- an answer is what recovery finds in the bytes that the disk holds
abbrev pub Tells : Result SessionState RecoverFault → List ℕ → Type 0
Tells (Ok session) bytes = Recovers bytes (Whole session.items session.end)
Tells (Err fault) bytes = Refuses fault bytes

-- the same fault of a reader of frames
abbrev pub of_frame : FrameFault → RecoverFault
of_frame frame.ReadFault = DiskFault
of_frame frame.NoMemory = NoMemory
