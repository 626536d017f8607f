-- What the parts of a recorder's calls do with its open frame.
use Rattle.std.specs.Prelude.{◌≡◌, ◌≢◌, true, List, [], ◌∷◌, ◌++◌}
use Rattle.input_log.specs.declared.item.LogItem.{LogItem}
use Rattle.session_store.specs.declared.keeper.StoreFault.{StoreFault}
use Rattle.session_store.specs.declared.keeper.StoreFault.TheVariants as store_fault
use Rattle.capture_engine.specs.Outside.{Shown}
use Rattle.capture_engine.specs.Recording.{Committed, Holds, IsFaultyAt, IsFullAt, IsUnsaidAt, RecorderState, ended}
use Rattle.capture_engine.specs.inner.Grouping.{ends_before, frames_after, kept_before}
use Rattle.capture_engine.specs.declared.recorder.CaptureFault.{CaptureFault}
use Rattle.capture_engine.specs.declared.recorder.CaptureFault.TheVariants.{NotEmpty, Full, DiskFault, WriteFault, NoMemory}

-- the same fault of a store and of a recording
abbrev pub IsSameFault : StoreFault → CaptureFault → Type 0
IsSameFault store_fault.NotEmpty fault = fault ≡ NotEmpty
IsSameFault store_fault.Full fault = fault ≡ Full
IsSameFault store_fault.DiskFault fault = fault ≡ DiskFault
IsSameFault store_fault.Stopped fault = ⊥
IsSameFault store_fault.NoMemory fault = fault ≡ NoMemory

-- by the fault: what the commit of this frame after those came to
abbrev pub StopsAt : CaptureFault → Shown → Shown → List (List LogItem) → List LogItem → Type 0
StopsAt NotEmpty start now frames group = ⊥
StopsAt Full start now frames group = IsFullAt start now frames group
StopsAt DiskFault start now frames group = IsFaultyAt start now frames group
StopsAt WriteFault start now frames group = IsUnsaidAt start now frames group
StopsAt NoMemory start now frames group = Holds start now frames

-- the item is put into the open frame
abbrev pub Puts : LogItem → RecorderState → RecorderState → Type 0
Puts item r r' =
    (start now : Shown) (frames : List (List LogItem)) (current : List LogItem)
    → Committed start now frames current r → Committed start now frames (current ++ item ∷ []) r'

-- the open frame, where it has items, is committed and said
abbrev pub Commits : Shown → Shown → RecorderState → RecorderState → Type 0
Commits now now' r r' =
    (start : Shown) (frames : List (List LogItem)) (current : List LogItem)
    → Committed start now frames current r → Committed start now' (ended frames current) [] r'

-- its commit came to this fault
abbrev pub CommitStops : CaptureFault → Shown → Shown → RecorderState → Type 0
CommitStops fault now now' r =
    (start : Shown) (frames : List (List LogItem)) (current : List LogItem)
    → Committed start now frames current r
    → (current ≢ []) × StopsAt fault start now' frames current

-- the open frame is committed where it ends before the item
abbrev pub MakesRoom : LogItem → Shown → Shown → RecorderState → RecorderState → Type 0
MakesRoom item now now' r r' =
    (start : Shown) (frames : List (List LogItem)) (current : List LogItem)
    → Committed start now frames current r
    → Committed start now' (frames_after frames current item) (kept_before current item) r'

-- it does, and its commit came to this fault
abbrev pub RoomStops : LogItem → CaptureFault → Shown → Shown → RecorderState → Type 0
RoomStops item fault now now' r =
    (start : Shown) (frames : List (List LogItem)) (current : List LogItem)
    → Committed start now frames current r
    → (ends_before current item ≡ true) × StopsAt fault start now' frames current
