-- What a recording has done so far, and how it stops.
use Rattle.std.specs.Prelude.{◌≡◌, ◌⊎◌, ℕ, ◌+◌, ◌*◌, ◌<◌, ◌≤◌, false, List, [], ◌∷◌, ◌++◌, length, count_by, IfSome, Option, option_map}
use Rattle.mug_outside.specs.Told.{behind, TookLess}
use Rattle.mug_outside.specs.Cause.{Rose}
use Rattle.input_log.specs.Kinds.{is_input}
use Rattle.input_log.specs.declared.item.LogItem.{LogItem}
use Rattle.session_store.specs.Session.{items_of, payload_of}
use Rattle.session_store.specs.Recovery.{place_after}
use Rattle.session_store.specs.Keeping.{IsWithin, StoreState, file}
use Rattle.session_store.specs.declared.keeper.TheConstants.{SESSION_LIMIT}
use Rattle.capture_engine.specs.Acks.{ack_line, acks, text_of_lines}
use Rattle.capture_engine.specs.Frames.{AreFrames}
use Rattle.capture_engine.specs.Outside.{IsEarly, Shown}
use Rattle.capture_engine.specs.inner.Grouping.{GoesOn}
use Rattle.capture_engine.specs.declared.recorder.CaptureFault.{CaptureFault}
use Rattle.capture_engine.specs.declared.recorder.CaptureFault.TheVariants.{NotEmpty, Full, DiskFault, WriteFault, NoMemory}

-- the store, the payload of the open frame, and the number of inputs in it
pub record RecorderState : Type 0 where
  pub store : StoreState
  pub payload : List ℕ
  pub inputs : ℕ

-- no call has failed, and the end of what is committed is within the file
abbrev pub IsRunning : RecorderState → Option (List ℕ) → Type 0
IsRunning r held = (r.store.stopped ≡ false) × IsWithin r.store.place held

-- the number of inputs in frames
abbrev pub inputs_in : List (List LogItem) → ℕ
inputs_in frames = count_by is_input (items_of frames)

-- the disk holds the session file of these frames, and after `start` the output took their lines
pub record Holds (start now : Shown) (frames : List (List LogItem)) : Type 0 where
  pub file_is : now.held ≡ option_map (λ _. file frames) start.held
  pub fits : place_after frames ≤ SESSION_LIMIT
  pub printed : now.taken ≡ behind (text_of_lines (acks frames)) start.taken
  pub time : IsEarly start.moment → now.moment ≡ start.moment + (2 + 4 * length frames)

-- since `start`, a session was created, these frames committed and said, and these items put into
-- the open one
pub record Committed (start now : Shown) (frames : List (List LogItem)) (current : List LogItem)
    (r : RecorderState) : Type 0 where
  pub holds : Holds start now frames
  pub place : r.store.place ≡ place_after frames
  pub frames_are : r.store.frames ≡ length frames
  pub inputs_are : r.store.inputs ≡ inputs_in frames
  pub moments_are : r.store.moments ≡ 2 + 4 * length frames
  pub running : r.store.stopped ≡ false
  pub payload_is : r.payload ≡ payload_of current
  pub open_are : r.inputs ≡ count_by is_input current
  pub disk_later : start.disk ≤ now.disk
  pub out_later : start.out ≤ now.out

-- these turns, or frames, and the last one where it has items
abbrev pub ended : List (List LogItem) → List LogItem → List (List LogItem)
ended lists [] = lists
ended lists (first ∷ others) = lists ++ (first ∷ others) ∷ []

-- since `start` a session was created and its head logged, these turns to their ends, and of the
-- turn that runs these items: the frames that are committed and said, and the open one, are those
-- of these
pub record Recorded (start now : Shown) (head : LogItem) (turns : List (List LogItem))
    (turn : List LogItem) (r : RecorderState) : Type 0 where
  pub frames : List (List LogItem)
  pub current : List LogItem
  pub are_frames : AreFrames head (turns ++ turn ∷ []) (ended frames current)
  pub done : Committed start now frames current r
  pub goes_on : GoesOn head turns turn frames current
  pub over : turn ≡ [] → current ≡ []

-- ---- how it stops

-- the frame after these would pass the limit
pub record IsFullAt (start now : Shown) (frames : List (List LogItem)) (group : List LogItem)
    : Type 0 where
  pub holds : Holds start now frames
  pub passes : SESSION_LIMIT < place_after frames + 5 + length (payload_of group)

-- a call of the disk failed in the commit of this frame, which fits: its line is not written, and
-- those before it are
pub record IsFaultyAt (start now : Shown) (frames : List (List LogItem)) (group : List LogItem)
    : Type 0 where
  pub rose : Rose start.disk now.disk
  pub fits : place_after (frames ++ group ∷ []) ≤ SESSION_LIMIT
  pub printed : now.taken ≡ behind (text_of_lines (acks frames)) start.taken
  pub after : IsEarly start.moment → start.moment + (2 + 4 * length frames) < now.moment
  pub before : IsEarly start.moment → now.moment ≤ start.moment + (2 + 4 * length frames) + 4

-- the output failed at the line of this frame, which is committed
pub record IsUnsaidAt (start now : Shown) (frames : List (List LogItem)) (group : List LogItem)
    : Type 0 where
  pub rose : Rose start.out now.out
  pub file_is : now.held ≡ option_map (λ _. file (frames ++ group ∷ [])) start.held
  pub fits : place_after (frames ++ group ∷ []) ≤ SESSION_LIMIT
  pub less : TookLess (ack_line (inputs_in (frames ++ group ∷ [])) (2 + 4 * length frames + 4))
      (behind (text_of_lines (acks frames)) start.taken) now.taken
  pub time : IsEarly start.moment → now.moment ≡ start.moment + (2 + 4 * length frames + 4)

-- the recording of these frames stopped at one of them
pub record Stopped (At : List (List LogItem) → List LogItem → Type 0) (all : List (List LogItem))
    : Type 0 where
  pub frames : List (List LogItem)
  pub group : List LogItem
  pub others : List (List LogItem)
  pub is : all ≡ frames ++ group ∷ others
  pub stops : At frames group

-- memory was out after some of these frames
pub record Starved (start now : Shown) (all : List (List LogItem)) : Type 0 where
  pub frames : List (List LogItem)
  pub others : List (List LogItem)
  pub is : all ≡ frames ++ others
  pub holds : Holds start now frames

-- by the fault: where the recording of these frames was halted
abbrev pub Halted : CaptureFault → Shown → Shown → List (List LogItem) → Type 0
Halted NotEmpty start now all = ⊥
Halted Full start now all = Stopped (IsFullAt start now) all
Halted DiskFault start now all = Stopped (IsFaultyAt start now) all
Halted WriteFault start now all = Stopped (IsUnsaidAt start now) all
Halted NoMemory start now all = Starved start now all

-- by the fault: why no session was made; nothing was said then
abbrev pub Unmade : CaptureFault → Shown → Shown → Type 0
Unmade NotEmpty start now =
    IfSome start.held (λ bytes. 0 < length bytes)
    × (now.held ≡ start.held) × (now.moment ≡ start.moment) × (now.taken ≡ start.taken)
Unmade DiskFault start now =
    Rose start.disk now.disk × (now.taken ≡ start.taken)
    × (IsEarly start.moment → (start.moment ≤ now.moment) × (now.moment ≤ start.moment + 2))
Unmade NoMemory start now = Holds start now []
Unmade fault start now = ⊥

-- nothing but the counts of faults has changed
pub record Unchanged (start now : Shown) : Type 0 where
  pub held : now.held ≡ start.held
  pub moment : now.moment ≡ start.moment
  pub taken : now.taken ≡ start.taken
  pub disk_later : start.disk ≤ now.disk
  pub out_later : start.out ≤ now.out

-- ---- what the calls of a recorder do, which is `r` before the call and `r'` after it

-- a session was created, and its head is committed and said
abbrev pub Starts : LogItem → Shown → Shown → RecorderState → Type 0
Starts head now now' r =
    (start : Shown) → Unchanged start now → Recorded start now' head [] [] r

-- it was not, or its recording was halted at the head, whatever would have come after it
abbrev pub StartHalts : LogItem → CaptureFault → Shown → Shown → Type 0
StartHalts head fault now now' =
    (start : Shown) (turns all : List (List LogItem)) → Unchanged start now
    → AreFrames head turns all
    → Unmade fault start now' ⊎ Halted fault start now' all

-- the item is logged in the turn that runs
abbrev pub Logs : LogItem → Shown → Shown → RecorderState → RecorderState → Type 0
Logs item now now' r r' =
    (start : Shown) (head : LogItem) (turns : List (List LogItem)) (turn : List LogItem)
    → Recorded start now head turns turn r → Recorded start now' head turns (turn ++ item ∷ []) r'

-- the recording was halted at this item, whatever would have come after it
abbrev pub LogHalts : LogItem → CaptureFault → Shown → Shown → RecorderState → Type 0
LogHalts item fault now now' r =
    (start : Shown) (head : LogItem) (turns : List (List LogItem)) (turn more : List LogItem)
    (others all : List (List LogItem))
    → Recorded start now head turns turn r
    → AreFrames head (turns ++ (turn ++ item ∷ more) ∷ others) all
    → Halted fault start now' all

-- the turn that runs is over
abbrev pub EndsTurn : Shown → Shown → RecorderState → RecorderState → Type 0
EndsTurn now now' r r' =
    (start : Shown) (head : LogItem) (turns : List (List LogItem)) (turn : List LogItem)
    → Recorded start now head turns turn r → Recorded start now' head (ended turns turn) [] r'

-- the recording was halted at its end, whatever turns would have come after it
abbrev pub EndHalts : CaptureFault → Shown → Shown → RecorderState → Type 0
EndHalts fault now now' r =
    (start : Shown) (head : LogItem) (turns : List (List LogItem)) (turn : List LogItem)
    (others all : List (List LogItem))
    → Recorded start now head turns turn r → AreFrames head (ended turns turn ++ others) all
    → Halted fault start now' all
