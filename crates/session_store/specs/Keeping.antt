-- What a store writes.
use Rattle.std.specs.Prelude.{◌≡◌, ◌≢◌, ◌⊎◌, ℕ, ◌+◌, ◌≤◌, Bool, false, List, [], ◌∷◌, ◌++◌, length, drop, map, Option, Some, IfSome}
use Rattle.input_log.specs.declared.item.LogItem.{LogItem}
use Rattle.log_frames.specs.Frames.{opened}
use Rattle.session_store.specs.Session.{magic, payload_of}
use Rattle.session_store.specs.Recovery.{place_after}

-- a session of these frames, its last gate, and what stands after that
abbrev pub session : List (List LogItem) → ℕ → List ℕ → List ℕ
session frames gate rest = magic ++ (opened (map payload_of frames) ++ gate ∷ rest)

-- the session file of these frames: the last gate is closed, and nothing stands after it
abbrev pub file : List (List LogItem) → List ℕ
file frames = session frames 0 []

-- a session of just these frames, whatever stands after its closed gate
abbrev pub IsClosed : List (List LogItem) → List ℕ → Type 0
IsClosed frames bytes =
    (gate : ℕ) × (rest : List ℕ) × (gate ≢ 1) × (bytes ≡ session frames gate rest)

-- a session of these frames, or of these and one more
abbrev pub IsEither : List (List LogItem) → List LogItem → List ℕ → Type 0
IsEither frames items bytes = IsClosed frames bytes ⊎ IsClosed (frames ++ items ∷ []) bytes

-- ---- a store

-- the offset after the last gate; the numbers of frames, of inputs in them, and of writes and
-- syncs; how long a payload may be that takes no memory; and whether the disk failed
pub record StoreState : Type 0 where
  pub place : ℕ
  pub frames : ℕ
  pub inputs : ℕ
  pub moments : ℕ
  pub spare : ℕ
  pub stopped : Bool

-- of a session without frames
abbrev pub IsNew : StoreState → Type 0
IsNew store =
    (store.place ≡ 9) × (store.frames ≡ 0) × (store.inputs ≡ 0) × (store.moments ≡ 2)
    × (store.stopped ≡ false)

-- the same but for the room
abbrev pub IsSame : StoreState → StoreState → Type 0
IsSame old new =
    (new.place ≡ old.place) × (new.frames ≡ old.frames) × (new.inputs ≡ old.inputs)
    × (new.moments ≡ old.moments) × (new.stopped ≡ old.stopped)

-- one frame more, of a payload of this size in which there are n inputs; a commit makes four writes
-- and syncs
abbrev pub HasGrown : ℕ → ℕ → StoreState → StoreState → Type 0
HasGrown size n old new =
    (new.place ≡ old.place + 5 + size) × (new.frames ≡ old.frames + 1)
    × (new.inputs ≡ old.inputs + n) × (new.moments ≡ old.moments + 4) × (new.stopped ≡ false)

-- a place within the file
abbrev pub IsWithin : ℕ → Option (List ℕ) → Type 0
IsWithin place held = IfSome held (λ bytes. place ≤ length bytes)

-- the place of a store that isn't stopped is within the file
abbrev pub IsInside : StoreState → Option (List ℕ) → Type 0
IsInside store held = store.stopped ≡ false → IsWithin store.place held

-- where the disk held a session of some frames up to this place, it holds one of these and the
-- frame of this payload, in front of a closed gate
abbrev pub AddsFrame : ℕ → List ℕ → Option (List ℕ) → Option (List ℕ) → Type 0
AddsFrame place payload old new =
    (frames : List (List LogItem)) (items : List LogItem) (gate : ℕ) (rest : List ℕ)
    → place ≡ place_after frames → payload ≡ payload_of items
    → old ≡ Some (session frames gate rest)
    → new ≡ Some (session (frames ++ items ∷ []) 0 (drop (5 + length payload) rest))

-- where it held a session of some frames in front of a closed gate, it holds one of these, or of
-- these and the frame of this payload
abbrev pub LeavesEither : ℕ → List ℕ → Option (List ℕ) → Option (List ℕ) → Type 0
LeavesEither place payload old new =
    (frames : List (List LogItem)) (items : List LogItem) (gate : ℕ) (rest : List ℕ) → gate ≢ 1
    → place ≡ place_after frames → payload ≡ payload_of items
    → old ≡ Some (session frames gate rest)
    → IfSome new (IsEither frames items)
