-- One frame more, after others.
use Rattle.std.specs.Prelude.{◌≡◌, ◌≢◌, ℕ, ◌+◌, Bool, true, false, List, ◌++◌, drop}
use Rattle.input_log.specs.declared.item.LogItem.{LogItem}
use Rattle.session_store.specs.Session.{AreItems, AreLaterItems, IsHeadAlone, IsLog, MayComeNext, items_of, payload_of}
use Rattle.session_store.specs.Recovery.{HasFrames, place_after}

-- the items may stand in the first frame, or in a later one
abbrev pub MayStand : Bool → List LogItem → Type 0
MayStand true items = IsHeadAlone items
MayStand false items = AreLaterItems items

-- the payload is that of items that may come next, and these are added
abbrev pub Follows : List (List LogItem) → List ℕ → List LogItem → List LogItem → Type 0
Follows before payload old new =
    (items : List LogItem) × MayComeNext before items × (payload ≡ payload_of items)
    × (new ≡ old ++ items)

-- it is of no items that may
abbrev pub FollowsNot : List (List LogItem) → List ℕ → Type 0
FollowsNot before payload =
    (items : List LogItem) → MayComeNext before items → payload ≢ payload_of items

-- it is of no items at all
abbrev pub IsNoPayload : List ℕ → Type 0
IsNoPayload payload = (items : List LogItem) → AreItems items → payload ≢ payload_of items

-- the frames read so far, their items, and the offset of the gate after them
pub record SoFar (bytes : List ℕ) (items : List LogItem) (at : ℕ) : Type 0 where
  pub frames : List (List LogItem)
  pub has : HasFrames bytes frames (drop at bytes)
  pub items_are : items ≡ items_of frames
  pub place : at + 1 ≡ place_after frames

-- the items are those of frames that read, whatever the disk tells
abbrev pub AreOfFrames : List LogItem → Type 0
AreOfFrames items = (frames : List (List LogItem)) × IsLog frames × (items ≡ items_of frames)
