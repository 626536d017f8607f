-- What a session file recovers to.
use Rattle.std.specs.Prelude.{◌≡◌, ◌≢◌, ℕ, ◌+◌, ◌<◌, ◌^◌, List, [], ◌++◌, length, map, All}
use Rattle.input_log.specs.declared.item.LogItem.{LogItem}
use Rattle.log_frames.specs.Frames.{OpensFrame, OpensNone, opened}
use Rattle.session_store.specs.Session.{HasHeader, IsLog, MayComeNext, items_of, magic, payload_of}

-- the bytes are a whole header, the open, whole frames of these items, which read, and from a gate
-- on the rest
pub record HasFrames (bytes : List ℕ) (frames : List (List LogItem)) (rest : List ℕ) : Type 0 where
  pub log : IsLog frames
  pub sized : All (λ items. length (payload_of items) < 2 ^ 32) frames
  pub gate : rest ≢ []
  pub is : bytes ≡ magic ++ (opened (map payload_of frames) ++ rest)

-- the offset just after these frames and the gate that follows them: there the length of one frame
-- more stands
abbrev pub place_after : List (List LogItem) → ℕ
place_after frames = 9 + length (opened (map payload_of frames))

-- what recovery finds: no whole header; an open, whole frame that doesn't read, by the offset of
-- its length and its payload; or these items, and the offset just after their last frame
pub data Found : Type 0 where
  NoHeader : Found
  Broken : ℕ → List ℕ → Found
  Whole : List LogItem → ℕ → Found

-- after frames that read, at this offset the length of an open, whole frame whose payload is of no
-- items that may follow
pub record IsBroken (bytes : List ℕ) (at : ℕ) (payload : List ℕ) : Type 0 where
  pub frames : List (List LogItem)
  pub rest : List ℕ
  pub has : HasFrames bytes frames rest
  pub place : at ≡ place_after frames
  pub after : List ℕ
  pub opens : OpensFrame rest payload after
  pub unread : (items : List LogItem) → MayComeNext frames items → payload ≢ payload_of items

-- these are the items of frames that read, up to this offset, and after them the gate is closed or
-- missing or the frame incomplete
pub record IsWhole (bytes : List ℕ) (items : List LogItem) (end : ℕ) : Type 0 where
  pub frames : List (List LogItem)
  pub rest : List ℕ
  pub has : HasFrames bytes frames rest
  pub items_are : items ≡ items_of frames
  pub place : end ≡ place_after frames
  pub ends : OpensNone rest

-- what recovery finds in these bytes; at most one thing, as the law `recovery_is_one` says
abbrev pub Recovers : List ℕ → Found → Type 0
Recovers bytes NoHeader = HasHeader bytes → ⊥
Recovers bytes (Broken at payload) = IsBroken bytes at payload
Recovers bytes (Whole items end) = IsWhole bytes items end
