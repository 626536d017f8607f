-- What a reader of frames answers.
use Rattle.std.specs.Prelude.{◌≡◌, ℕ, ◌+◌, ◌<◌, ◌^◌, List, ◌∷◌}
use Rattle.std.specs.Int.{to_be_bytes, w32}
use Rattle.mug_outside.specs.declared.count.TheConstants.{COUNT_END}
use Rattle.log_frames.specs.Frames.{OpensFrame, OpensNone}
use Rattle.log_frames.specs.declared.reader.Next.{Next}
use Rattle.log_frames.specs.declared.reader.Next.TheVariants.{Frame, End}

-- the bytes from the reader's gate on open a frame of this payload, and the rest stands from its
-- next gate on; or they open none
abbrev pub NextTells : Next → List ℕ → List ℕ → List ℕ → Type 0
NextTells (Frame from) bytes payload rest = OpensFrame bytes payload rest
NextTells End bytes payload rest = OpensNone bytes

-- a frame's length stands just behind the reader's gate, and the reader now at the next gate just
-- behind the payload, below the last offset of a u64; or it stands still
abbrev pub NextAt : Next → ℕ → ℕ → ℕ → Type 0
NextAt (Frame from) before now size =
    (from ≡ before + 1) × (now ≡ before + 5 + size) × (now < COUNT_END)
NextAt End before now size = now ≡ before

-- five bytes: an open gate, and the size of a payload
pub record SaysSize (front : List ℕ) (size : ℕ) : Type 0 where
  pub fits : size < 2 ^ 32
  pub is : front ≡ 1 ∷ to_be_bytes w32 size
