-- Frames of a session file. In front of each frame stands a gate of one byte, which is open exactly
-- if it is 1; a frame is the length of its payload, in four bytes with the highest first, the
-- payload, and the next gate.
use Rattle.std.specs.Prelude.{◌≡◌, ◌≢◌, ℕ, ◌<◌, ◌^◌, List, [], ◌∷◌, ◌++◌, length}
use Rattle.std.specs.Int.{to_be_bytes, w32}

-- the length of a payload, and the payload; the next gate isn't among these bytes
abbrev pub frame : List ℕ → List ℕ
frame payload = to_be_bytes w32 (length payload) ++ payload

-- from a gate on: it is open, a whole frame of this payload stands behind it, and then the rest,
-- from the next gate on
pub record OpensFrame (bytes payload rest : List ℕ) : Type 0 where
  pub sized : length payload < 2 ^ 32
  pub gate : rest ≢ []
  pub is : bytes ≡ 1 ∷ (frame payload ++ rest)

-- from a gate on: it is closed or missing, or no whole frame stands behind it
abbrev pub OpensNone : List ℕ → Type 0
OpensNone bytes = (payload rest : List ℕ) → OpensFrame bytes payload rest → ⊥

-- open gates and the frames behind them, one after another, without the last one's next gate
abbrev pub opened : List (List ℕ) → List ℕ
opened [] = []
opened (p ∷ ps) = 1 ∷ (frame p ++ opened ps)
