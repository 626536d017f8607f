-- Bytes as lines of cases write them.
use Rattle.std.specs.Prelude.{◌≡◌, ℕ, ◌+◌, ◌*◌, ◌==◌, nat_lt, List, [], ◌∷◌, drop, if◌then◌else◌}
use Rattle.mug_text.specs.Digits.{digit}

-- the value of a hexadecimal digit; 0 of what is none
abbrev pub hexadecimal : ℕ → ℕ
hexadecimal u = if nat_lt (digit u) 16 then digit u else 0

-- what a byte behind a backslash stands for: n, r and t for a line feed, a carriage return and a tab,
-- any other for itself
abbrev pub escaped : ℕ → ℕ
escaped b =
    if b == 0x6E then 0x0A
    else (if b == 0x72 then 0x0D
    else (if b == 0x74 then 0x09 else b))

-- what stands behind a backslash: its byte, and how long it is written. Behind x stand two hexadecimal
-- digits; behind a backslash at the end nothing, and it stands for itself.
abbrev pub escape : List ℕ → ℕ × ℕ
escape [] = (0x5C, 0)
escape (b ∷ high ∷ low ∷ rest) =
    if b == 0x78 then (hexadecimal high * 16 + hexadecimal low, 3) else (escaped b, 1)
escape (b ∷ rest) = (escaped b, 1)

-- what is written stands for these bytes
pub data Spells : List ℕ → List ℕ → Type 0 where
  nothing : Spells [] []
  plain : {b : ℕ} {written bytes : List ℕ} → (b ≡ 0x5C → ⊥) → Spells written bytes →
      Spells (b ∷ written) (b ∷ bytes)
  behind_backslash : {written bytes : List ℕ} → Spells (drop (escape written).1 written) bytes →
      Spells (0x5C ∷ written) ((escape written).0 ∷ bytes)
