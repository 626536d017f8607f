-- Contents that are told, or not.
use Rattle.std.specs.Prelude.{◌≡◌, ℕ, ◌≤◌, List, ◌∷◌, ◌++◌, length, Option, option_map}

-- these bytes, and then the others, where the others are told
abbrev pub ahead : List ℕ → Option (List ℕ) → Option (List ℕ)
ahead bytes o = option_map (λ rest. bytes ++ rest) o

-- the others, and then these bytes, where the others are told
abbrev pub behind : List ℕ → Option (List ℕ) → Option (List ℕ)
behind bytes o = option_map (λ before. before ++ bytes) o

-- a part from the front of the text was taken behind the old content
abbrev pub TookPart : List ℕ → Option (List ℕ) → Option (List ℕ) → Type 0
TookPart text old new =
    (part : List ℕ) × (rest : List ℕ) × (text ≡ part ++ rest) × (new ≡ behind part old)

-- such a part, and not the whole
abbrev pub TookLess : List ℕ → Option (List ℕ) → Option (List ℕ) → Type 0
TookLess text old new =
    (part : List ℕ) × (byte : ℕ) × (rest : List ℕ) × (text ≡ part ++ byte ∷ rest)
    × (new ≡ behind part old)

-- at most this many bytes were read from the front of the old content
abbrev pub ReadWithin : ℕ → Option (List ℕ) → Option (List ℕ) → Type 0
ReadWithin limit old new = (read : List ℕ) × (length read ≤ limit) × (old ≡ ahead read new)
