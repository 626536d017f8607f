-- The parts of a head's bytes, as they are read one after another.
use Rattle.std.specs.Prelude.{◌≡◌, ◌≢◌, ℕ, ◌<◌, ◌^◌, List, ◌++◌, length}
use Rattle.std.specs.Int.{to_be_bytes, w32, w64}
use Rattle.mug_text.specs.Text.{utf8_of}
use Rattle.mug_text.specs.declared.limits.TheConstants.{SAFE_END}
use Rattle.input_log.specs.Items.{IsItem, encoding, sized}
use Rattle.input_log.specs.declared.item.LogItem.{LogItem}
use Rattle.input_log.specs.declared.item.LogItem.TheVariants.{Head}

-- the bytes behind the first of a head with these parts, and then the rest
abbrev pub head_parts : List ℕ → ℕ → List ℕ → List ℕ → List ℕ
head_parts text budget page rest =
    sized text ++ (to_be_bytes w64 budget ++ (sized page ++ rest))

-- behind a first byte, the parts of no head
abbrev pub HasNoHead : List ℕ → Type 0
HasNoHead bytes =
    (base : List ℕ) (budget : ℕ) (page rest : List ℕ) → IsItem (Head base budget page)
    → bytes ≢ head_parts (utf8_of base) budget page rest

-- behind a first byte, the parts of this head, which takes len bytes with it
pub record HasHead (bytes : List ℕ) (item : LogItem) (len : ℕ) : Type 0 where
  pub base : List ℕ
  pub budget : ℕ
  pub page : List ℕ
  pub rest : List ℕ
  pub head : item ≡ Head base budget page
  pub valid : IsItem item
  pub is : bytes ≡ head_parts (utf8_of base) budget page rest
  pub takes : len ≡ length (encoding item)

-- ---- what stands in front of bytes

-- a number in four bytes, and the rest; there is none in front
abbrev pub BeginsWithWord : List ℕ → ℕ → List ℕ → Type 0
BeginsWithWord bytes n rest = (n < 2 ^ 32) × (bytes ≡ to_be_bytes w32 n ++ rest)

abbrev pub HasNoWord : List ℕ → Type 0
HasNoWord bytes = (n : ℕ) (rest : List ℕ) → n < 2 ^ 32 → bytes ≢ to_be_bytes w32 n ++ rest

-- a number in eight bytes, and the rest
abbrev pub BeginsWithLong : List ℕ → ℕ → List ℕ → Type 0
BeginsWithLong bytes n rest = (n < 2 ^ 64) × (bytes ≡ to_be_bytes w64 n ++ rest)

abbrev pub HasNoLong : List ℕ → Type 0
HasNoLong bytes = (n : ℕ) (rest : List ℕ) → n < 2 ^ 64 → bytes ≢ to_be_bytes w64 n ++ rest

-- bytes after their number, and the rest
abbrev pub BeginsWithSized : List ℕ → List ℕ → List ℕ → Type 0
BeginsWithSized bytes piece rest = (length piece < 2 ^ 32) × (bytes ≡ sized piece ++ rest)

abbrev pub HasNoSized : List ℕ → Type 0
HasNoSized bytes = (piece rest : List ℕ) → length piece < 2 ^ 32 → bytes ≢ sized piece ++ rest

-- a moment or a reading of the clock
abbrev pub BeginsWithTime : List ℕ → ℕ → Type 0
BeginsWithTime bytes t = (t < SAFE_END) × ((rest : List ℕ) × (bytes ≡ to_be_bytes w64 t ++ rest))

abbrev pub HasNoTime : List ℕ → Type 0
HasNoTime bytes = (t : ℕ) (rest : List ℕ) → t < SAFE_END → bytes ≢ to_be_bytes w64 t ++ rest
