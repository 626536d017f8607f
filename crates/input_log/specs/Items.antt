-- The items of a session file, and their bytes. All numbers are big-endian.
use Rattle.std.specs.Prelude.{◌≡◌, ◌≢◌, ℕ, ◌<◌, ◌≤◌, ◌^◌, List, ◌∷◌, ◌++◌, length, All}
use Rattle.std.specs.Int.{to_be_bytes, w32, w64}
use Rattle.mug_text.specs.Text.{IsWellFormed, utf8_of}
use Rattle.mug_text.specs.declared.limits.TheConstants.{SAFE_END}
use Rattle.input_log.specs.declared.item.TheConstants.{HEAD_PAGE_LIMIT, STEPS_LIMIT}
use Rattle.input_log.specs.declared.item.LogItem.{LogItem}
use Rattle.input_log.specs.declared.item.LogItem.TheVariants.{Head, Load, Now, Rand}

-- the number of the bytes, in four bytes, and the bytes
abbrev pub sized : List ℕ → List ℕ
sized bytes = to_be_bytes w32 (length bytes) ++ bytes

-- the bytes of an item
abbrev pub encoding : LogItem → List ℕ
encoding (Head base budget page) =
    0 ∷ (sized (utf8_of base) ++ (to_be_bytes w64 budget ++ sized page))
encoding (Load t) = 3 ∷ to_be_bytes w64 t
encoding (Now v) = 9 ∷ to_be_bytes w64 v
encoding (Rand w) = 10 ∷ to_be_bytes w32 w

-- a text of 16-bit units whose bytes four bytes can count
pub record IsBaseText (base : List ℕ) : Type 0 where
  pub units : All (λ u. u < 2 ^ 16) base
  pub well_formed : IsWellFormed base
  pub sized : length (utf8_of base) < 2 ^ 32

-- the fields are in their ranges: moments and readings are whole numbers of the language,
-- budgets at least 1 and within the limit, random words of 32 bits, pages within the limit of a
-- head
abbrev pub IsItem : LogItem → Type 0
IsItem (Head base budget page) =
    IsBaseText base × (1 ≤ budget) × (budget ≤ STEPS_LIMIT) × (length page ≤ HEAD_PAGE_LIMIT)
IsItem (Load t) = t < SAFE_END
IsItem (Now v) = v < SAFE_END
IsItem (Rand w) = w < 2 ^ 32

-- the bytes begin with this item, which takes len of them
pub record BeginsWith (bytes : List ℕ) (item : LogItem) (len : ℕ) : Type 0 where
  pub rest : List ℕ
  pub valid : IsItem item
  pub is : bytes ≡ encoding item ++ rest
  pub takes : len ≡ length (encoding item)

-- the bytes begin with no item
abbrev pub BeginsWithNone : List ℕ → Type 0
BeginsWithNone bytes =
    (item : LogItem) (rest : List ℕ) → IsItem item → bytes ≢ encoding item ++ rest
