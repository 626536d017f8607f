-- The session file: eight bytes, and frames from a gate on, each with a payload of items.
use Rattle.std.specs.Prelude.{◌≡◌, ◌≢◌, ℕ, true, false, List, [], ◌∷◌, ◌++◌, flat_map, All, codes}
use Rattle.input_log.specs.Items.{IsItem, encoding}
use Rattle.input_log.specs.Kinds.{is_head}
use Rattle.input_log.specs.declared.item.LogItem.{LogItem}

-- the bytes with which a session begins
abbrev pub magic : List ℕ
magic = codes "MUGSHOT1"

-- at least nine bytes, of which the first eight are those
pub record HasHeader (bytes : List ℕ) : Type 0 where
  pub gate : ℕ
  pub rest : List ℕ
  pub is : bytes ≡ magic ++ gate ∷ rest

-- the payload of a frame of these items
abbrev pub payload_of : List LogItem → List ℕ
payload_of items = flat_map encoding items

-- the items of these frames, in a row
abbrev pub items_of : List (List LogItem) → List LogItem
items_of frames = flat_map (λ items. items) frames

-- items that are valid
abbrev pub AreItems : List LogItem → Type 0
AreItems items = All IsItem items

-- the items of the first frame: a head alone
abbrev pub IsHeadAlone : List LogItem → Type 0
IsHeadAlone items = (head : LogItem) × (items ≡ head ∷ []) × (is_head head ≡ true)

-- the items of a later frame: one or more, and no head
abbrev pub AreLaterItems : List LogItem → Type 0
AreLaterItems items = (items ≢ []) × All (λ item. is_head item ≡ false) items

-- these items may come next, in a frame after those: a head alone in the first, and none in a later
-- one
abbrev pub MayComeNext : List (List LogItem) → List LogItem → Type 0
MayComeNext [] items = AreItems items × IsHeadAlone items
MayComeNext (first ∷ others) items = AreItems items × AreLaterItems items

-- these frames may come after those, one after another
abbrev pub MayGoOn : List (List LogItem) → List (List LogItem) → Type 0
MayGoOn before [] = Unit {0}
MayGoOn before (items ∷ frames) = MayComeNext before items × MayGoOn (before ++ items ∷ []) frames

-- the items of a session's frames, frame by frame: each may come next after the frames before it
abbrev pub IsLog : List (List LogItem) → Type 0
IsLog frames = MayGoOn [] frames

-- the rules on all items in a row: there are none, or a head and after it no head, and each is in
-- its ranges
abbrev pub KeepsRules : List LogItem → Type 0
KeepsRules [] = Unit {0}
KeepsRules (head ∷ others) =
    AreItems (head ∷ others) × (is_head head ≡ true) × All (λ item. is_head item ≡ false) others

-- what contracts see of a session that was recovered: its items, and the offset just after its last
-- open, whole frame
pub record SessionState : Type 0 where
  pub items : List LogItem
  pub end : ℕ
