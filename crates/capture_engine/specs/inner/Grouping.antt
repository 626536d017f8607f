-- The frames of a session as they are made, item by item.
use Rattle.std.specs.Prelude.{◌≡◌, ◌+◌, Bool, false, nat_lt, List, [], ◌∷◌, ◌++◌, length, flat_map, if◌then◌else◌}
use Rattle.input_log.specs.Items.{encoding}
use Rattle.input_log.specs.declared.item.LogItem.{LogItem}
use Rattle.session_store.specs.Session.{payload_of}
use Rattle.capture_engine.specs.declared.recorder.TheConstants.{PAYLOAD_LIMIT}

-- the frame of these items ends before this one, which would make the payload longer than the limit
abbrev pub ends_before : List LogItem → LogItem → Bool
ends_before [] item = false
ends_before (first ∷ others) item =
    nat_lt PAYLOAD_LIMIT (length (payload_of (first ∷ others)) + length (encoding item))

-- the frames of the items of an open frame and of those after them, up to the end of the turn
abbrev pub grouped : List LogItem → List LogItem → List (List LogItem)
grouped [] [] = []
grouped (first ∷ others) [] = (first ∷ others) ∷ []
grouped current (item ∷ items) =
    if ends_before current item
    then current ∷ grouped (item ∷ []) items
    else grouped (current ++ item ∷ []) items

-- the frames of turns
abbrev pub turns_grouped : List (List LogItem) → List (List LogItem)
turns_grouped turns = flat_map (grouped []) turns

-- the frames of a session
abbrev pub frames_of : LogItem → List (List LogItem) → List (List LogItem)
frames_of head turns = (head ∷ []) ∷ turns_grouped turns

-- whatever comes after the items so far, in their turn and in others: all frames are these, and
-- those of the open items and what comes
abbrev pub GoesOn :
    LogItem → List (List LogItem) → List LogItem → List (List LogItem) → List LogItem → Type 0
GoesOn head turns turn frames current =
    (more : List LogItem) (others : List (List LogItem))
    → frames_of head (turns ++ (turn ++ more) ∷ others)
    ≡ frames ++ (grouped current more ++ turns_grouped others)

-- the frames after an item: the open one is among them where it ends before the item
abbrev pub frames_after : List (List LogItem) → List LogItem → LogItem → List (List LogItem)
frames_after frames current item =
    if ends_before current item then frames ++ current ∷ [] else frames

-- the items that stay in the open frame before an item is put into it
abbrev pub kept_before : List LogItem → LogItem → List LogItem
kept_before current item = if ends_before current item then [] else current

-- the items of the frame that is open after an item
abbrev pub open_after : List LogItem → LogItem → List LogItem
open_after current item = kept_before current item ++ item ∷ []
