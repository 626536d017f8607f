-- The lines of a recording's frames.
use Rattle.std.specs.Prelude.{ℕ, ◌+◌, nat_lt, List, [], ◌∷◌, ◌++◌, flat_map, count_by, codes, decimal, if◌then◌else◌}
use Rattle.input_log.specs.Kinds.{is_input}
use Rattle.input_log.specs.declared.item.LogItem.{LogItem}

-- the number of the inputs in all frames, and of the writes and syncs made
abbrev pub ack_line : ℕ → ℕ → List ℕ
ack_line inputs moment = codes "ack " ++ decimal inputs ++ codes " " ++ decimal moment ++ codes "\n"

-- a line for each frame, after n inputs and m writes and syncs; a commit makes four
abbrev pub acks_from : ℕ → ℕ → List (List LogItem) → List (List ℕ)
acks_from n m [] = []
acks_from n m (f ∷ frames) =
    ack_line (n + count_by is_input f) (m + 4) ∷ acks_from (n + count_by is_input f) (m + 4) frames

-- the lines of all frames; the header makes two writes and syncs
abbrev pub acks : List (List LogItem) → List (List ℕ)
acks frames = acks_from 0 2 frames

-- of these lines, the ones that name a number of writes and syncs below this
abbrev pub acks_below : ℕ → ℕ → ℕ → List (List LogItem) → List (List ℕ)
acks_below below n m [] = []
acks_below below n m (f ∷ frames) =
    if nat_lt (m + 4) below
    then ack_line (n + count_by is_input f) (m + 4)
    ∷ acks_below below (n + count_by is_input f) (m + 4) frames
    else []

-- the bytes of lines, one after another
abbrev pub text_of_lines : List (List ℕ) → List ℕ
text_of_lines lines = flat_map (λ line. line) lines
