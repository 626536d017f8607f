-- From one item and one turn to the next.
use Rattle.std.proofs.Common.{◌≡◌, ◌≢◌, Bool, true, List, [], ◌∷◌, ◌++◌, map, flat_map, refl, sym, ◌∙◌, ap, subst, append_assoc, if◌then◌else◌}
use Rattle.std.proofs.lemmas.List.{append-nil, map-append}
use Rattle.page_inputs.specs.Turns.{turns as page_turns}
use Rattle.page_inputs.specs.declared.input.PageInput.{PageInput}
use Rattle.page_inputs.proofs.Turns.{in_a_row}
use Rattle.input_log.specs.Inputs.{item_of, logged}
use Rattle.input_log.specs.declared.item.LogItem.{LogItem}
use Rattle.session_store.specs.Session.{items_of}
use Rattle.capture_engine.specs.Frames.{AreFrames, AreFramesOf}
use Rattle.capture_engine.specs.Outside.{Shown}
use Rattle.capture_engine.specs.Recording.{Committed, Halted, Recorded, RecorderState, Starved, ended}
use Rattle.capture_engine.specs.inner.Grouping.{GoesOn, ends_before, frames_after, frames_of, grouped, kept_before, open_after, turns_grouped}
use Rattle.capture_engine.specs.inner.Steps.{StopsAt}
use Rattle.capture_engine.specs.declared.recorder.CaptureFault.{CaptureFault}
use Rattle.capture_engine.proofs.Records.{group_step, grouped_end, halted_at, starved}
use Rattle.capture_engine.proofs.Runs.{frames_are, frames_items, same_frames}

-- ---- the frames of what was recorded

-- with nothing more to come the frames so far are those of the turns
so_far_are : (head : LogItem) (turns : List (List LogItem)) (turn : List LogItem) (frames : List (List LogItem)) (current : List LogItem) → GoesOn head turns turn frames current → AreFrames head (turns ++ turn ∷ []) (ended frames current)
so_far_are head turns turn frames current on =
    let all : frames_of head (turns ++ turn ∷ []) ≡ ended frames current =
    ap (λ (l : List LogItem). frames_of head (turns ++ l ∷ [])) (sym (append-nil turn)) ∙ on [] [] ∙ ap (λ (l : List (List LogItem)). frames ++ l) (append-nil (grouped current [])) ∙ grouped_end frames current in
    subst (λ (l : List (List LogItem)). AreFrames head (turns ++ turn ∷ []) l) all (frames_are head (turns ++ turn ∷ []))

recording : {start now : Shown} {r : RecorderState} (head : LogItem) (turns : List (List LogItem)) (turn : List LogItem) (frames : List (List LogItem)) (current : List LogItem) → Committed start now frames current r
    → GoesOn head turns turn frames current → (turn ≡ [] → current ≡ []) → Recorded start now head turns turn r
recording head turns turn frames current done on over =
    record { frames = frames; current = current; are_frames = so_far_are head turns turn frames current on; done = done; goes_on = on; over = over }

-- a session of the head alone
pub head_alone : {start now : Shown} {r : RecorderState} (head : LogItem) → Committed start now ((head ∷ []) ∷ []) [] r → Recorded start now head [] [] r
head_alone head done = recording head [] [] ((head ∷ []) ∷ []) [] done (λ more others. refl) (λ e. refl)

-- an item more
next_item : (head : LogItem) (turns : List (List LogItem)) (turn : List LogItem) (frames : List (List LogItem)) (current : List LogItem) (item : LogItem) → GoesOn head turns turn frames current
    → GoesOn head turns (turn ++ item ∷ []) (frames_after frames current item) (open_after current item)
next_item head turns turn frames current item on more others =
    ap (λ (l : List LogItem). frames_of head (turns ++ l ∷ others)) (append_assoc turn (item ∷ []) more) ∙ on (item ∷ more) others
    ∙ sym (append_assoc frames (grouped current (item ∷ more)) (turns_grouped others)) ∙ ap (λ (l : List (List LogItem)). l ++ turns_grouped others) (group_step frames current more item)
    ∙ append_assoc (frames_after frames current item) (grouped (open_after current item) more) (turns_grouped others)

some_more : (xs : List LogItem) (item : LogItem) → xs ++ item ∷ [] ≢ []
some_more [] item = λ e. cc
some_more (x ∷ xs) item = λ e. cc

pub item_logged : {start now now' : Shown} {r r' : RecorderState} {head : LogItem} {turns : List (List LogItem)} {turn : List LogItem} (before : Recorded start now head turns turn r) (item : LogItem)
    → Committed start now' (frames_after before.frames before.current item) (open_after before.current item) r' → Recorded start now' head turns (turn ++ item ∷ []) r'
item_logged {start} {now} {now'} {r} {r'} {head} {turns} {turn} before item done =
    recording head turns (turn ++ item ∷ []) (frames_after before.frames before.current item) (open_after before.current item) done
    (next_item head turns turn before.frames before.current item before.goes_on) (λ e. absurd (some_more turn item e))

-- the turn is over
turn_over : (head : LogItem) (turns : List (List LogItem)) (turn : List LogItem) (frames : List (List LogItem)) (current : List LogItem) → GoesOn head turns turn frames current → (turn ≡ [] → current ≡ [])
    → GoesOn head (ended turns turn) [] (ended frames current) []
turn_over head turns [] frames current on over more others =
    let none : current ≡ [] = over refl in
    on more others ∙ (λ i. frames ++ (grouped (none i) more ++ turns_grouped others)) ∙ ap (λ (l : List LogItem). ended frames l ++ (grouped [] more ++ turns_grouped others)) (sym none)
turn_over head turns (first ∷ items) frames current on over more others =
    ap (frames_of head) (append_assoc turns ((first ∷ items) ∷ []) (more ∷ others)) ∙ ap (λ (l : List LogItem). frames_of head (turns ++ l ∷ (more ∷ others))) (sym (append-nil (first ∷ items)))
    ∙ on [] (more ∷ others) ∙ sym (append_assoc frames (grouped current []) (turns_grouped (more ∷ others))) ∙ ap (λ (l : List (List LogItem)). l ++ turns_grouped (more ∷ others)) (grouped_end frames current)

pub turn_ended : {start now now' : Shown} {r r' : RecorderState} {head : LogItem} {turns : List (List LogItem)} {turn : List LogItem} (before : Recorded start now head turns turn r)
    → Committed start now' (ended before.frames before.current) [] r' → Recorded start now' head (ended turns turn) [] r'
turn_ended {start} {now} {now'} {r} {r'} {head} {turns} {turn} before done =
    recording head (ended turns turn) [] (ended before.frames before.current) [] done (turn_over head turns turn before.frames before.current before.goes_on before.over) (λ e. refl)

-- ---- where it halts

-- all frames, by what comes after
all_are : (head : LogItem) (turns all : List (List LogItem)) (turn : List LogItem) (frames : List (List LogItem)) (current more : List LogItem) (others : List (List LogItem))
    → GoesOn head turns turn frames current → AreFrames head (turns ++ (turn ++ more) ∷ others) all → all ≡ frames ++ (grouped current more ++ turns_grouped others)
all_are head turns all turn frames current more others on are = same_frames head (turns ++ (turn ++ more) ∷ others) all are ∙ on more others

cut_before : (current items : List LogItem) (item : LogItem) → ends_before current item ≡ true → grouped current (item ∷ items) ≡ current ∷ grouped (item ∷ []) items
cut_before current items item ends = ap (λ (b : Bool). if b then current ∷ grouped (item ∷ []) items else grouped (current ++ item ∷ []) items) ends

-- at the commit of the open frame before an item
pub halted_before : {start now : Shown} (now' : Shown) {r : RecorderState} {head : LogItem} {turns all : List (List LogItem)} {turn : List LogItem} (fault : CaptureFault) (before : Recorded start now head turns turn r) (item : LogItem) (more : List LogItem) (others : List (List LogItem))
    → AreFrames head (turns ++ (turn ++ item ∷ more) ∷ others) all → (ends_before before.current item ≡ true) × StopsAt fault start now' before.frames before.current → Halted fault start now' all
halted_before {start} {now} now' {r} {head} {turns} {all} {turn} fault before item more others are stops =
    halted_at fault start now' before.frames (grouped (item ∷ []) more ++ turns_grouped others) all before.current
    (all_are head turns all turn before.frames before.current (item ∷ more) others before.goes_on are ∙ ap (λ (l : List (List LogItem)). before.frames ++ (l ++ turns_grouped others)) (cut_before before.current more item stops.0)) stops.1

-- where memory was out at the item itself
pub starved_at : {start now now' : Shown} {r r' : RecorderState} {head : LogItem} {turns all : List (List LogItem)} {turn : List LogItem} (before : Recorded start now head turns turn r) (item : LogItem) (more : List LogItem) (others : List (List LogItem))
    → AreFrames head (turns ++ (turn ++ item ∷ more) ∷ others) all → Committed start now' (frames_after before.frames before.current item) (kept_before before.current item) r' → Starved start now' all
starved_at {start} {now} {now'} {r} {r'} {head} {turns} {all} {turn} before item more others are done =
    starved done all (grouped (open_after before.current item) more ++ turns_grouped others)
    (all_are head turns all turn before.frames before.current (item ∷ more) others before.goes_on are ∙ sym (append_assoc before.frames (grouped before.current (item ∷ more)) (turns_grouped others))
    ∙ ap (λ (l : List (List LogItem)). l ++ turns_grouped others) (group_step before.frames before.current more item)
    ∙ append_assoc (frames_after before.frames before.current item) (grouped (open_after before.current item) more) (turns_grouped others))

-- at the commit of the open frame at the end of its turn
last_frame : (current : List LogItem) → current ≢ [] → grouped current [] ≡ current ∷ []
last_frame [] some = absurd (some refl)
last_frame (first ∷ others) some = refl

at_end : (head : LogItem) (turns all others : List (List LogItem)) (turn : List LogItem) (frames : List (List LogItem)) (current : List LogItem) → GoesOn head turns turn frames current → (turn ≡ [] → current ≡ []) → current ≢ []
    → AreFrames head (ended turns turn ++ others) all → all ≡ frames ++ current ∷ turns_grouped others
at_end head turns all others [] frames current on over some are = absurd (some (over refl))
at_end head turns all others (first ∷ items) frames current on over some are =
    same_frames head (ended turns (first ∷ items) ++ others) all are ∙ ap (frames_of head) (append_assoc turns ((first ∷ items) ∷ []) others)
    ∙ ap (λ (l : List LogItem). frames_of head (turns ++ l ∷ others)) (sym (append-nil (first ∷ items))) ∙ on [] others
    ∙ ap (λ (l : List (List LogItem)). frames ++ (l ++ turns_grouped others)) (last_frame current some)

pub halted_at_end : {start now : Shown} (now' : Shown) {r : RecorderState} {head : LogItem} {turns all : List (List LogItem)} {turn : List LogItem} (fault : CaptureFault) (before : Recorded start now head turns turn r) (others : List (List LogItem))
    → AreFrames head (ended turns turn ++ others) all → (before.current ≢ []) × StopsAt fault start now' before.frames before.current → Halted fault start now' all
halted_at_end {start} {now} now' {r} {head} {turns} {all} {turn} fault before others are stops =
    halted_at fault start now' before.frames (turns_grouped others) all before.current
    (at_end head turns all others turn before.frames before.current before.goes_on before.over stops.0 are) stops.1

-- at the head
pub head_of_all : (head : LogItem) (turns all : List (List LogItem)) → AreFrames head turns all → all ≡ [] ++ (head ∷ []) ∷ turns_grouped turns
head_of_all head turns all are = same_frames head turns all are

-- ---- the frames of inputs

logged_row : (turns : List (List PageInput)) → items_of (map logged turns) ≡ logged (flat_map (λ turn. turn) turns)
logged_row [] = refl
logged_row (turn ∷ turns) = ap (λ (l : List LogItem). logged turn ++ l) (logged_row turns) ∙ sym (map-append item_of turn (flat_map (λ turn. turn) turns))

pub some_frames : (head : LogItem) (inputs : List PageInput) → (frames : List (List LogItem)) × AreFramesOf head inputs frames
some_frames head inputs = let turns = map logged (page_turns inputs) in (frames_of head turns, frames_are head turns)

pub one_frames : (head : LogItem) (inputs : List PageInput) (a b : List (List LogItem)) → AreFramesOf head inputs a → AreFramesOf head inputs b → a ≡ b
one_frames head inputs a b are_a are_b = let turns = map logged (page_turns inputs) in same_frames head turns a are_a ∙ sym (same_frames head turns b are_b)

pub inputs_in_a_row : (head : LogItem) (inputs : List PageInput) (frames : List (List LogItem)) → AreFramesOf head inputs frames → items_of frames ≡ head ∷ logged inputs
inputs_in_a_row head inputs frames are =
    frames_items head (map logged (page_turns inputs)) frames are ∙ ap (λ (l : List LogItem). head ∷ l) (logged_row (page_turns inputs) ∙ ap logged (in_a_row inputs))
