-- The finished file of a capture recovers to its head and its inputs.
use Rattle.std.specs.Prelude.{All}
use Rattle.std.proofs.Common.{◌≡◌, ℕ, zero, suc, ◌+◌, ◌<◌, ◌^◌, Bool, true, false, List, [], ◌∷◌, ◌++◌, length, drop, map, flat_map, ◌∙◌, nat_le, refl, sym, subst, arith, if◌then◌else◌}
use Rattle.std.proofs.Math.Seq.{drop-append_seam, take-append_seam}
use Rattle.std.proofs.lemmas.Bool.Decides.{nat_tests}
use Rattle.std.proofs.lemmas.List.Elements.{All-append, All-cons, All-drop, All-head, All-nil, All-push, All-tail, All-take}
use Rattle.arrival_file.specs.declared.arrival.Arrival.{Arrival}
use Rattle.arrival_file.specs.Ranges.{IsInRange}
use Rattle.input_log.specs.Items.{IsItem}
use Rattle.input_log.specs.Kinds.{is_head}
use Rattle.input_log.specs.declared.item.LogItem.{LogItem}
use Rattle.input_log.specs.declared.item.LogItem.TheVariants.{Head}
use Rattle.input_log.specs.Inputs.{item_of, logged}
use Rattle.page_inputs.specs.Inputs.{IsInput}
use Rattle.page_inputs.specs.Turns.{turns}
use Rattle.page_inputs.specs.declared.input.PageInput.{PageInput}
use Rattle.page_inputs.specs.declared.input.PageInput.TheVariants.{Load, Now, Rand}
use Rattle.mug_text.specs.declared.limits.TheConstants.{SAFE_END}
use Rattle.session_store.specs.Session.{AreItems, AreLaterItems, IsLog, items_of, payload_of}
use Rattle.session_store.proofs.Frames.{may_go_on}
use Rattle.session_store.specs.Recovery.{IsWhole, place_after}
use Rattle.session_store.specs.Keeping.{file}
use Rattle.session_store.specs.declared.keeper.TheConstants.{SESSION_LIMIT}
use Rattle.capture_engine.specs.Frames.{AreFramesOf, fitting, fitting_from}
use Rattle.capture_engine.specs.inner.Grouping.{ends_before, frames_of, grouped, turns_grouped}
use Rattle.capture_engine.proofs.Recordings.{inputs_in_a_row}
use Rattle.capture_engine.proofs.Runs.{frames_items, same_frames}
use Rattle.mugshot_cli.specs.Capturing.{CaptureIsReplayed}
use Rattle.mugshot_cli.specs.ThinPage.Machine.{State, begun, contract, start_state}
use Rattle.mugshot_cli.specs.ThinPage.Run.{Answers, Run, answer, answers_of, asked, goes_on, moment, no_answers, plain, plain_from, used}
use Rattle.mugshot_cli.specs.declared.thin_page.page.Move.{Move}
use Rattle.mugshot_cli.specs.declared.thin_page.page.Move.TheVariants.{Pass, Clock, Draw, Print}
use Rattle.mugshot_cli.proofs.RecordingEnds.{plain_ends}
use Rattle.mugshot_cli.proofs.ThinPage.PlainSteps.{first_below, none_left, one_more, timely}
use Rattle.mugshot_cli.proofs.ThinPage.ReplayIsPlain.{plain_again}

-- ---- what a run consumes

-- a valid item that is no head
abbrev IsValid : LogItem → Type 0
IsValid item = IsItem item × (is_head item ≡ false)

item_valid : (input : PageInput) → IsInput input → IsValid (item_of input)
item_valid (Load t) valid = (valid, refl)
item_valid (Now v) valid = (valid, refl)
item_valid (Rand w) valid = (valid, refl)

items_valid : (inputs : List PageInput) → All IsInput inputs → All IsValid (logged inputs)
items_valid [] all = All-nil IsValid
items_valid (input ∷ inputs) all =
    All-cons IsValid (item_of input) (logged inputs) (item_valid input (All-head IsInput input inputs all)) (items_valid inputs (All-tail IsInput input inputs all))

record AreInRange (a : Answers) : Type 0 where
  pub t : a.t < SAFE_END
  pub nows : All (λ v. v < SAFE_END) a.nows
  pub rands : All (λ w. w < 2 ^ 32) a.rands

others : (n : ℕ) (values : List ℕ) → All (λ v. v < n) values → All (λ v. v < n) (drop 1 values)
others n [] all = all
others n (v ∷ values) all = All-tail (λ v. v < n) v values all

asked_valid : (a : Answers) (move : Move) → AreInRange a → All IsInput (asked a move)
asked_valid a Pass are = All-nil IsInput
asked_valid a Clock are = All-cons IsInput (Now (answer a Clock)) [] (first_below (SAFE_END) a.t (answer a Clock) a.nows refl are.t are.nows) (All-nil IsInput)
asked_valid a Draw are = All-cons IsInput (Rand (answer a Draw)) [] (first_below (2 ^ 32) 0 (answer a Draw) a.rands refl (omega arith) are.rands) (All-nil IsInput)
asked_valid a (Print arguments) are = All-nil IsInput

used_in : (a : Answers) (move : Move) → AreInRange a → AreInRange (used a move)
used_in a Pass are = are
used_in a Clock are = record { t = are.t; nows = others (SAFE_END) a.nows are.nows; rands = are.rands }
used_in a Draw are = record { t = are.t; nows = are.nows; rands = others (2 ^ 32) a.rands are.rands }
used_in a (Print arguments) are = are

valid_on : (next : State → Answers → List Arrival → Run) (s : State) (a : Answers) (left : List Move) (arrivals : List Arrival) → AreInRange a → All IsInRange arrivals
    → ((s : State) (a : Answers) (arrivals : List Arrival) → AreInRange a → All IsInRange arrivals → All IsInput (next s a arrivals).inputs) → All IsInput (goes_on next s a left arrivals).inputs
valid_on next s a [] [] are ranges more = All-nil IsInput
valid_on next s a [] (arrival ∷ arrivals) are ranges more =
    let first = All-head IsInRange arrival arrivals ranges in
    let begins = timely arrival arrivals (arrival ∷ arrivals) (moment arrival.turn) refl ranges refl in
    let at = begun s (moment arrival.turn) in
    All-cons IsInput (Load (moment arrival.turn)) (next at (answers_of arrival) arrivals).inputs begins
    (more at (answers_of arrival) arrivals (record { t = begins; nows = first.nows; rands = first.rands }) (All-tail IsInRange arrival arrivals ranges))
valid_on next s a (move ∷ left) arrivals are ranges more =
    let at = contract s move left (answer a move) in
    All-append IsInput (asked a move) (next at (used a move) arrivals).inputs (asked_valid a move are) (more at (used a move) arrivals (used_in a move are) ranges)

all_valid : (n : ℕ) (s : State) (a : Answers) (arrivals : List Arrival) → AreInRange a → All IsInRange arrivals → All IsInput (plain_from n s a arrivals).inputs
all_valid zero s a arrivals are ranges = subst (λ (r : Run). All IsInput r.inputs) (sym (none_left s a arrivals)) (All-nil IsInput)
all_valid (suc n) s a arrivals are ranges = subst (λ (r : Run). All IsInput r.inputs) (sym (one_more n s a arrivals)) (valid_on (plain_from n) s a s.left arrivals are ranges (all_valid n))

-- ---- its frames

abbrev IsFrame : List LogItem → Type 0
IsFrame items = AreItems items × AreLaterItems items

frame_of : (first : LogItem) (more : List LogItem) → All IsValid (first ∷ more) → IsFrame (first ∷ more)
frame_of first more all = ((λ k d within. (all k d within).0), ((λ e. cc), (λ k d within. (all k d within).1)))

groups : (current inputs : List LogItem) → All IsValid current → All IsValid inputs → All IsFrame (grouped current inputs)
groups [] [] so_far all = All-nil IsFrame
groups (first ∷ more) [] so_far all = All-cons IsFrame (first ∷ more) [] (frame_of first more so_far) (All-nil IsFrame)
groups [] (item ∷ inputs) so_far all = groups (item ∷ []) inputs (All-cons IsValid item [] (All-head IsValid item inputs all) (All-nil IsValid)) (All-tail IsValid item inputs all)
groups (first ∷ more) (item ∷ inputs) so_far all =
    let valid = All-head IsValid item inputs all in
    let rest = All-tail IsValid item inputs all in
    by_test (ends_before (first ∷ more) item) (groups (item ∷ []) inputs (All-cons IsValid item [] valid (All-nil IsValid)) rest)
    (groups ((first ∷ more) ++ item ∷ []) inputs (All-push IsValid (first ∷ more) item so_far valid) rest)
  where
    by_test : (b : Bool) → All IsFrame (grouped (item ∷ []) inputs) → All IsFrame (grouped ((first ∷ more) ++ item ∷ []) inputs)
        → All IsFrame (if b then (first ∷ more) ∷ grouped (item ∷ []) inputs else grouped ((first ∷ more) ++ item ∷ []) inputs)
    by_test true new on = All-cons IsFrame (first ∷ more) (grouped (item ∷ []) inputs) (frame_of first more so_far) new
    by_test false new on = on

-- frames that fit have short payloads
sized : (at : ℕ) (frames : List (List LogItem)) → fitting_from at frames ≡ frames → All (λ items. length (payload_of items) < 2 ^ 32) frames
sized at [] fit = All-nil (λ items. length (payload_of items) < 2 ^ 32)
sized at (f ∷ frames) fit = by_test (nat_le (at + 5 + length (payload_of f)) SESSION_LIMIT) refl fit (sized (at + 5 + length (payload_of f)) frames)
  where
    by_test : (b : Bool) → nat_le (at + 5 + length (payload_of f)) SESSION_LIMIT ≡ b → (if b then f ∷ fitting_from (at + 5 + length (payload_of f)) frames else []) ≡ f ∷ frames
        → (fitting_from (at + 5 + length (payload_of f)) frames ≡ frames → All (λ items. length (payload_of items) < 2 ^ 32) frames) → All (λ items. length (payload_of items) < 2 ^ 32) (f ∷ frames)
    by_test false is fit more = absurd (cc)
    by_test true is fit more =
        let short : length (payload_of f) < 2 ^ 32 = grind (arith, nat_tests, is) in
        let rest : fitting_from (at + 5 + length (payload_of f)) frames ≡ frames = cc in
        All-cons (λ items. length (payload_of items) < 2 ^ 32) f frames short (more rest)

-- items in a row that pass, list by list
each_list : {A : Type 0} (P : A → Type 0) → (lists : List (List A)) → All P (flat_map (λ l. l) lists) → All (λ l. All P l) lists
each_list P [] all = All-nil (λ l. All P l)
each_list P (l ∷ lists) all =
    All-cons (λ l. All P l) l lists
    (subst (All P) (take-append_seam l (flat_map (λ l. l) lists)) (All-take P (length l) (l ++ flat_map (λ l. l) lists) all))
    (each_list P lists (subst (All P) (drop-append_seam l (flat_map (λ l. l) lists)) (All-drop P (length l) (l ++ flat_map (λ l. l) lists) all)))

turns_frames : (lists : List (List LogItem)) → All (λ l. All IsValid l) lists → All IsFrame (turns_grouped lists)
turns_frames [] all = All-nil IsFrame
turns_frames (l ∷ lists) all =
    All-append IsFrame (grouped [] l) (turns_grouped lists) (groups [] l (All-nil IsValid) (All-head (λ l. All IsValid l) l lists all)) (turns_frames lists (All-tail (λ l. All IsValid l) l lists all))

whole : (base page : List ℕ) (budget : ℕ) (inputs : List PageInput) (frames : List (List LogItem)) → IsItem (Head base budget page) → All IsInput inputs → AreFramesOf (Head base budget page) inputs frames → fitting frames ≡ frames
    → IsWhole (file frames) (Head base budget page ∷ logged inputs) (place_after frames)
whole base page budget inputs frames valid all are fit =
    let head = Head base budget page in
    let lists = map logged (turns inputs) in
    let same : frames ≡ frames_of head lists = same_frames head lists frames are in
    let row : head ∷ items_of lists ≡ head ∷ logged inputs = sym (frames_items head lists frames are) ∙ inputs_in_a_row head inputs frames are in
    let items : items_of lists ≡ logged inputs = cc in
    let each : All (λ l. All IsValid l) lists = each_list IsValid lists (subst (All IsValid) (sym items) (items_valid inputs all)) in
    record {
      frames = frames;
      rest = 0 ∷ [];
      has = record {
        log = subst IsLog (sym same) ((All-cons IsItem head [] valid (All-nil IsItem), (head, refl, refl)), may_go_on (head ∷ []) [] (turns_grouped lists) (turns_frames lists each));
        sized = sized 9 frames fit;
        gate = λ e. cc;
        is = refl;
      };
      items_are = sym (inputs_in_a_row head inputs frames are);
      place = refl;
      ends = λ payload after opens. let e = opens.is in cc;
    }

pub capture_is_replayed : CaptureIsReplayed
capture_is_replayed base page budget statements arrivals frames valid ranges some one are fit =
    let run = plain budget statements arrivals in
    let all = all_valid budget (start_state statements) no_answers arrivals (record { t = omega arith; nows = All-nil (λ v. v < SAFE_END); rands = All-nil (λ w. w < 2 ^ 32) }) ranges in
    record {
      recovers = whole base page budget run.inputs frames valid all are fit;
      replayed = plain_again budget statements arrivals some one;
      ended = plain_ends budget (start_state statements) no_answers arrivals;
    }
