-- The inputs of a run, recorded one after another.
use Rattle.std.specs.Prelude.{All}
use Rattle.std.proofs.Common.{◌≡◌, ◌⊎◌, inl, inr, true, false, List, [], ◌∷◌, ◌++◌, drop, map, refl, sym, ◌∙◌, ap, subst, append_assoc}
use Rattle.std.proofs.lemmas.List.{append-nil, map-append}
use Rattle.std.proofs.lemmas.List.Elements.{All-nil}
use Rattle.std.proofs.lemmas.Grind.{flat_map-append}
use Rattle.page_inputs.specs.Inputs.{begins_turn}
use Rattle.page_inputs.specs.Turns.{turns}
use Rattle.page_inputs.specs.declared.input.PageInput.{PageInput}
use Rattle.page_inputs.proofs.Turns.{first_turn, turns_on}
use Rattle.input_log.specs.Inputs.{item_of, logged}
use Rattle.input_log.specs.declared.item.LogItem.{LogItem}
use Rattle.capture_engine.specs.Frames.{AreFrames, AreFramesOf}
use Rattle.capture_engine.specs.Outside.{Shown}
use Rattle.capture_engine.specs.Recording.{Committed, Recorded, RecorderState, Starved, ended}
use Rattle.capture_engine.specs.inner.Grouping.{frames_of, grouped, turns_grouped}
use Rattle.capture_engine.specs.inner.Logging.{Logging}
use Rattle.capture_engine.proofs.Logging.{logging_answer, logging_turn, more_of_turn, turn_of}
use Rattle.capture_engine.proofs.Runs.{frames_are, same_frames}
use Rattle.mugshot_cli.specs.inner.Recording.{IsReady}

-- ---- the end of a turn

turn_over : (over : List (List LogItem)) (turn more : List PageInput) (input : PageInput) → begins_turn input ≡ true → All (λ i. begins_turn i ≡ false) (drop 1 turn)
    → over ++ map logged (turns (turn ++ input ∷ more)) ≡ ended over (logged turn) ++ map logged (turns (input ∷ more))
turn_over over [] more input begins answers = refl
turn_over over (first ∷ others) more input begins answers =
    ap (λ (l : List (List PageInput)). over ++ map logged l) (turns_on first others (input ∷ more) answers begins)
    ∙ sym (append_assoc over (logged (first ∷ others) ∷ []) (map logged (turns (input ∷ more))))

-- in front of an input that begins another
pub ready_after : {start now now' : Shown} {head : LogItem} {all : List PageInput} {r r' : RecorderState} (input : PageInput) (more : List PageInput) (before : Logging start now head all (input ∷ more) r)
    → begins_turn input ≡ true → Recorded start now' head (ended before.over (logged before.turn)) [] r' → IsReady start now' head all input more r'
ready_after {start} {now} {now'} {head} {all} {r} {r'} input more before begins so_far = record {
  so_far = record {
    over = ended before.over (logged before.turn);
    turn = [];
    so_far = so_far;
    answers = All-nil (λ i. begins_turn i ≡ false);
    is = before.is ∙ turn_over before.over before.turn more input begins before.answers;
  };
  turn = inl refl;
}

-- ---- an input

pub input_logged : {start now now' : Shown} {head : LogItem} {all : List PageInput} {r r' : RecorderState} (input : PageInput) (more : List PageInput) (ready : IsReady start now head all input more r)
    (item : LogItem) → item ≡ item_of input → Recorded start now' head ready.so_far.over (logged ready.so_far.turn ++ item ∷ []) r' → Logging start now' head all more r'
input_logged {start} {now} {now'} {head} {all} {r} {r'} input more ready item is recorded =
    let so_far : Recorded start now' head ready.so_far.over (logged ready.so_far.turn ++ item_of input ∷ []) r' =
    subst (λ (i : LogItem). Recorded start now' head ready.so_far.over (logged ready.so_far.turn ++ i ∷ []) r') is recorded in
    elim ready.turn [ inl none ↦ logging_turn ready.so_far input more refl none so_far | inr answer ↦ logging_answer ready.so_far input more refl answer so_far ]

empty_or_not : {A : Type 0} → (l : List A) → (l ≡ []) ⊎ (l ≡ [] → ⊥)
empty_or_not [] = inl refl
empty_or_not (x ∷ l) = inr (λ e. cc)

-- all frames, at an input
frames_of_input : {start now : Shown} {head : LogItem} {all : List PageInput} {r : RecorderState} (input : PageInput) (more : List PageInput) (ready : IsReady start now head all input more r) (frames : List (List LogItem))
    → AreFramesOf head all frames
    → (rest : List LogItem) × (others : List (List LogItem)) × AreFrames head (ready.so_far.over ++ (logged ready.so_far.turn ++ item_of input ∷ rest) ∷ others) frames
frames_of_input {start} {now} {head} {all} {r} input more ready frames are =
    elim ready.turn [
      | inl none ↦ turn_of ready.so_far input more frames refl none are
      | inr answer ↦ elim (empty_or_not ready.so_far.turn) [
        | inl none ↦ turn_of ready.so_far input more frames refl none are
        | inr some ↦ more_of_turn ready.so_far input more frames refl (λ none. absurd (some none)) answer are
      ]
    ]

-- the same, with the item that logs it
pub frames_at : {start now : Shown} {head : LogItem} {all : List PageInput} {r : RecorderState} (input : PageInput) (more : List PageInput) (ready : IsReady start now head all input more r) (item : LogItem) → item ≡ item_of input
    → (frames : List (List LogItem)) → AreFramesOf head all frames
    → (rest : List LogItem) × (others : List (List LogItem)) × AreFrames head (ready.so_far.over ++ (logged ready.so_far.turn ++ item ∷ rest) ∷ others) frames
frames_at {start} {now} {head} {all} {r} input more ready item is frames are =
    let at = frames_of_input input more ready frames are in
    (at.0, at.1, subst (λ (i : LogItem). AreFrames head (ready.so_far.over ++ (logged ready.so_far.turn ++ i ∷ at.0) ∷ at.1) frames) (sym is) at.2)

-- the same inputs are left
pub logging_same : {start now : Shown} {head : LogItem} {all left : List PageInput} {r : RecorderState} → Logging start now head all left r → (left' : List PageInput) → left ≡ left' → Logging start now head all left' r
logging_same {start} {now} {head} {all} {left} {r} before left' same = subst (λ (l : List PageInput). Logging start now head all l r) same before

-- ---- where memory is out

-- what is left of all turns, behind the items of the one that runs
abbrev Rest : List PageInput → List PageInput → Type 0
Rest turn left = (more : List LogItem) × (others : List (List LogItem)) × (map logged (turns (turn ++ left)) ≡ (logged turn ++ more) ∷ others)

rest_of_turn : (turn left : List PageInput) → All (λ i. begins_turn i ≡ false) (drop 1 turn) → (turn ++ left ≡ []) ⊎ Rest turn left
rest_of_turn [] [] answers = inl refl
rest_of_turn [] (input ∷ left) answers =
    let next = first_turn input [] left (All-nil (λ i. begins_turn i ≡ false)) in
    inr (logged ((input ∷ []) ++ next.0), map logged next.1, ap (map logged) next.2)
rest_of_turn (first ∷ others) left answers =
    let next = first_turn first others left answers in
    inr (logged next.0, map logged next.1, ap (map logged) next.2 ∙ ap (λ (l : List LogItem). l ∷ map logged next.1) (map-append item_of (first ∷ others) next.0))

no_turn : (head : LogItem) (over : List (List LogItem)) → frames_of head over ≡ frames_of head (over ++ [] ∷ [])
no_turn head over = ap (λ (l : List (List LogItem)). (head ∷ []) ∷ l) (sym (append-nil (turns_grouped over)) ∙ sym (flat_map-append (grouped []) over ([] ∷ [])))

-- the committed frames are some of all
pub starved_in : {start now : Shown} {head : LogItem} {all left : List PageInput} {r : RecorderState} (before : Logging start now head all left r) (frames : List (List LogItem)) → AreFramesOf head all frames → Starved start now frames
starved_in {start} {now} {head} {all} {left} {r} before frames are =
    let so_far = before.so_far in
    elim (rest_of_turn before.turn left before.answers) [
      | inl none ↦
          let same : map logged (turns all) ≡ before.over = before.is ∙ ap (λ (l : List PageInput). before.over ++ map logged (turns l)) none ∙ append-nil before.over in
          let turn : logged before.turn ≡ [] = no_items before.turn left none in
          let goes = so_far.goes_on [] [] in
          let all_frames : frames ≡ frames_of head (before.over ++ (logged before.turn ++ []) ∷ []) =
          same_frames head (map logged (turns all)) frames are ∙ ap (frames_of head) same ∙ no_turn head before.over ∙ ap (λ (l : List LogItem). frames_of head (before.over ++ (l ++ []) ∷ [])) (sym turn) in
          record { frames = so_far.frames; others = grouped so_far.current [] ++ turns_grouped []; is = all_frames ∙ goes; holds = so_far.done.holds }
      | inr rest ↦
          let all_frames : frames ≡ frames_of head (before.over ++ (logged before.turn ++ rest.0) ∷ rest.1) =
          same_frames head (map logged (turns all)) frames are ∙ ap (frames_of head) (before.is ∙ ap (λ (l : List (List LogItem)). before.over ++ l) rest.2) in
          record { frames = so_far.frames; others = grouped so_far.current rest.0 ++ turns_grouped rest.1; is = all_frames ∙ so_far.goes_on rest.0 rest.1; holds = so_far.done.holds }
    ]
  where
    no_items : (turn left : List PageInput) → turn ++ left ≡ [] → logged turn ≡ []
    no_items [] left none = refl
    no_items (first ∷ others) left none = absurd (cc)

-- ---- the end

-- all are committed, and they are the frames of the turns
pub finished_frames : {start now : Shown} {head : LogItem} {over : List (List LogItem)} {r : RecorderState} → Recorded start now head over [] r → (frames : List (List LogItem)) × AreFrames head over frames × Committed start now frames [] r
finished_frames {start} {now} {head} {over} {r} so_far =
    let none : so_far.current ≡ [] = so_far.over refl in
    let are : AreFrames head (over ++ [] ∷ []) so_far.frames = subst (λ (l : List LogItem). AreFrames head (over ++ [] ∷ []) (ended so_far.frames l)) none so_far.are_frames in
    let same : so_far.frames ≡ frames_of head over = same_frames head (over ++ [] ∷ []) so_far.frames are ∙ sym (no_turn head over) in (
      so_far.frames,
      subst (λ (f : List (List LogItem)). AreFrames head over f) (sym same) (frames_are head over),
      subst (λ (l : List LogItem). Committed start now so_far.frames l r) none so_far.done,
    )
