-- From one input of a page to the next, of a recording that is given them one after another.
use Rattle.std.specs.Prelude.{All}
use Rattle.std.proofs.Common.{◌≡◌, true, false, List, [], ◌∷◌, ◌++◌, drop, map, refl, sym, ◌∙◌, ap, subst, append_assoc}
use Rattle.std.proofs.lemmas.List.{append-nil, map-append}
use Rattle.std.proofs.lemmas.List.Elements.{All-nil, All-push}
use Rattle.page_inputs.specs.Inputs.{begins_turn}
use Rattle.page_inputs.specs.Turns.{turns as page_turns}
use Rattle.page_inputs.specs.declared.input.PageInput.{PageInput}
use Rattle.page_inputs.proofs.Turns.{first_turn, turns_on, turns_one}
use Rattle.input_log.specs.Inputs.{item_of, logged}
use Rattle.input_log.specs.declared.item.LogItem.{LogItem}
use Rattle.capture_engine.specs.Frames.{AreFrames, AreFramesOf}
use Rattle.capture_engine.specs.Outside.{Shown}
use Rattle.capture_engine.specs.Recording.{Recorded, RecorderState, ended}
use Rattle.capture_engine.specs.inner.Logging.{Logging}

-- nothing is logged yet
pub logging_start : {start now : Shown} {head : LogItem} {r : RecorderState} (all : List PageInput) → Recorded start now head [] [] r → Logging start now head all all r
logging_start all so_far = record { over = []; turn = []; so_far = so_far; answers = All-nil (λ i. begins_turn i ≡ false); is = refl }

one_more : (turn : List PageInput) (input : PageInput) → begins_turn input ≡ false → All (λ i. begins_turn i ≡ false) (drop 1 turn) → All (λ i. begins_turn i ≡ false) (drop 1 (turn ++ input ∷ []))
one_more [] input answer answers = All-nil (λ i. begins_turn i ≡ false)
one_more (first ∷ others) input answer answers = All-push (λ i. begins_turn i ≡ false) others input answers answer

-- an answer was logged
pub logging_answer : {start now now' : Shown} {head : LogItem} {all left : List PageInput} {r r' : RecorderState} (before : Logging start now head all left r) (input : PageInput) (more : List PageInput) → left ≡ input ∷ more → begins_turn input ≡ false
    → Recorded start now' head before.over (logged before.turn ++ item_of input ∷ []) r' → Logging start now' head all more r'
logging_answer {start} {now} {now'} {head} {all} {left} {r} {r'} before input more is answer so_far = record {
  over = before.over;
  turn = before.turn ++ input ∷ [];
  so_far = subst (λ (l : List LogItem). Recorded start now' head before.over l r') (sym (map-append item_of before.turn (input ∷ []))) so_far;
  answers = one_more before.turn input answer before.answers;
  is = before.is ∙ ap (λ (l : List PageInput). before.over ++ map logged (page_turns (before.turn ++ l))) is
      ∙ ap (λ (l : List PageInput). before.over ++ map logged (page_turns l)) (sym (append_assoc before.turn (input ∷ []) more));
}

turn_over : (over : List (List LogItem)) (turn more : List PageInput) (input : PageInput) → begins_turn input ≡ true → All (λ i. begins_turn i ≡ false) (drop 1 turn)
    → over ++ map logged (page_turns (turn ++ input ∷ more)) ≡ ended over (logged turn) ++ map logged (page_turns (input ∷ more))
turn_over over [] more input begins answers = refl
turn_over over (first ∷ others) more input begins answers =
    ap (λ (l : List (List PageInput)). over ++ map logged l) (turns_on first others (input ∷ more) answers begins)
    ∙ sym (append_assoc over (logged (first ∷ others) ∷ []) (map logged (page_turns (input ∷ more))))

-- the turn that ran was ended in front of an input that begins another
pub logging_ended : {start now now' : Shown} {head : LogItem} {all left : List PageInput} {r r' : RecorderState} (before : Logging start now head all left r) (input : PageInput) (more : List PageInput) → left ≡ input ∷ more → begins_turn input ≡ true
    → Recorded start now' head (ended before.over (logged before.turn)) [] r' → Logging start now' head all left r'
logging_ended {start} {now} {now'} {head} {all} {left} {r} {r'} before input more is begins so_far = record {
  over = ended before.over (logged before.turn);
  turn = [];
  so_far = so_far;
  answers = All-nil (λ i. begins_turn i ≡ false);
  is = before.is ∙ ap (λ (l : List PageInput). before.over ++ map logged (page_turns (before.turn ++ l))) is ∙ turn_over before.over before.turn more input begins before.answers
      ∙ ap (λ (l : List PageInput). ended before.over (logged before.turn) ++ map logged (page_turns l)) (sym is);
}

-- and the turn that it begins: it is logged where no item of the turn was
pub logging_turn : {start now now' : Shown} {head : LogItem} {all left : List PageInput} {r r' : RecorderState} (before : Logging start now head all left r) (input : PageInput) (more : List PageInput) → left ≡ input ∷ more → before.turn ≡ []
    → Recorded start now' head before.over (logged before.turn ++ item_of input ∷ []) r' → Logging start now' head all more r'
logging_turn {start} {now} {now'} {head} {all} {left} {r} {r'} before input more is none so_far = record {
  over = before.over;
  turn = input ∷ [];
  so_far = subst (λ (l : List PageInput). Recorded start now' head before.over (logged l ++ item_of input ∷ []) r') none so_far;
  answers = All-nil (λ i. begins_turn i ≡ false);
  is = before.is ∙ (λ i. before.over ++ map logged (page_turns (none i ++ is i)));
}

-- ---- the end

last_turn : (over : List (List LogItem)) (turn : List PageInput) → All (λ i. begins_turn i ≡ false) (drop 1 turn) → over ++ map logged (page_turns (turn ++ [])) ≡ ended over (logged turn)
last_turn over [] answers = append-nil over
last_turn over (first ∷ others) answers =
    ap (λ (l : List PageInput). over ++ map logged (page_turns l)) (append-nil (first ∷ others)) ∙ ap (λ (l : List (List PageInput)). over ++ map logged l) (turns_one first others answers)

-- all were logged, and the last turn was ended
pub logging_done : {start now now' : Shown} {head : LogItem} {all left : List PageInput} {r r' : RecorderState} (before : Logging start now head all left r) → left ≡ []
    → Recorded start now' head (ended before.over (logged before.turn)) [] r' → Recorded start now' head (map logged (page_turns all)) [] r'
logging_done {start} {now} {now'} {head} {all} {left} {r} {r'} before none so_far =
    let same : map logged (page_turns all) ≡ ended before.over (logged before.turn) =
    before.is ∙ ap (λ (l : List PageInput). before.over ++ map logged (page_turns (before.turn ++ l))) none ∙ last_turn before.over before.turn before.answers in
    subst (λ (l : List (List LogItem)). Recorded start now' head l [] r') (sym same) so_far

-- ---- what comes after, for where it halts: `frames` are those of all inputs

-- at an answer
pub more_of_turn : {start now : Shown} {head : LogItem} {all left : List PageInput} {r : RecorderState} (before : Logging start now head all left r) (input : PageInput) (more : List PageInput) (frames : List (List LogItem)) → left ≡ input ∷ more
    → (before.turn ≡ [] → begins_turn input ≡ true) → begins_turn input ≡ false → AreFramesOf head all frames
    → (rest : List LogItem) × (others : List (List LogItem)) × AreFrames head (before.over ++ (logged before.turn ++ item_of input ∷ rest) ∷ others) frames
more_of_turn {start} {now} {head} {all} {left} {r} before input more frames is begun answer are =
    from before.turn before.answers begun (before.is ∙ ap (λ (l : List PageInput). before.over ++ map logged (page_turns (before.turn ++ l))) is)
  where
    from : (turn : List PageInput) → All (λ i. begins_turn i ≡ false) (drop 1 turn) → (turn ≡ [] → begins_turn input ≡ true) → map logged (page_turns all) ≡ before.over ++ map logged (page_turns (turn ++ input ∷ more))
        → (rest : List LogItem) × (others : List (List LogItem)) × AreFrames head (before.over ++ (logged turn ++ item_of input ∷ rest) ∷ others) frames
    from [] answers begun same = let b = begun refl in absurd (cc)
    from (first ∷ others) answers begun same =
        let next = first_turn first (others ++ input ∷ []) more (All-push (λ i. begins_turn i ≡ false) others input answers answer) in
        let whole : page_turns ((first ∷ others) ++ input ∷ more) ≡ ((first ∷ (others ++ input ∷ [])) ++ next.0) ∷ next.1 =
        ap (λ (l : List PageInput). page_turns (first ∷ l)) (sym (append_assoc others (input ∷ []) more)) ∙ next.2 in
        let items : logged ((first ∷ (others ++ input ∷ [])) ++ next.0) ≡ logged (first ∷ others) ++ item_of input ∷ logged next.0 =
        ap (λ (l : List PageInput). logged (first ∷ l)) (append_assoc others (input ∷ []) next.0) ∙ map-append item_of (first ∷ others) (input ∷ next.0) in (
          logged next.0,
          map logged next.1,
          subst (λ (l : List (List LogItem)). AreFrames head l frames)
              (same ∙ ap (λ (l : List (List PageInput)). before.over ++ map logged l) whole ∙ ap (λ (l : List LogItem). before.over ++ l ∷ map logged next.1) items) are,
        )

-- at the first input of a turn
pub turn_of : {start now : Shown} {head : LogItem} {all left : List PageInput} {r : RecorderState} (before : Logging start now head all left r) (input : PageInput) (more : List PageInput) (frames : List (List LogItem)) → left ≡ input ∷ more
    → before.turn ≡ [] → AreFramesOf head all frames
    → (rest : List LogItem) × (others : List (List LogItem)) × AreFrames head (before.over ++ (logged before.turn ++ item_of input ∷ rest) ∷ others) frames
turn_of {start} {now} {head} {all} {left} {r} before input more frames is none are =
    let next = first_turn input [] more (All-nil (λ i. begins_turn i ≡ false)) in (
      logged next.0,
      map logged next.1,
      subst (λ (l : List (List LogItem)). AreFrames head l frames)
          (before.is ∙ (λ i. before.over ++ map logged (page_turns (none i ++ is i))) ∙ ap (λ (l : List (List PageInput)). before.over ++ map logged l) next.2
          ∙ ap (λ (t : List PageInput). before.over ++ (logged t ++ item_of input ∷ logged next.0) ∷ map logged next.1) (sym none)) are,
    )

-- at the end of a turn, in front of another or at the end of all
pub turns_after : {start now : Shown} {head : LogItem} {all left : List PageInput} {r : RecorderState} (before : Logging start now head all left r) (input : PageInput) (more : List PageInput) (frames : List (List LogItem)) → left ≡ input ∷ more
    → begins_turn input ≡ true → AreFramesOf head all frames → (others : List (List LogItem)) × AreFrames head (ended before.over (logged before.turn) ++ others) frames
turns_after {start} {now} {head} {all} {left} {r} before input more frames is begins are = (
  map logged (page_turns (input ∷ more)),
  subst (λ (l : List (List LogItem)). AreFrames head l frames)
      (before.is ∙ ap (λ (l : List PageInput). before.over ++ map logged (page_turns (before.turn ++ l))) is ∙ turn_over before.over before.turn more input begins before.answers) are,
)

pub no_turns_after : {start now : Shown} {head : LogItem} {all left : List PageInput} {r : RecorderState} (before : Logging start now head all left r) (frames : List (List LogItem)) → left ≡ []
    → AreFramesOf head all frames → AreFrames head (ended before.over (logged before.turn) ++ []) frames
no_turns_after {start} {now} {head} {all} {left} {r} before frames none are =
    subst (λ (l : List (List LogItem)). AreFrames head l frames)
    (before.is ∙ ap (λ (l : List PageInput). before.over ++ map logged (page_turns (before.turn ++ l))) none ∙ last_turn before.over before.turn before.answers
    ∙ sym (append-nil (ended before.over (logged before.turn)))) are
