-- The run from the inputs that a run over arrivals consumed.
use Rattle.std.proofs.Common.{◌≡◌, ◌⊎◌, inl, inr, ℕ, zero, suc, ◌≤◌, Bool, List, [], ◌∷◌, refl, sym, ◌∙◌, ap, subst, arith, if◌then◌else◌}
use Rattle.arrival_file.specs.declared.arrival.Arrival.{Arrival}
use Rattle.page_inputs.specs.declared.input.PageInput.TheVariants.{Load, Now, Rand}
use Rattle.mugshot_cli.specs.ThinPage.Machine.{State, begun, contract, start_state}
use Rattle.mugshot_cli.specs.ThinPage.Run.{Answers, Run, answer, answers_of, ends, follows, from_inputs, goes_on, is_finished, is_over, moment, no_answers, plain, plain_from, replay_from, steps, used}
use Rattle.mugshot_cli.specs.declared.thin_page.reading.Statement.{Statement}
use Rattle.mugshot_cli.specs.declared.thin_page.page.Move.{Move}
use Rattle.mugshot_cli.specs.declared.thin_page.page.Move.TheVariants.{Pass, Clock, Draw, Print}
use Rattle.mugshot_cli.specs.declared.thin_page.end.End.TheVariants.{Finished, Budget}
use Rattle.mugshot_cli.proofs.ThinPage.PlainSteps.{none_left, one_more}
use Rattle.mugshot_cli.proofs.ThinPage.InputsSteps.{no_step_left, one_step_more}

-- a run over arrivals is the run from what it consumes
abbrev Again : ℕ → State → Run → Type 0
Again n s run = replay_from n s run.inputs ≡ run

same_end : (left : List Move) → is_over left [] ≡ is_finished left []
same_end [] = refl
same_end (move ∷ left) = refl

at_zero : (s : State) (a : Answers) → Again zero s (plain_from zero s a [])
at_zero s a =
    let plain_is = none_left s a [] in
    let replay_is : replay_from zero s [] ≡ ends s (if is_finished s.left [] then Finished else Budget) =
    no_step_left s [] ∙ ap (λ (b : Bool). ends s (if b then Finished else Budget)) (same_end s.left) in
    subst (Again zero s) (sym plain_is) replay_is

-- one step more, where it holds behind the step
step_again : (n : ℕ) → ((s : State) (a : Answers) → Again n s (plain_from n s a [])) → (s : State) (a : Answers) (left : List Move) → s.left ≡ left → Again (suc n) s (goes_on (plain_from n) s a left [])
step_again n later s a [] here = one_step_more n s [] ∙ ap (λ (l : List Move). follows (replay_from n) s l []) here
step_again n later s a (Pass ∷ left) here =
    let rest = later (contract s Pass left 0) a in
    let run = plain_from n (contract s Pass left 0) a [] in
    one_step_more n s run.inputs ∙ ap (λ (l : List Move). follows (replay_from n) s l run.inputs) here ∙ ap (steps s []) rest
step_again n later s a (Clock ∷ left) here =
    let v = answer a Clock in
    let rest = later (contract s Clock left v) (used a Clock) in
    let run = plain_from n (contract s Clock left v) (used a Clock) [] in
    one_step_more n s (Now v ∷ run.inputs) ∙ ap (λ (l : List Move). follows (replay_from n) s l (Now v ∷ run.inputs)) here ∙ ap (steps s (Now v ∷ [])) rest
step_again n later s a (Draw ∷ left) here =
    let w = answer a Draw in
    let rest = later (contract s Draw left w) (used a Draw) in
    let run = plain_from n (contract s Draw left w) (used a Draw) [] in
    one_step_more n s (Rand w ∷ run.inputs) ∙ ap (λ (l : List Move). follows (replay_from n) s l (Rand w ∷ run.inputs)) here ∙ ap (steps s (Rand w ∷ [])) rest
step_again n later s a (Print arguments ∷ left) here =
    let rest = later (contract s (Print arguments) left 0) a in
    let run = plain_from n (contract s (Print arguments) left 0) a [] in
    one_step_more n s run.inputs ∙ ap (λ (l : List Move). follows (replay_from n) s l run.inputs) here ∙ ap (steps s []) rest

-- the last turn runs, or is over
turn_again : (n : ℕ) (s : State) (a : Answers) → Again n s (plain_from n s a [])
turn_again zero s a = at_zero s a
turn_again (suc n) s a = subst (Again (suc n) s) (sym (one_more n s a [])) (step_again n (turn_again n) s a s.left refl)

pub plain_again : (budget : ℕ) (statements : List Statement) (arrivals : List Arrival) → 1 ≤ budget → (arrivals ≡ []) ⊎ ((arrival : Arrival) × (arrivals ≡ arrival ∷ []))
    → from_inputs budget statements (plain budget statements arrivals).inputs ≡ plain budget statements arrivals
plain_again zero statements arrivals some few = absurd (omega arith)
plain_again (suc n) statements arrivals some (inl none) =
    subst (λ (l : List Arrival). Again (suc n) (start_state statements) (plain (suc n) statements l)) (sym none) (turn_again (suc n) (start_state statements) no_answers)
plain_again (suc n) statements arrivals some (inr (arrival, one)) =
    let s = start_state statements in
    let t = moment arrival.turn in
    let run = plain_from n (begun s t) (answers_of arrival) [] in
    let plain_is : plain (suc n) statements (arrival ∷ []) ≡ steps s (Load t ∷ []) run = one_more n s no_answers (arrival ∷ []) in
    let replay_is : replay_from (suc n) s (Load t ∷ run.inputs) ≡ steps s (Load t ∷ []) run =
    one_step_more n s (Load t ∷ run.inputs) ∙ ap (steps s (Load t ∷ [])) (turn_again n (begun s t) (answers_of arrival)) in
    subst (λ (l : List Arrival). Again (suc n) s (plain (suc n) statements l)) (sym one) (subst (Again (suc n) s) (sym plain_is) replay_is)
