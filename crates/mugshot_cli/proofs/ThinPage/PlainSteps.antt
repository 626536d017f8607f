-- The run over arrivals, unfolded at one state.
use Rattle.std.proofs.Common.{◌≡◌, ℕ, zero, suc, ◌+◌, ◌<◌, Bool, true, false, List, [], ◌∷◌, ◌++◌, refl, sym, ◌∙◌, ap, subst, arith, append_assoc, if◌then◌else◌}
use Rattle.std.specs.Prelude.{All}
use Rattle.std.proofs.lemmas.List.Elements.{All-head, All-tail}
use Rattle.arrival_file.specs.declared.arrival.Arrival.{Arrival}
use Rattle.arrival_file.specs.declared.arrival.Turn.{Turn}
use Rattle.arrival_file.specs.declared.arrival.Turn.TheVariants as turn
use Rattle.arrival_file.specs.Ranges.{IsInRange, IsTimely}
use Rattle.page_inputs.specs.declared.input.PageInput.{PageInput}
use Rattle.page_inputs.specs.declared.input.PageInput.TheVariants.{Load, Now, Rand}
use Rattle.mugshot_cli.specs.ThinPage.Machine.{State, advanced, asks, begun, contract, runs}
use Rattle.mugshot_cli.specs.ThinPage.Run.{Answers, Run, answer, answers_of, asked, ends, first_or, goes_on, is_finished, moment, plain_from, steps, used}
use Rattle.mugshot_cli.specs.ThinPage.inner.PlainState.{EndsAlike, EndsIn, IsAhead, PlainState, rest_of}
use Rattle.mug_text.specs.declared.limits.TheConstants.{SAFE_END}
use Rattle.page_inputs.specs.Inputs.{IsInput}
use Rattle.mugshot_cli.specs.declared.thin_page.page.Move.{Move}
use Rattle.mugshot_cli.specs.declared.thin_page.page.Move.TheVariants.{Pass, Clock, Draw, Print}
use Rattle.mugshot_cli.specs.declared.thin_page.page.Question.TheVariants as question
use Rattle.mugshot_cli.specs.declared.thin_page.end.End.{End}
use Rattle.mugshot_cli.specs.declared.thin_page.end.End.TheVariants.{Finished, Budget}

pub none_left : (s : State) (a : Answers) (arrivals : List Arrival) → plain_from zero s a arrivals ≡ ends s (if is_finished s.left arrivals then Finished else Budget)
unfolding plain_from
none_left s a arrivals = refl

pub one_more : (n : ℕ) (s : State) (a : Answers) (arrivals : List Arrival) → plain_from (suc n) s a arrivals ≡ goes_on (plain_from n) s a s.left arrivals
unfolding plain_from
one_more n s a arrivals = refl

finished_by : (n : ℕ) (s : State) (a : Answers) (left : List Move) (arrivals : List Arrival) → s.left ≡ left → is_finished left arrivals ≡ true → plain_from n s a arrivals ≡ ends s Finished
finished_by zero s a left arrivals here done =
    none_left s a arrivals ∙ ap (λ (b : Bool). ends s (if b then Finished else Budget)) (ap (λ (l : List Move). is_finished l arrivals) here ∙ done)
finished_by (suc n) s a [] [] here done = one_more n s a [] ∙ ap (λ (l : List Move). goes_on (plain_from n) s a l []) here
finished_by (suc n) s a [] (arrival ∷ arrivals) here done = absurd (cc)
finished_by (suc n) s a (move ∷ left) arrivals here done = absurd (cc)

-- no turn runs and no arrival is left
pub finished_ends : (r : PlainState) → is_finished r.state.left r.arrivals ≡ true → rest_of r ≡ ends r.state Finished
finished_ends r done = finished_by r.left r.state r.answers r.state.left r.arrivals refl done

spent_by : (n : ℕ) (s : State) (a : Answers) (arrivals : List Arrival) → n ≡ 0 → is_finished s.left arrivals ≡ false → plain_from n s a arrivals ≡ ends s Budget
spent_by zero s a arrivals none on = none_left s a arrivals ∙ ap (λ (b : Bool). ends s (if b then Finished else Budget)) on
spent_by (suc n) s a arrivals none on = absurd (omega arith)

-- all steps were made, and the run isn't finished
pub spent_ends : (r : PlainState) → is_finished r.state.left r.arrivals ≡ false → r.left ≡ 0 → rest_of r ≡ ends r.state Budget
spent_ends r on none = spent_by r.left r.state r.answers r.arrivals none on

begins_by : (n m : ℕ) (s : State) (a : Answers) (left : List Move) (arrival : Arrival) (arrivals : List Arrival) → n ≡ m + 1 → s.left ≡ left → left ≡ []
    → plain_from n s a (arrival ∷ arrivals) ≡ steps s (Load (moment arrival.turn) ∷ []) (plain_from m (begun s (moment arrival.turn)) (answers_of arrival) arrivals)
begins_by zero m s a left arrival arrivals count here idle = absurd (omega arith)
begins_by (suc n) m s a left arrival arrivals count here idle =
    one_more n s a (arrival ∷ arrivals) ∙ ap (λ (l : List Move). goes_on (plain_from n) s a l (arrival ∷ arrivals)) (here ∙ idle)
    ∙ ap (λ (k : ℕ). steps s (Load (moment arrival.turn) ∷ []) (plain_from k (begun s (moment arrival.turn)) (answers_of arrival) arrivals)) (let e : n ≡ m = omega arith in e)

idle_left : (left : List Move) → runs left ≡ false → left ≡ []
idle_left [] none = refl
idle_left (move ∷ left) none = absurd (cc)

moves_by : (n m : ℕ) (s : State) (a : Answers) (left : List Move) (arrivals : List Arrival) (move : Move) (more : List Move) → n ≡ m + 1 → s.left ≡ left → left ≡ move ∷ more
    → plain_from n s a arrivals ≡ steps s (asked a move) (plain_from m (contract s move more (answer a move)) (used a move) arrivals)
moves_by zero m s a left arrivals move more count here is = absurd (omega arith)
moves_by (suc n) m s a left arrivals move more count here is =
    one_more n s a arrivals ∙ ap (λ (l : List Move). goes_on (plain_from n) s a l arrivals) (here ∙ is)
    ∙ ap (λ (k : ℕ). steps s (asked a move) (plain_from k (contract s move more (answer a move)) (used a move) arrivals)) (let e : n ≡ m = omega arith in e)

-- `r` is the state as it is kept, which is `old`, and `new` the one behind a step
module _ (r old new : PlainState) (same : r ≡ old) (count : r.left ≡ new.left + 1) where
  behind_old : (inputs : List PageInput) → rest_of r ≡ steps r.state inputs (rest_of new) → rest_of old ≡ steps old.state inputs (rest_of new)
  behind_old inputs is = subst (λ (x : PlainState). rest_of x ≡ steps x.state inputs (rest_of new)) same is

  -- the next arrival begins its turn
  pub turn_begins : (arrival : Arrival) (arrivals : List Arrival) (t : ℕ) → runs old.state.left ≡ false → r.arrivals ≡ arrival ∷ arrivals → t ≡ moment arrival.turn → new.state ≡ begun r.state t
      → new.answers ≡ record { t = t; nows = arrival.nows; rands = arrival.rands } → new.arrivals ≡ arrivals → rest_of old ≡ steps old.state (Load t ∷ []) (rest_of new)
  turn_begins arrival arrivals t idle here time state answers others =
      let none : r.state.left ≡ [] = idle_left r.state.left (ap (λ (x : PlainState). runs x.state.left) same ∙ idle) in
      behind_old (Load t ∷ []) (
      ap (plain_from r.left r.state r.answers) here
      ∙ begins_by r.left new.left r.state r.answers r.state.left arrival arrivals count refl none
      ∙ sym (λ i. steps r.state (Load (time i) ∷ []) (plain_from new.left (state_is i) (answers_are i) (others i))))
    where
      state_is : new.state ≡ begun r.state (moment arrival.turn)
      state_is = state ∙ ap (begun r.state) time

      answers_are : new.answers ≡ answers_of arrival
      answers_are = answers ∙ ap (λ (t : ℕ). record { t = t; nows = arrival.nows; rands = arrival.rands }) time

  module _ (others : new.arrivals ≡ r.arrivals) where
    moved : (left : List Move) (move : Move) (more : List Move) (v : ℕ) (inputs : List PageInput) → r.state.left ≡ left → left ≡ move ∷ more → v ≡ answer r.answers move → inputs ≡ asked r.answers move
        → new.state ≡ contract r.state move more v → new.answers ≡ used r.answers move → rest_of old ≡ steps old.state inputs (rest_of new)
    moved left move more v inputs here is value consumed state answers =
        behind_old inputs (
        moves_by r.left new.left r.state r.answers left r.arrivals move more count here is
        ∙ sym (λ i. steps r.state (consumed i) (plain_from new.left (state_is i) (answers i) (others i))))
      where
        state_is : new.state ≡ contract r.state move more (answer r.answers move)
        state_is = state ∙ ap (contract r.state move more) value

    pass_by : (left : List Move) → r.state.left ≡ left → runs left ≡ true → asks left ≡ question.Nothing → new.state ≡ advanced r.state left 0 → new.answers ≡ r.answers
        → rest_of old ≡ steps old.state [] (rest_of new)
    pass_by [] here busy nothing state answers = absurd (cc)
    pass_by (Pass ∷ more) here busy nothing state answers = moved (Pass ∷ more) Pass more 0 [] here refl refl refl state answers
    pass_by (Clock ∷ more) here busy nothing state answers = absurd (cc)
    pass_by (Draw ∷ more) here busy nothing state answers = absurd (cc)
    pass_by (Print arguments ∷ more) here busy nothing state answers = moved (Print arguments ∷ more) (Print arguments) more 0 [] here refl refl refl state answers

    -- a step that asks nothing
    pub passes : runs old.state.left ≡ true → asks old.state.left ≡ question.Nothing → new.state ≡ advanced r.state r.state.left 0 → new.answers ≡ r.answers
        → rest_of old ≡ steps old.state [] (rest_of new)
    passes busy nothing state answers =
        pass_by r.state.left refl (ap (λ (x : PlainState). runs x.state.left) same ∙ busy) (ap (λ (x : PlainState). asks x.state.left) same ∙ nothing) state answers

    clock_by : (left : List Move) (v : ℕ) → r.state.left ≡ left → runs left ≡ true → asks left ≡ question.Clock → v ≡ answer r.answers Clock → new.state ≡ advanced r.state left v
        → new.answers ≡ used r.answers Clock → rest_of old ≡ steps old.state (Now v ∷ []) (rest_of new)
    clock_by [] v here busy clock value state answers = absurd (cc)
    clock_by (Pass ∷ more) v here busy clock value state answers = absurd (cc)
    clock_by (Clock ∷ more) v here busy clock value state answers = moved (Clock ∷ more) Clock more v (Now v ∷ []) here refl value (ap (λ (n : ℕ). Now n ∷ []) value) state answers
    clock_by (Draw ∷ more) v here busy clock value state answers = absurd (cc)
    clock_by (Print arguments ∷ more) v here busy clock value state answers = absurd (cc)

    -- a step that asks the clock
    pub reads_clock : (v : ℕ) → runs old.state.left ≡ true → asks old.state.left ≡ question.Clock → v ≡ answer r.answers Clock → new.state ≡ advanced r.state r.state.left v
        → new.answers ≡ used r.answers Clock → rest_of old ≡ steps old.state (Now v ∷ []) (rest_of new)
    reads_clock v busy clock value state answers =
        clock_by r.state.left v refl (ap (λ (x : PlainState). runs x.state.left) same ∙ busy) (ap (λ (x : PlainState). asks x.state.left) same ∙ clock) value state answers

    draw_by : (left : List Move) (w : ℕ) → r.state.left ≡ left → runs left ≡ true → asks left ≡ question.Word → w ≡ answer r.answers Draw → new.state ≡ advanced r.state left w
        → new.answers ≡ used r.answers Draw → rest_of old ≡ steps old.state (Rand w ∷ []) (rest_of new)
    draw_by [] w here busy word value state answers = absurd (cc)
    draw_by (Pass ∷ more) w here busy word value state answers = absurd (cc)
    draw_by (Clock ∷ more) w here busy word value state answers = absurd (cc)
    draw_by (Draw ∷ more) w here busy word value state answers = moved (Draw ∷ more) Draw more w (Rand w ∷ []) here refl value (ap (λ (n : ℕ). Rand n ∷ []) value) state answers
    draw_by (Print arguments ∷ more) w here busy word value state answers = absurd (cc)

    -- a step that asks for a random word
    pub draws_word : (w : ℕ) → runs old.state.left ≡ true → asks old.state.left ≡ question.Word → w ≡ answer r.answers Draw → new.state ≡ advanced r.state r.state.left w
        → new.answers ≡ used r.answers Draw → rest_of old ≡ steps old.state (Rand w ∷ []) (rest_of new)
    draws_word w busy word value state answers =
        draw_by r.state.left w refl (ap (λ (x : PlainState). runs x.state.left) same ∙ busy) (ap (λ (x : PlainState). asks x.state.left) same ∙ word) value state answers

-- ---- runs that end alike

pub alike_same : (run : Run) → EndsAlike run run
alike_same run = record { last_is = refl; end_is = refl; dropped_is = refl; counts_are = refl }

pub alike_is : (run rest : Run) → run ≡ rest → EndsAlike run rest
alike_is run rest is = subst (EndsAlike run) is (alike_same run)

pub alike_then : (run mid rest : Run) → EndsAlike run mid → EndsAlike mid rest → EndsAlike run rest
alike_then run mid rest a b = record {
  last_is = a.last_is ∙ b.last_is;
  end_is = a.end_is ∙ b.end_is;
  dropped_is = a.dropped_is ∙ b.dropped_is;
  counts_are = a.counts_are ∙ b.counts_are;
}

-- a step in front changes nothing of a run's end
pub alike_after : (s : State) (inputs : List PageInput) (run mid rest : Run) → run ≡ steps s inputs mid → EndsAlike mid rest → EndsAlike run rest
alike_after s inputs run mid rest is alike = alike_then run (steps s inputs mid) rest (alike_is run (steps s inputs mid) is)
    (record { last_is = alike.last_is; end_is = alike.end_is; dropped_is = alike.dropped_is; counts_are = alike.counts_are })

-- where the rest ends at once, the whole ends in this state
pub ends_in : (whole : Run) (r : PlainState) (end : End) → EndsAlike whole (rest_of r) → rest_of r ≡ ends r.state end → EndsIn whole r
ends_in whole r end alike is =
    let same : end ≡ whole.end = sym (alike.end_is ∙ ap (λ (x : Run). x.end) is) in
    record { alike = alike; end_is = is ∙ ap (ends r.state) same }

-- a step more in front of a rest
pub ahead_by : (s : State) (inputs more all : List PageInput) (run mid rest : Run) → run ≡ steps s inputs mid → IsAhead more mid rest → all ≡ inputs ++ more → IsAhead all run rest
ahead_by s inputs more all run mid rest is ahead whole = record {
  inputs_are = ap (λ (r : Run). r.inputs) is ∙ ap (λ (l : List PageInput). inputs ++ l) ahead.inputs_are ∙ sym (append_assoc inputs more rest.inputs) ∙ ap (λ (l : List PageInput). l ++ rest.inputs) (sym whole);
  alike = alike_after s inputs run mid rest is ahead.alike;
}

pub ahead_none : (run : Run) → IsAhead [] run run
ahead_none run = record { inputs_are = refl; alike = alike_same run }

-- the first value is in the range that all are in
pub first_below : (n otherwise v : ℕ) (values : List ℕ) → v ≡ first_or otherwise values → otherwise < n → All (λ v. v < n) values → v < n
first_below n otherwise v [] is low all = omega arith
first_below n otherwise v (w ∷ values) is low all = let first : w < n = All-head (λ (v : ℕ). v < n) w values all in omega arith

-- the moment of the first arrival is in its range
pub timely : (arrival : Arrival) (arrivals all : List Arrival) (t : ℕ) → all ≡ arrival ∷ arrivals → All IsInRange all → t ≡ moment arrival.turn → IsInput (Load t)
timely arrival arrivals all t is ranges time = omega (arith, by_turn arrival.turn (All-head IsInRange arrival arrivals (subst (All IsInRange) is ranges)).moment, time)
  where
    by_turn : (at : Turn) → IsTimely at → moment at < SAFE_END
    by_turn (turn.Load t) timely = timely

pub first_range : (arrival : Arrival) (arrivals all : List Arrival) → all ≡ arrival ∷ arrivals → All IsInRange all → IsInRange arrival
first_range arrival arrivals all is ranges = All-head IsInRange arrival arrivals (subst (All IsInRange) is ranges)

pub other_ranges : (arrival : Arrival) (arrivals all : List Arrival) → all ≡ arrival ∷ arrivals → All IsInRange all → All IsInRange arrivals
other_ranges arrival arrivals all is ranges = All-tail IsInRange arrival arrivals (subst (All IsInRange) is ranges)

-- a run that ends consumes nothing more
pub none_at_end : (run rest : Run) (s : State) (end : End) → IsAhead [] run rest → rest ≡ ends s end → run.inputs ≡ []
none_at_end run rest s end ahead is = ahead.inputs_are ∙ ap (λ (r : Run). r.inputs) is
