-- The run over inputs, unfolded at one state.
use Rattle.std.proofs.Common.{◌≡◌, ℕ, zero, suc, ◌+◌, ◌≤◌, ◌==◌, Bool, true, false, List, [], ◌∷◌, length, refl, sym, ◌∙◌, ap, subst, arith, if◌then◌else◌}
use Rattle.page_inputs.specs.declared.input.PageInput.{PageInput}
use Rattle.page_inputs.specs.declared.input.PageInput.TheVariants.{Load, Now, Rand}
use Rattle.mugshot_cli.specs.ThinPage.Machine.{State, advanced, asks, begun, contract, runs}
use Rattle.mugshot_cli.specs.ThinPage.Run.{ends, follows, is_over, replay_from, steps}
use Rattle.mugshot_cli.specs.ThinPage.inner.InputsState.{EndsClock, EndsDraw, EndsIdle, ReplayState, Stepped, replay_rest}
use Rattle.mugshot_cli.specs.declared.thin_page.page.Move.{Move}
use Rattle.mugshot_cli.specs.declared.thin_page.page.Move.TheVariants.{Pass, Clock, Draw, Print}
use Rattle.mugshot_cli.specs.declared.thin_page.page.Question.TheVariants as question
use Rattle.mugshot_cli.specs.declared.thin_page.end.End.{End}
use Rattle.mugshot_cli.specs.declared.thin_page.end.End.TheVariants.{Finished, Budget, Diverged}
use Rattle.mugshot_cli.specs.declared.thin_page.end.Want.TheVariants as want
use Rattle.input_log.specs.declared.item.Word.TheVariants as word

pub no_step_left : (s : State) (inputs : List PageInput) → replay_from zero s inputs ≡ ends s (if is_over s.left inputs then Finished else Budget)
unfolding replay_from
no_step_left s inputs = refl

pub one_step_more : (n : ℕ) (s : State) (inputs : List PageInput) → replay_from (suc n) s inputs ≡ follows (replay_from n) s s.left inputs
unfolding replay_from
one_step_more n s inputs = refl

over_by : (n : ℕ) (s : State) (left : List Move) (inputs : List PageInput) → s.left ≡ left → is_over left inputs ≡ true → replay_from n s inputs ≡ ends s Finished
over_by zero s left inputs here over = no_step_left s inputs ∙ ap (λ (b : Bool). ends s (if b then Finished else Budget)) (ap (λ (l : List Move). is_over l inputs) here ∙ over)
over_by (suc n) s [] [] here over = one_step_more n s [] ∙ ap (λ (l : List Move). follows (replay_from n) s l []) here
over_by (suc n) s [] (item ∷ inputs) here over = absurd (cc)
over_by (suc n) s (move ∷ left) inputs here over = absurd (cc)

-- no turn runs and no input is left
pub over_ends : (r : ReplayState) → is_over r.state.left r.inputs ≡ true → replay_rest r ≡ ends r.state Finished
over_ends r over = over_by r.left r.state r.state.left r.inputs refl over

spent_by : (n : ℕ) (s : State) (inputs : List PageInput) → n ≡ 0 → is_over s.left inputs ≡ false → replay_from n s inputs ≡ ends s Budget
spent_by zero s inputs none on = no_step_left s inputs ∙ ap (λ (b : Bool). ends s (if b then Finished else Budget)) on
spent_by (suc n) s inputs none on = absurd (omega arith)

-- all steps were made, and the run isn't over
pub spent_ends : (r : ReplayState) → is_over r.state.left r.inputs ≡ false → r.left ≡ 0 → replay_rest r ≡ ends r.state Budget
spent_ends r on none = spent_by r.left r.state r.inputs none on

-- where steps are left, and this is left of the turn
follows_by : (n m : ℕ) (s : State) (left : List Move) (inputs : List PageInput) → n ≡ m + 1 → s.left ≡ left → replay_from n s inputs ≡ follows (replay_from m) s left inputs
follows_by zero m s left inputs count here = absurd (omega arith)
follows_by (suc n) m s left inputs count here =
    one_step_more n s inputs ∙ ap (λ (l : List Move). follows (replay_from n) s l inputs) here
    ∙ ap (λ (k : ℕ). follows (replay_from k) s left inputs) (let e : n ≡ m = omega arith in e)

idle_left : (left : List Move) → runs left ≡ false → left ≡ []
idle_left [] none = refl
idle_left (move ∷ left) none = absurd (cc)

clock_left : (left : List Move) → asks left ≡ question.Clock → (more : List Move) × (left ≡ Clock ∷ more)
clock_left [] clock = absurd (cc)
clock_left (Pass ∷ more) clock = absurd (cc)
clock_left (Clock ∷ more) clock = (more, refl)
clock_left (Draw ∷ more) clock = absurd (cc)
clock_left (Print arguments ∷ more) clock = absurd (cc)

word_left : (left : List Move) → asks left ≡ question.Word → (more : List Move) × (left ≡ Draw ∷ more)
word_left [] word = absurd (cc)
word_left (Pass ∷ more) word = absurd (cc)
word_left (Clock ∷ more) word = absurd (cc)
word_left (Draw ∷ more) word = (more, refl)
word_left (Print arguments ∷ more) word = absurd (cc)

before : (n : ℕ) → 1 ≤ n → (m : ℕ) × (n ≡ m + 1)
before zero some = absurd (omega arith)
before (suc n) some = (n, (let e : suc n ≡ n + 1 = omega arith in e))

-- ---- where the run ends before its next step

pub idle_ends : (r : ReplayState) (end : End) → 1 ≤ r.left → runs r.state.left ≡ false → EndsIdle r.state r.inputs end → replay_rest r ≡ ends r.state end
idle_ends r end some idle stops =
    let m = before r.left some in
    follows_by r.left m.0 r.state [] r.inputs m.1 (idle_left r.state.left idle) ∙ stops (replay_from m.0)

pub clock_ends : (r : ReplayState) (end : End) → 1 ≤ r.left → asks r.state.left ≡ question.Clock → EndsClock r.inputs end → replay_rest r ≡ ends r.state end
clock_ends r end some clock stops =
    let m = before r.left some in
    let here = clock_left r.state.left clock in
    follows_by r.left m.0 r.state (Clock ∷ here.0) r.inputs m.1 here.1 ∙ stops (replay_from m.0) r.state here.0

pub draw_ends : (r : ReplayState) (end : End) → 1 ≤ r.left → asks r.state.left ≡ question.Word → EndsDraw r.inputs end → replay_rest r ≡ ends r.state end
draw_ends r end some word stops =
    let m = before r.left some in
    let here = word_left r.state.left word in
    follows_by r.left m.0 r.state (Draw ∷ here.0) r.inputs m.1 here.1 ∙ stops (replay_from m.0) r.state here.0

-- the end at the run as it is kept, which is `old`
pub ends_as : (r old : ReplayState) (end : End) → r ≡ old → replay_rest r ≡ ends r.state end → (replay_rest old ≡ ends old.state end) × (old ≡ old)
ends_as r old end same is = (subst (λ (x : ReplayState). replay_rest x ≡ ends x.state end) same is, refl)

-- ---- steps: `r` is the run as it is kept, which is `old`, and `new` the one behind a step

module _ (r old new : ReplayState) (same : r ≡ old) (count : r.left ≡ new.left + 1) where
  made : (inputs : List PageInput) → new.consumed ≡ r.consumed + length inputs → replay_rest r ≡ steps r.state inputs (replay_rest new) → Stepped old new
  made inputs more is = record {
    inputs = inputs;
    count = (let e : r.left ≡ old.left = ap (λ (x : ReplayState). x.left) same in omega arith);
    consumed = more ∙ ap (λ (x : ReplayState). x.consumed + length inputs) same;
    is = subst (λ (x : ReplayState). replay_rest x ≡ steps x.state inputs (replay_rest new)) same is;
  }

  pub turn_begins : (t : ℕ) (others : List PageInput) → runs old.state.left ≡ false → r.state.turns ≡ 0 → r.inputs ≡ Load t ∷ others → new.state ≡ begun r.state t → new.inputs ≡ others
      → new.consumed ≡ r.consumed + 1 → Stepped old new
  turn_begins t others idle first here state rest more =
      let none : r.state.left ≡ [] = idle_left r.state.left (ap (λ (x : ReplayState). runs x.state.left) same ∙ idle) in
      let zeroth : (r.state.turns == 0) ≡ true = ap (λ (k : ℕ). k == 0) first in
      made (Load t ∷ []) more (
      ap (replay_from r.left r.state) here
      ∙ follows_by r.left new.left r.state [] (Load t ∷ others) count none
      ∙ ap (λ (b : Bool). if b then steps r.state (Load t ∷ []) (replay_from new.left (begun r.state t) others) else ends r.state (Diverged want.Turn word.Load)) zeroth
      ∙ sym (λ i. steps r.state (Load t ∷ []) (replay_from new.left (state i) (rest i))))

  pass_by : (left : List Move) → r.state.left ≡ left → runs left ≡ true → asks left ≡ question.Nothing → new.state ≡ advanced r.state left 0 → new.inputs ≡ r.inputs → new.consumed ≡ r.consumed + 0
      → Stepped old new
  pass_by [] here busy nothing state rest more = absurd (cc)
  pass_by (Pass ∷ left) here busy nothing state rest more =
      made [] more (follows_by r.left new.left r.state (Pass ∷ left) r.inputs count here ∙ sym (λ i. steps r.state [] (replay_from new.left (state i) (rest i))))
  pass_by (Clock ∷ left) here busy nothing state rest more = absurd (cc)
  pass_by (Draw ∷ left) here busy nothing state rest more = absurd (cc)
  pass_by (Print arguments ∷ left) here busy nothing state rest more =
      made [] more (follows_by r.left new.left r.state (Print arguments ∷ left) r.inputs count here ∙ sym (λ i. steps r.state [] (replay_from new.left (state i) (rest i))))

  -- a step that asks nothing
  pub passes : runs old.state.left ≡ true → asks old.state.left ≡ question.Nothing → new.state ≡ advanced r.state r.state.left 0 → new.inputs ≡ r.inputs → new.consumed ≡ r.consumed + 0 → Stepped old new
  passes busy nothing state rest more =
      pass_by r.state.left refl (ap (λ (x : ReplayState). runs x.state.left) same ∙ busy) (ap (λ (x : ReplayState). asks x.state.left) same ∙ nothing) state rest more

  -- a step that asks the clock
  pub reads_clock : (v : ℕ) (others : List PageInput) → asks old.state.left ≡ question.Clock → r.inputs ≡ Now v ∷ others → new.state ≡ advanced r.state r.state.left v → new.inputs ≡ others
      → new.consumed ≡ r.consumed + 1 → Stepped old new
  reads_clock v others clock here state rest more =
      let left = clock_left r.state.left (ap (λ (x : ReplayState). asks x.state.left) same ∙ clock) in
      let state_is : new.state ≡ contract r.state Clock left.0 v = state ∙ ap (λ (l : List Move). advanced r.state l v) left.1 in
      made (Now v ∷ []) more (
      ap (replay_from r.left r.state) here
      ∙ follows_by r.left new.left r.state (Clock ∷ left.0) (Now v ∷ others) count left.1
      ∙ sym (λ i. steps r.state (Now v ∷ []) (replay_from new.left (state_is i) (rest i))))

  -- a step that asks for a random word
  pub draws_word : (w : ℕ) (others : List PageInput) → asks old.state.left ≡ question.Word → r.inputs ≡ Rand w ∷ others → new.state ≡ advanced r.state r.state.left w → new.inputs ≡ others
      → new.consumed ≡ r.consumed + 1 → Stepped old new
  draws_word w others word here state rest more =
      let left = word_left r.state.left (ap (λ (x : ReplayState). asks x.state.left) same ∙ word) in
      let state_is : new.state ≡ contract r.state Draw left.0 w = state ∙ ap (λ (l : List Move). advanced r.state l w) left.1 in
      made (Rand w ∷ []) more (
      ap (replay_from r.left r.state) here
      ∙ follows_by r.left new.left r.state (Draw ∷ left.0) (Rand w ∷ others) count left.1
      ∙ sym (λ i. steps r.state (Rand w ∷ []) (replay_from new.left (state_is i) (rest i))))
