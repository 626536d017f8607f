-- The trace of a run over inputs, step by step.
use Rattle.std.proofs.Common.{◌≡◌, ℕ, zero, suc, ◌+◌, ◌==◌, Bool, true, false, List, [], ◌∷◌, ◌++◌, length, drop, refl, sym, ◌∙◌, ap, subst, arith, append_assoc, length-append, if◌then◌else◌}
use Rattle.std.proofs.lemmas.Grind.{flat_map-append}
use Rattle.std.specs.List.{flat_map}
use Rattle.std.proofs.lemmas.List.{append-nil}
use Rattle.std.proofs.lemmas.List.Folds.{flat_map-map}
use Rattle.page_inputs.specs.declared.input.PageInput.{PageInput}
use Rattle.page_inputs.specs.declared.input.PageInput.TheVariants.{Load, Now, Rand}
use Rattle.mugshot_cli.specs.ThinPage.Machine.{State, begun, contract, counts_of}
use Rattle.capture_engine.specs.Acks.{text_of_lines}
use Rattle.mugshot_cli.specs.ThinPage.Run.{Run, begins, ends, follows, replay_from, steps, visited}
use Rattle.mugshot_cli.specs.ThinPage.Tracing.{end_lines, last_lines, lines_after, log_line, log_lines, step_lines, trace_lines, trace_text, turn_lines}
use Rattle.mugshot_cli.specs.ThinPage.inner.InputsState.{IsTraced, lines_left, RanOut, ReplayState, Stepped, replay_rest}
use Rattle.mugshot_cli.specs.declared.thin_page.page.Move.{Move}
use Rattle.mugshot_cli.specs.declared.thin_page.page.Move.TheVariants.{Pass, Clock, Draw, Print}
use Rattle.mugshot_cli.specs.declared.thin_page.end.End.{End}
use Rattle.mugshot_cli.specs.declared.thin_page.end.End.TheVariants.{Diverged}
use Rattle.mugshot_cli.specs.declared.thin_page.end.Want.TheVariants as want
use Rattle.input_log.specs.declared.item.Word.TheVariants as word
use Rattle.mugshot_cli.specs.ThinPage.inner.PlainState.{EndsAlike}
use Rattle.mugshot_cli.proofs.ThinPage.InputsSteps.{no_step_left, one_step_more}
use Rattle.mugshot_cli.proofs.ThinPage.PlainSteps.{alike_after, alike_is, alike_same, alike_then}

-- a run visits this state first
abbrev pub Begins : State → Run → Type 0
Begins s run = (more : List State) × (visited run ≡ s ∷ more)

begins_first : (next : State → List PageInput → Run) (s : State) (inputs : List PageInput) → Begins s (begins next s inputs)
begins_first next s [] = ([], refl)
begins_first next s (Load t ∷ inputs) = by_turn (s.turns == 0)
  where
    by_turn : (b : Bool) → Begins s (if b then steps s (Load t ∷ []) (next (begun s t) inputs) else ends s (Diverged want.Turn word.Load))
    by_turn true = (visited (next (begun s t) inputs), refl)
    by_turn false = ([], refl)
begins_first next s (Now v ∷ inputs) = ([], refl)
begins_first next s (Rand w ∷ inputs) = ([], refl)

follows_first : (next : State → List PageInput → Run) (s : State) (left : List Move) (inputs : List PageInput) → Begins s (follows next s left inputs)
follows_first next s [] inputs = begins_first next s inputs
follows_first next s (Pass ∷ left) inputs = (visited (next (contract s Pass left 0) inputs), refl)
follows_first next s (Clock ∷ left) [] = ([], refl)
follows_first next s (Clock ∷ left) (Now v ∷ inputs) = (visited (next (contract s Clock left v) inputs), refl)
follows_first next s (Clock ∷ left) (Load t ∷ inputs) = ([], refl)
follows_first next s (Clock ∷ left) (Rand w ∷ inputs) = ([], refl)
follows_first next s (Draw ∷ left) [] = ([], refl)
follows_first next s (Draw ∷ left) (Rand w ∷ inputs) = (visited (next (contract s Draw left w) inputs), refl)
follows_first next s (Draw ∷ left) (Load t ∷ inputs) = ([], refl)
follows_first next s (Draw ∷ left) (Now v ∷ inputs) = ([], refl)
follows_first next s (Print arguments ∷ left) inputs = (visited (next (contract s (Print arguments) left 0) inputs), refl)

first_state : (n : ℕ) (s : State) (inputs : List PageInput) → Begins s (replay_from n s inputs)
first_state zero s inputs = ([], ap visited (no_step_left s inputs))
first_state (suc n) s inputs = let first = follows_first (replay_from n) s s.left inputs in (first.0, ap visited (one_step_more n s inputs) ∙ first.1)

-- one step more
pub traced_step : (lines : List (List ℕ)) (start old new : ReplayState) → IsTraced lines start old → Stepped old new
    → IsTraced (lines ++ step_lines old.state.turns (length old.state.console) new.state) start new
traced_step lines start old new so_far made =
    let added = step_lines old.state.turns (length old.state.console) new.state in
    let rest = replay_rest new in
    let first = first_state new.left new.state new.inputs in
    let step : trace_lines (visited (replay_rest old)) ≡ added ++ trace_lines (visited rest) =
    ap (λ (r : Run). trace_lines (visited r)) made.is ∙ ap (lines_after old.state) first.1 ∙ ap (λ (l : List State). added ++ trace_lines l) (sym first.1) in
    record {
      lines_are = so_far.lines_are ∙ ap (λ (l : List (List ℕ)). lines ++ l) step ∙ sym (append_assoc lines added (trace_lines (visited rest)));
      alike = alike_then (replay_rest start) (replay_rest old) rest so_far.alike (alike_after old.state made.inputs (replay_rest old) rest rest made.is (alike_same rest));
      count =
          (let now : length (replay_rest old).inputs ≡ length made.inputs + length rest.inputs = ap (λ (r : Run). length r.inputs) made.is ∙ length-append made.inputs rest.inputs in
          omega (arith, so_far.count, made.consumed, now));
    }

pub traced_none : (start : ReplayState) → IsTraced [] start start
traced_none start = record { lines_are = refl; alike = alike_same (replay_rest start); count = refl }

-- the run ends here
pub traced_end : (lines : List (List ℕ)) (start old new : ReplayState) (end : End) → IsTraced lines start old → replay_rest old ≡ ends old.state end → new ≡ old → RanOut end start new
traced_end lines start old new end so_far is same = record {
  alike = subst (λ (r : ReplayState). EndsAlike (replay_rest start) (ends r.state end)) (sym same)
      (alike_then (replay_rest start) (replay_rest old) (ends old.state end) so_far.alike (alike_is (replay_rest old) (ends old.state end) is));
  count =
      (let none : length (replay_rest old).inputs ≡ 0 = ap (λ (r : Run). length r.inputs) is in
      let kept : new.consumed ≡ old.consumed = ap (λ (r : ReplayState). r.consumed) same in
      omega (arith, so_far.count, none, kept));
}

pub lines_at_end : (lines : List (List ℕ)) (start old : ReplayState) (end : End) → IsTraced lines start old → replay_rest old ≡ ends old.state end → text_of_lines (lines_left start) ≡ text_of_lines lines
lines_at_end lines start old end so_far is = ap text_of_lines (so_far.lines_are ∙ ap (λ (r : Run). lines ++ trace_lines (visited r)) is ∙ append-nil lines)

-- the text so far, and that of the steps to come
pub text_split : (lines : List (List ℕ)) (start now : ReplayState) → IsTraced lines start now → text_of_lines (lines_left start) ≡ text_of_lines lines ++ text_of_lines (lines_left now)
text_split lines start now so_far = ap text_of_lines so_far.lines_are ∙ flat_map-append (λ line. line) lines (trace_lines (visited (replay_rest now)))

-- the text around that of one step
pub text_around : (lines : List (List ℕ)) (start old new : ReplayState) → IsTraced lines start old → Stepped old new
    → text_of_lines (lines_left start)
    ≡ text_of_lines lines ++ (text_of_lines (step_lines old.state.turns (length old.state.console) new.state) ++ text_of_lines (lines_left new))
text_around lines start old new so_far made =
    let added = step_lines old.state.turns (length old.state.console) new.state in
    text_split (lines ++ added) start new (traced_step lines start old new so_far made)
    ∙ ap (λ (l : List ℕ). l ++ text_of_lines (lines_left new)) (flat_map-append (λ line. line) lines added)
    ∙ append_assoc (text_of_lines lines) (text_of_lines added) (text_of_lines (lines_left new))

-- a trace is its steps, and then the last line
pub trace_split : (run : Run) → trace_text run ≡ text_of_lines (trace_lines (visited run)) ++ text_of_lines (end_lines run)
trace_split run = flat_map-append (λ line. line) (trace_lines (visited run)) (end_lines run)

-- ---- a trace is printed: `r` is the run before its first step, and `now` the one after its last
module _ (r : ReplayState) (run : Run) (is : replay_rest r ≡ run) where
  pub split : trace_text run ≡ text_of_lines (lines_left r) ++ text_of_lines (end_lines run)
  split = trace_split run ∙ ap (λ (x : Run). text_of_lines (trace_lines (visited x)) ++ text_of_lines (end_lines run)) (sym is)

  module _ (end : End) (now : ReplayState) (none : r.consumed ≡ 0) (over : RanOut end r now) where
    pub end_is : run.end ≡ end
    end_is = ap (λ (x : Run). x.end) (sym is) ∙ over.alike.end_is

    pub inputs_are : now.consumed ≡ length run.inputs
    inputs_are =
        let same : length (replay_rest r).inputs ≡ length run.inputs = ap (λ (x : Run). length x.inputs) is in
        omega (arith, over.count, none, same)

    last : end_lines run ≡ last_lines end now.state.turns (counts_of now.state) now.consumed
    last =
        let turns : run.last.turns ≡ now.state.turns = ap (λ (x : Run). x.last.turns) (sym is) ∙ ap (λ (s : State). s.turns) over.alike.last_is in
        let counts : run.counts ≡ counts_of now.state = ap (λ (x : Run). x.counts) (sym is) ∙ over.alike.counts_are in
        λ i. last_lines (end_is i) (turns i) (counts i) (sym inputs_are i)

    pub whole : trace_text run ≡ text_of_lines (lines_left r) ++ text_of_lines (last_lines end now.state.turns (counts_of now.state) now.consumed)
    whole = split ∙ ap (λ (l : List (List ℕ)). text_of_lines (lines_left r) ++ text_of_lines l) last

-- the text of a step: its turn, and then its lines
pub step_text : (turns count : ℕ) (s : State) → text_of_lines (step_lines turns count s) ≡ text_of_lines (turn_lines turns s) ++ flat_map log_line (drop count s.console)
step_text turns count s =
    flat_map-append (λ line. line) (turn_lines turns s) (log_lines count s) ∙ ap (λ (l : List ℕ). text_of_lines (turn_lines turns s) ++ l) (flat_map-map (λ line. line) log_line (drop count s.console))
