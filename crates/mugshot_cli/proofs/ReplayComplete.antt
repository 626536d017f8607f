-- Where nothing fails, `replay` of a session with a thin page answers by the end of its run, or finds no memory.
use Rattle.std.proofs.Common.{◌≡◌, ◌⊎◌, inl, inr, ℕ, ◌+◌, List, [], ◌∷◌, length, Some, refl, sym, ◌∙◌, subst}
use Rattle.input_log.specs.Inputs.{inputs_of}
use Rattle.input_log.specs.declared.item.LogItem.TheVariants.{Head}
use Rattle.session_store.specs.Recovery.{Whole}
use Rattle.session_store.proofs.Unique.{one_found}
use Rattle.capture_engine.specs.Outside.{Shown}
use Rattle.mugshot_cli.specs.Outcome.{of_replay, status_of}
use Rattle.mugshot_cli.specs.Outside.{Outside}
use Rattle.mugshot_cli.specs.Replaying.{HasOtherPage, IsHeadless, Replayed, Replays, TookTrace}
use Rattle.mugshot_cli.specs.ThinPage.Reading.{IsThin}
use Rattle.mugshot_cli.specs.ThinPage.Run.{Run, from_inputs}
use Rattle.mugshot_cli.specs.Top.{AnswersRun, IsQuiet, ReplayCompletes, WordsDid}
use Rattle.mugshot_cli.specs.declared.command.Command.TheVariants as command
use Rattle.mugshot_cli.specs.declared.outcome.Outcome.{Outcome}
use Rattle.mugshot_cli.specs.declared.outcome.Status.{Status}
use Rattle.mugshot_cli.specs.declared.outcome.Status.TheVariants as status
use Rattle.mugshot_cli.specs.declared.replaying.ReplayOutcome.{ReplayOutcome}
use Rattle.mugshot_cli.specs.declared.replaying.ReplayOutcome.TheVariants.{Done, Budget, Diverged, Refused, Headless, OtherPage, WriteFault, NoMemory}
use Rattle.mugshot_cli.specs.declared.thin_page.end.End.{End}
use Rattle.mugshot_cli.specs.declared.thin_page.end.End.TheVariants as end
use Rattle.mugshot_cli.proofs.ListComplete.{starved_alone, told}
use Rattle.mugshot_cli.proofs.ThinPage.Statements.{same_page}

-- bytes have one run
one_run : (bytes : List ℕ) (b b' : ℕ) (run run' : Run) → Replays bytes b run → Replays bytes b' run' → run ≡ run'
one_run bytes b b' run run' r r' =
    let same : Whole (Head r.base b r.page ∷ r.items) r.place ≡ Whole (Head r'.base b' r'.page ∷ r'.items) r'.place = one_found bytes _ _ r.whole r'.whole in
    let budgets : b ≡ b' = cc in
    let pages : r.page ≡ r'.page = cc in
    let items : r.items ≡ r'.items = cc in
    let thin : IsThin r'.page r.statements = subst (λ (l : List ℕ). IsThin l r.statements) pages r.thin in
    let statements : r.statements ≡ r'.statements = same_page r'.page _ _ thin r'.thin in
    r.is ∙ (λ i. from_inputs (budgets i) (statements i) (inputs_of (items i))) ∙ sym r'.is

not_other : (bytes : List ℕ) (budget : ℕ) (run : Run) → Replays bytes budget run → HasOtherPage bytes → ⊥
not_other bytes budget run r other =
    let same : Whole (Head r.base budget r.page ∷ r.items) r.place ≡ Whole (Head other.base other.budget other.page ∷ other.items) other.place = one_found bytes _ _ r.whole other.whole in
    let pages : r.page ≡ other.page = cc in
    other.other r.statements (subst (λ (l : List ℕ). IsThin l r.statements) pages r.thin)

-- there was no memory
starved : (run : Run) (answer : Status) → answer ≡ status.NoMemory → AnswersRun run answer
starved run answer is = record { done = λ ended. inr is; spent = λ spent. inr is }

finished : (run : Run) (answer : Status) → ((run.end ≡ end.Finished) ⊎ (run.end ≡ end.Cut)) → answer ≡ status.Done → AnswersRun run answer
finished run answer ended is = record { done = λ _. inl is; spent = λ spent. absurd (not_both run.end ended spent) }
  where
    not_both : (e : End) → (e ≡ end.Finished) ⊎ (e ≡ end.Cut) → e ≡ end.Budget → ⊥
    not_both e (inl a) b = cc
    not_both e (inr a) b = cc

spent : (run : Run) (answer : Status) → run.end ≡ end.Budget → answer ≡ status.Budget → AnswersRun run answer
spent run answer ended is = record { done = λ done. absurd (not_both run.end done ended); spent = λ _. inl is }
  where
    not_both : (e : End) → (e ≡ end.Finished) ⊎ (e ≡ end.Cut) → e ≡ end.Budget → ⊥
    not_both e (inl a) b = cc
    not_both e (inr a) b = cc

diverged : (run : Run) (answer : Status) (e : End) → run.end ≡ e → (e ≡ end.Finished → ⊥) → (e ≡ end.Cut → ⊥) → (e ≡ end.Budget → ⊥) → AnswersRun run answer
diverged run answer e ended not_done not_cut not_spent = record { done = λ done. absurd (neither done); spent = λ spent. absurd (not_spent (sym ended ∙ spent)) }
  where
    neither : (run.end ≡ end.Finished) ⊎ (run.end ≡ end.Cut) → ⊥
    neither (inl a) = not_done (sym ended ∙ a)
    neither (inr a) = not_cut (sym ended ∙ a)

answers : (own : ReplayOutcome) (before after : Shown) (bytes : List ℕ) (budget : ℕ) (run : Run) → before.held ≡ Some bytes → Replays bytes budget run → IsQuiet before after → Replayed own before after
    → AnswersRun run (status_of (of_replay own))
answers Done before after bytes budget run is replays quiet did =
    let found = told (λ bytes. (budget : ℕ) × (run : Run) × Replays bytes budget run × (((run.end ≡ end.Finished) ⊎ (run.end ≡ end.Cut)) × TookTrace run before after)) before.held bytes is did in
    subst (λ (x : Run). AnswersRun x status.Done) (one_run bytes found.0 budget found.1 run found.2 replays) (finished found.1 status.Done found.3.0 refl)
answers (Budget steps) before after bytes budget run is replays quiet did =
    let found = told (λ bytes. (budget : ℕ) × (run : Run) × Replays bytes budget run × ((run.end ≡ end.Budget) × (steps ≡ budget) × TookTrace run before after)) before.held bytes is did in
    subst (λ (x : Run). AnswersRun x status.Budget) (one_run bytes found.0 budget found.1 run found.2 replays) (spent found.1 status.Budget found.3.0 refl)
answers (Diverged entry wanted found) before after bytes budget run is replays quiet did =
    let there = told (λ bytes. (budget : ℕ) × (run : Run) × Replays bytes budget run × ((run.end ≡ end.Diverged wanted found) × (entry ≡ 1 + length run.inputs) × TookTrace run before after)) before.held bytes is did in
    subst (λ (x : Run). AnswersRun x status.Diverged) (one_run bytes there.0 budget there.1 run there.2 replays)
    (diverged there.1 status.Diverged (end.Diverged wanted found) there.3.0 (λ e. cc) (λ e. cc) (λ e. cc))
answers (Refused why) before after bytes budget run is replays quiet did =
    starved run _ (starved_alone why before.held before.disk after.disk bytes _ _ is replays.whole quiet.disk did.1)
answers Headless before after bytes budget run is replays quiet did =
    let empty = told IsHeadless before.held bytes is did.1 in
    let e : Whole [] empty.0 ≡ Whole (Head replays.base budget replays.page ∷ replays.items) replays.place = one_found bytes _ _ empty.1 replays.whole in absurd (cc)
answers OtherPage before after bytes budget run is replays quiet did = absurd (not_other bytes budget run replays (told HasOtherPage before.held bytes is did.1))
answers WriteFault before after bytes budget run is replays quiet did = absurd (quiet.out did.0)
answers NoMemory before after bytes budget run is replays quiet did = starved run status.NoMemory refl

pub replay_completes : (words : List (List ℕ)) (r : Outcome) (before after : Outside) → WordsDid words r before after → ReplayCompletes words (status_of r) before.shows after.shows
replay_completes words r before after did = record {
  completes = λ session bytes budget run spelled is replays quiet.
      let own = did.spelled (command.Replay session) spelled in
      subst (λ (x : Outcome). AnswersRun run (status_of x)) (sym own.1) (answers own.0 before.shows after.shows bytes budget run is replays quiet own.2.replayed);
}
