-- What `replay` prints, and why it answers as it does.
use Rattle.std.specs.Prelude.{◌≡◌, ◌⊎◌, ℕ, ◌+◌, List, [], ◌∷◌, length, IfSome}
use Rattle.mug_outside.specs.Told.{behind, TookLess, TookPart}
use Rattle.mug_outside.specs.Cause.{Rose}
use Rattle.input_log.specs.Inputs.{inputs_of}
use Rattle.input_log.specs.declared.item.LogItem.{LogItem}
use Rattle.input_log.specs.declared.item.LogItem.TheVariants.{Head}
use Rattle.session_store.specs.Recovery.{Whole, Recovers}
use Rattle.capture_engine.specs.Outside.{Shown}
use Rattle.mugshot_cli.specs.Outside.{IsUnwritten}
use Rattle.mugshot_cli.specs.Sessions.{IsRefused}
use Rattle.mugshot_cli.specs.ThinPage.Reading.{IsThin}
use Rattle.mugshot_cli.specs.ThinPage.Run.{Run, from_inputs}
use Rattle.mugshot_cli.specs.ThinPage.Tracing.{trace_text}
use Rattle.mugshot_cli.specs.declared.thin_page.reading.Statement.{Statement}
use Rattle.mugshot_cli.specs.declared.thin_page.end.End.TheVariants as end
use Rattle.mugshot_cli.specs.declared.replaying.ReplayOutcome.{ReplayOutcome}
use Rattle.mugshot_cli.specs.declared.replaying.ReplayOutcome.TheVariants.{Done, Budget, Diverged}
use Rattle.mugshot_cli.specs.declared.replaying.ReplayOutcome.TheVariants.{Refused, Headless}
use Rattle.mugshot_cli.specs.declared.replaying.ReplayOutcome.TheVariants.{OtherPage, WriteFault}
use Rattle.mugshot_cli.specs.declared.replaying.ReplayOutcome.TheVariants.{NoMemory}

-- these bytes recover to a head with this budget and a thin page, and items, from whose inputs the
-- page's run is this
pub record Replays (bytes : List ℕ) (budget : ℕ) (run : Run) : Type 0 where
  pub base : List ℕ
  pub page : List ℕ
  pub items : List LogItem
  pub place : ℕ
  pub statements : List Statement
  pub whole : Recovers bytes (Whole (Head base budget page ∷ items) place)
  pub thin : IsThin page statements
  pub is : run ≡ from_inputs budget statements (inputs_of items)

-- these bytes recover to a head with a page that isn't thin
pub record HasOtherPage (bytes : List ℕ) : Type 0 where
  pub base : List ℕ
  pub budget : ℕ
  pub page : List ℕ
  pub items : List LogItem
  pub place : ℕ
  pub whole : Recovers bytes (Whole (Head base budget page ∷ items) place)
  pub other : (statements : List Statement) → IsThin page statements → ⊥

-- these bytes recover to no item
abbrev pub IsHeadless : List ℕ → Type 0
IsHeadless bytes = (place : ℕ) × Recovers bytes (Whole [] place)

-- where the disk tells its bytes, this holds of their budget and run
abbrev pub HasRun : Shown → (ℕ → Run → Type 0) → Type 0
HasRun before P =
    IfSome before.held
    (λ bytes. (budget : ℕ) × (run : Run) × Replays bytes budget run × P budget run)

-- the whole trace was taken
abbrev pub TookTrace : Run → Shown → Shown → Type 0
TookTrace run before after = after.taken ≡ behind (trace_text run) before.taken

-- by the outcome: what the bytes recover to, how the run ends, what the output took, and which
-- count rose
abbrev pub Replayed : ReplayOutcome → Shown → Shown → Type 0
Replayed Done before after =
    HasRun before
    (λ budget run. ((run.end ≡ end.Finished) ⊎ (run.end ≡ end.Cut)) × TookTrace run before after)
Replayed (Budget steps) before after =
    HasRun before
    (λ budget run. (run.end ≡ end.Budget) × (steps ≡ budget) × TookTrace run before after)
Replayed (Diverged entry wanted found) before after =
    HasRun before
    (λ budget run. (run.end ≡ end.Diverged wanted found) × (entry ≡ 1 + length run.inputs)
    × TookTrace run before after)
Replayed (Refused why) before after =
    (after.taken ≡ before.taken) × IsRefused why before.held before.disk after.disk
Replayed Headless before after = (after.taken ≡ before.taken) × IfSome before.held IsHeadless
Replayed OtherPage before after = (after.taken ≡ before.taken) × IfSome before.held HasOtherPage
Replayed WriteFault before after =
    Rose before.out after.out
    × HasRun before (λ budget run. TookLess (trace_text run) before.taken after.taken)
Replayed NoMemory before after =
    (after.taken ≡ before.taken)
    ⊎ HasRun before (λ budget run. TookPart (trace_text run) before.taken after.taken)

-- what `replay` did; it writes nothing to the disk
pub record ReplayDid (outcome : ReplayOutcome) (before after : Shown) : Type 0 where
  pub unwritten : IsUnwritten before after
  pub replayed : Replayed outcome before after
