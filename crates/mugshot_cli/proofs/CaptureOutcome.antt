-- From the recording of a run to what `capture` did.
use Rattle.std.proofs.Common.{◌≡◌, ℕ, ◌<◌, inl, inr, List, [], ◌∷◌, ◌++◌, Option, Some, None, IfSome, Ok, Err, refl, sym, ◌∙◌, ap, subst, arith, length}
use Rattle.mug_text.proofs.Texts.{bytes_back, units_fit, well_formed}
use Rattle.std.proofs.lemmas.List.{append-nil}
use Rattle.mug_outside.specs.Told.{ahead}
use Rattle.arrival_file.specs.Format.{Answers, arrivals_of}
use Rattle.arrival_file.specs.Ranges.{InRanges}
use Rattle.arrival_file.specs.declared.arrival.ArrivalFault.{ArrivalFault}
use Rattle.arrival_file.specs.declared.arrival.ArrivalFault.TheVariants as arrival_fault
use Rattle.arrival_file.specs.declared.arrival.Arrivals.{Arrivals as Given}
use Rattle.input_log.specs.Items.{IsBaseText}
use Rattle.input_log.specs.declared.item.LogItem.{LogItem}
use Rattle.input_log.specs.declared.item.LogItem.TheVariants.{Head}
use Rattle.capture_engine.specs.Frames.{AreFramesOf}
use Rattle.capture_engine.specs.Outside.{Shown}
use Rattle.capture_engine.specs.Recording.{Unchanged}
use Rattle.capture_engine.specs.declared.recorder.CaptureFault.{CaptureFault}
use Rattle.capture_engine.proofs.Recordings.{some_frames}
use Rattle.mugshot_cli.specs.Capturing.{FileRefused, HaltDid, HasThinPage, IsBytes, IsThinPage}
use Rattle.mugshot_cli.specs.Outside.{Still, Supply}
use Rattle.mugshot_cli.specs.ThinPage.Run.{Run, plain}
use Rattle.mugshot_cli.specs.inner.Material.{CapturesFrom, IsMaterial, MaterialRefused}
use Rattle.mugshot_cli.specs.inner.Recording.{RecordsRun}
use Rattle.mugshot_cli.specs.inner.Refusals.{file_of_fault}
use Rattle.mugshot_cli.specs.declared.capturing.CaptureOutcome.{CaptureOutcome}
use Rattle.mugshot_cli.specs.declared.capturing.CaptureOutcome.TheVariants.{NotEmpty, DiskFault, NoMemory, Page, Arrivals, Ran}
use Rattle.mugshot_cli.specs.declared.capturing.Material.{Material}
use Rattle.mugshot_cli.specs.declared.thin_page.reading.Statement.{Statement}
use Rattle.mugshot_cli.specs.declared.thin_page.recording.RunOutcome.{RunOutcome}
use Rattle.mugshot_cli.specs.declared.thin_page.recording.RunOutcome.TheVariants.{Halted}

-- what is told of the bytes that were read
pub told_of : (P : List ℕ → Type 0) (o : Option (List ℕ)) (bytes : List ℕ) → IfSome o (λ b. b ≡ bytes) → P bytes → IfSome o P
told_of P None bytes is holds = tt
told_of P (Some b) bytes is holds = subst P (sym is) holds

-- nothing was shown since a start
pub still_of : (start now after : Shown) → Unchanged start now → after ≡ now → Still start after
still_of start now after same is = record {
  held = ap (λ (s : Shown). s.held) is ∙ same.held;
  moment = ap (λ (s : Shown). s.moment) is ∙ same.moment;
  taken = ap (λ (s : Shown). s.taken) is ∙ same.taken;
}

-- ---- the sources

-- all bytes were read
pub whole_read : (before after : Option (List ℕ)) (bytes : List ℕ) → before ≡ ahead bytes after → IfSome after (λ b. b ≡ []) → IfSome before (λ b. b ≡ bytes)
whole_read None after bytes is none = tt
whole_read (Some b) None bytes is none = absurd (cc)
whole_read (Some b) (Some rest) bytes is none = let e : b ≡ bytes ++ rest = cc in e ∙ ap (λ (l : List ℕ). bytes ++ l) none ∙ append-nil bytes

-- what was read is no arrival file
pub file_refused : (fault : ArrivalFault) (before after : Supply) (bytes : List ℕ) → IsBytes before bytes → Answers (Err fault) bytes → FileRefused (file_of_fault fault) before after
file_refused (arrival_fault.Line line kind) before after bytes is (inl said) = told_of (λ b. arrivals_of b ≡ Err (arrival_fault.Line line kind)) before.left bytes is said
file_refused (arrival_fault.Line line kind) before after bytes is (inr starved) = absurd (cc)
file_refused (arrival_fault.NotBuilt line) before after bytes is (inl said) = told_of (λ b. (line : ℕ) × (arrivals_of b ≡ Err (arrival_fault.NotBuilt line))) before.left bytes is (line, said)
file_refused (arrival_fault.NotBuilt line) before after bytes is (inr starved) = absurd (cc)
file_refused arrival_fault.NoMemory before after bytes is said = tt

-- ---- the material

pub thin_told : (page : Supply) (bytes : List ℕ) (statements : List Statement) → IsBytes page bytes → IsThinPage bytes statements → HasThinPage page
thin_told page bytes statements is thin = told_of (λ b. (statements : List Statement) × IsThinPage b statements) page.left bytes is (statements, thin)

-- ---- the recording

-- it was stopped, whatever frames the run has
pub run_stopped : (head : LogItem) (budget : ℕ) (run : Run) (now now' : Shown) (fault : CaptureFault)
    → ((start : Shown) (frames : List (List LogItem)) → Unchanged start now → AreFramesOf head run.inputs frames → HaltDid fault run frames start now')
    → RecordsRun (Halted fault) head budget run now now'
run_stopped head budget run now now' fault stops = record {
  recorded = λ start same. let frames = some_frames head run.inputs in (frames.0, frames.1, stops start frames.0 same frames.1);
}

-- the run is this one
pub run_is : (outcome : RunOutcome) (head : LogItem) (budget : ℕ) (run run' : Run) (now now' : Shown) → run ≡ run' → RecordsRun outcome head budget run now now' → RecordsRun outcome head budget run' now now'
run_is outcome head budget run run' now now' is records = subst (λ (r : Run). RecordsRun outcome head budget r now now') is records

-- ---- what `capture` did

module _ (m : Material) (budget : ℕ) (page page' arrivals arrivals' : Supply) (is : IsMaterial m page arrivals) (now now' : Shown) where
  pub ran : (outcome : RunOutcome) → RecordsRun outcome (Head m.given.base budget m.page.bytes) budget (plain budget m.page.statements m.given.turns) now now' → CapturesFrom (Ok outcome) budget page page' arrivals arrivals' now now'
  ran outcome records = record {
    did = λ start err err' same empty.
        let recorded = records.recorded start same in
        record {
          empty = empty;
          bytes = m.page.bytes;
          statements = m.page.statements;
          given = m.given;
          frames = recorded.0;
          page_is = is.page_is;
          page = is.thin;
          arrivals_are = is.arrivals_are;
          frames_are = recorded.1;
          did = recorded.2;
        };
  }

-- there was no memory before the session was written
pub starved : (budget : ℕ) (page page' arrivals arrivals' : Supply) (now now' : Shown) → now' ≡ now → CapturesFrom (Err NoMemory) budget page page' arrivals arrivals' now now'
starved budget page page' arrivals arrivals' now now' is = record { did = λ start err err' same empty. still_of start now now' same is }

-- there is no material
pub not_captured : (outcome : CaptureOutcome) (budget : ℕ) (page page' arrivals arrivals' : Supply) (now : Shown) → MaterialRefused outcome page page' arrivals arrivals' → CapturesFrom (Err outcome) budget page page' arrivals arrivals' now now
not_captured NotEmpty budget page page' arrivals arrivals' now refused = absurd refused
not_captured DiskFault budget page page' arrivals arrivals' now refused = absurd refused
not_captured NoMemory budget page page' arrivals arrivals' now refused = absurd refused
not_captured (Page why) budget page page' arrivals arrivals' now refused =
    record { did = λ start err err' same empty. (record { still = still_of start now now same refl; empty = empty }, refused) }
not_captured (Arrivals why) budget page page' arrivals arrivals' now refused =
    record { did = λ start err err' same empty. (record { still = still_of start now now same refl; empty = empty }, refused.0, refused.1) }
not_captured (Ran outcome) budget page page' arrivals arrivals' now refused = absurd refused

-- the disk is empty
pub empty_told : (o o' : Option (List ℕ)) (n : ℕ) → o' ≡ o → IfSome o (λ h. n ≡ length h) → n ≡ 0 → IfSome o' (λ h. h ≡ [])
empty_told None None n same told none = tt
empty_told None (Some h) n same told none = absurd (cc)
empty_told (Some h) None n same told none = tt
empty_told (Some h) (Some k) n same told none = let e : k ≡ h = cc in none_of k (omega (arith, ap length e, told))
  where
    none_of : (l : List ℕ) → length l ≡ 0 → l ≡ []
    none_of [] e = refl
    none_of (x ∷ l) e = absurd (omega arith)

-- it is not
pub some_told : (o : Option (List ℕ)) (n : ℕ) → IfSome o (λ h. n ≡ length h) → (n ≡ 0 → ⊥) → IfSome o (λ h. 0 < length h)
some_told None n told some = tt
some_told (Some h) n told some = grind (arith, told, some)

-- a base that an arrival file has is one that a head can have
pub base_of : (given : Given) → InRanges given → IsBaseText given.base
base_of given ranges = record {
  units = units_fit ranges.base.text;
  well_formed = well_formed ranges.base.text;
  sized = omega (arith, ap length (bytes_back ranges.base.text), ranges.base.short);
}
