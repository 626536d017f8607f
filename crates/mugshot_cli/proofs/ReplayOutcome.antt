-- What `replay` did, where the disk tells its bytes.
use Rattle.std.proofs.Common.{◌≡◌, ◌⊎◌, inl, inr, ℕ, ◌+◌, List, [], ◌∷◌, length, Option, Some, None, IfSome, refl, ap, subst}
use Rattle.mug_outside.specs.Told.{behind}
use Rattle.input_log.specs.Inputs.{inputs_of}
use Rattle.input_log.specs.declared.item.LogItem.{LogItem}
use Rattle.input_log.specs.declared.item.LogItem.TheVariants.{Head, Load, Now, Rand}
use Rattle.session_store.specs.Session.{KeepsRules}
use Rattle.session_store.specs.Recovery.{IsWhole, Recovers, Whole}
use Rattle.capture_engine.specs.Outside.{Shown}
use Rattle.mugshot_cli.specs.Replaying.{HasOtherPage, IsHeadless, Replayed, Replays, TookTrace}
use Rattle.mugshot_cli.specs.inner.Commands.{outcome_at}
use Rattle.mugshot_cli.specs.inner.Commands.{BeginsWithHead}
use Rattle.mugshot_cli.specs.ThinPage.Reading.{IsThin}
use Rattle.mugshot_cli.specs.ThinPage.Run.{Run, from_inputs}
use Rattle.mugshot_cli.specs.ThinPage.Tracing.{trace_text}
use Rattle.mugshot_cli.specs.declared.thin_page.reading.Statement.{Statement}
use Rattle.mugshot_cli.specs.declared.thin_page.end.End.{End}
use Rattle.mugshot_cli.specs.declared.thin_page.end.End.TheVariants as end

-- the bytes recover to a head of this page and budget, and these items
abbrev pub HasHead : List ℕ → ℕ → List LogItem → List ℕ → Type 0
HasHead page budget items bytes = (base : List ℕ) × (place : ℕ) × Recovers bytes (Whole (Head base budget page ∷ items) place)

pub tell_head : (o : Option (List ℕ)) (items : List LogItem) (place : ℕ) (page : List ℕ) (budget : ℕ) (later : List LogItem) → IfSome o (λ h. IsWhole h items place) → BeginsWithHead items page budget later
    → IfSome o (λ bytes. (base : List ℕ) × (place : ℕ) × Recovers bytes (Whole (Head base budget page ∷ later) place))
tell_head None items place page budget later whole begins = tt
tell_head (Some h) items place page budget later whole begins = (begins.base, place, subst (λ (l : List LogItem). IsWhole h l place) begins.is whole)

pub tell_none : (o : Option (List ℕ)) (items : List LogItem) (place : ℕ) → IfSome o (λ h. IsWhole h items place) → items ≡ [] → IfSome o IsHeadless
tell_none None items place whole none = tt
tell_none (Some h) items place whole none = (place, subst (λ (l : List LogItem). IsWhole h l place) none whole)

pub tell_other : (o : Option (List ℕ)) (page : List ℕ) (budget : ℕ) (items : List LogItem) → IfSome o (HasHead page budget items) → ((statements : List Statement) → IsThin page statements → ⊥) → IfSome o HasOtherPage
tell_other None page budget items told other = tt
tell_other (Some h) page budget items (base, place, whole) other = record { base = base; budget = budget; page = page; items = items; place = place; whole = whole; other = other }

pub tell_run : (P : ℕ → Run → Type 0) (o : Option (List ℕ)) (page : List ℕ) (budget : ℕ) (items : List LogItem) (statements : List Statement) → IfSome o (HasHead page budget items) → IsThin page statements
    → P budget (from_inputs budget statements (inputs_of items)) → IfSome o (λ bytes. (budget : ℕ) × (run : Run) × Replays bytes budget run × P budget run)
tell_run P None page budget items statements told thin holds = tt
tell_run P (Some h) page budget items statements (base, place, whole) thin holds = (
  budget,
  from_inputs budget statements (inputs_of items),
  record { base = base; page = page; items = items; place = place; statements = statements; whole = whole; thin = thin; is = refl },
  holds,
)

-- a run that was printed to its end
pub tell_end : (ended : End) (before after : Shown) (page : List ℕ) (budget : ℕ) (items : List LogItem) (statements : List Statement) (consumed : ℕ) → IfSome before.held (HasHead page budget items) → IsThin page statements
    → (from_inputs budget statements (inputs_of items)).end ≡ ended → consumed ≡ length (from_inputs budget statements (inputs_of items)).inputs → after.taken ≡ behind (trace_text (from_inputs budget statements (inputs_of items))) before.taken
    → Replayed (outcome_at ended budget consumed) before after
tell_end end.Finished before after page budget items statements consumed told thin ends count took =
    tell_run (λ budget run. ((run.end ≡ end.Finished) ⊎ (run.end ≡ end.Cut)) × TookTrace run before after) before.held page budget items statements told thin (inl ends, took)
tell_end end.Cut before after page budget items statements consumed told thin ends count took =
    tell_run (λ budget run. ((run.end ≡ end.Finished) ⊎ (run.end ≡ end.Cut)) × TookTrace run before after) before.held page budget items statements told thin (inr ends, took)
tell_end end.Budget before after page budget items statements consumed told thin ends count took =
    tell_run (λ b run. (run.end ≡ end.Budget) × (budget ≡ b) × TookTrace run before after) before.held page budget items statements told thin (ends, refl, took)
tell_end (end.Diverged wanted found) before after page budget items statements consumed told thin ends count took =
    tell_run (λ b run. (run.end ≡ end.Diverged wanted found) × (1 + consumed ≡ 1 + length run.inputs) × TookTrace run before after) before.held page budget items statements told thin
    (ends, ap (λ (n : ℕ). 1 + n) count, took)

-- ---- the head of a session

headed_by : (first : LogItem) (later : List LogItem) (items : List LogItem) → items ≡ first ∷ later → KeepsRules (first ∷ later) → (base : List ℕ) × (budget : ℕ) × (page : List ℕ) × (items ≡ Head base budget page ∷ later)
headed_by (Head base budget page) later items is rules = (base, budget, page, is)
headed_by (Load t) later items is rules = let e = rules.1 in absurd (cc)
headed_by (Now v) later items is rules = let e = rules.1 in absurd (cc)
headed_by (Rand w) later items is rules = let e = rules.1 in absurd (cc)

-- items that keep the rules are none, or begin with a head
pub none_or_headed : (items : List LogItem) → KeepsRules items → (items ≡ []) ⊎ ((base : List ℕ) × (budget : ℕ) × (page : List ℕ) × (later : List LogItem) × (items ≡ Head base budget page ∷ later))
none_or_headed [] rules = inl refl
none_or_headed (first ∷ later) rules = let head = headed_by first later (first ∷ later) refl rules in inr (head.0, head.1, head.2, later, head.3)
