-- Where nothing fails, `list` of a session that reads is done, or finds no memory.
use Rattle.std.proofs.Common.{◌≡◌, inl, inr, ℕ, List, Option, Some, IfSome, refl, sym, subst}
use Rattle.mug_outside.specs.Cause.{Rose}
use Rattle.input_log.specs.declared.item.LogItem.{LogItem}
use Rattle.session_store.specs.Recovery.{Broken, NoHeader, Recovers, Whole}
use Rattle.session_store.proofs.Unique.{one_found}
use Rattle.capture_engine.specs.Outside.{Shown}
use Rattle.mugshot_cli.specs.Listing.{Listed}
use Rattle.mugshot_cli.specs.Outcome.{of_list, of_refusal, status_of}
use Rattle.mugshot_cli.specs.Outside.{Outside}
use Rattle.mugshot_cli.specs.Sessions.{HasLaterKind, IsRefused}
use Rattle.mugshot_cli.specs.Top.{IsOrStarved, IsQuiet, ListCompletes, WordsDid}
use Rattle.mugshot_cli.specs.declared.command.Command.TheVariants as command
use Rattle.mugshot_cli.specs.declared.listing.ListOutcome.{ListOutcome}
use Rattle.mugshot_cli.specs.declared.listing.ListOutcome.TheVariants.{Done, Refused, WriteFault, NoMemory}
use Rattle.mugshot_cli.specs.declared.outcome.Outcome.{Outcome}
use Rattle.mugshot_cli.specs.declared.outcome.Status.TheVariants as status
use Rattle.mugshot_cli.specs.declared.session.SessionRefusal.{SessionRefusal}
use Rattle.mugshot_cli.specs.declared.session.SessionRefusal.TheVariants as refusal

pub told : (P : List ℕ → Type 0) (o : Option (List ℕ)) (bytes : List ℕ) → o ≡ Some bytes → IfSome o P → P bytes
told P o bytes is holds = subst (λ (o : Option (List ℕ)). IfSome o P) is holds

-- a session that reads is refused for want of memory alone
pub starved_alone : (why : SessionRefusal) (held : Option (List ℕ)) (faults faults' : ℕ) (bytes : List ℕ) (items : List LogItem) (end : ℕ) → held ≡ Some bytes → Recovers bytes (Whole items end) → (Rose faults faults' → ⊥)
    → IsRefused why held faults faults' → status_of (of_refusal why) ≡ status.NoMemory
starved_alone refusal.NotASession held faults faults' bytes items end is whole still refused =
    let e : NoHeader ≡ Whole items end = one_found bytes NoHeader (Whole items end) (told (λ b. Recovers b NoHeader) held bytes is refused) whole in absurd (cc)
starved_alone (refusal.Damaged at) held faults faults' bytes items end is whole still refused =
    let found = told (λ b. (payload : List ℕ) × Recovers b (Broken at payload) × (HasLaterKind payload → ⊥)) held bytes is refused in
    let e : Broken at found.0 ≡ Whole items end = one_found bytes (Broken at found.0) (Whole items end) found.1 whole in absurd (cc)
starved_alone refusal.NotBuilt held faults faults' bytes items end is whole still refused =
    let found = told (λ b. (at : ℕ) × (payload : List ℕ) × Recovers b (Broken at payload) × HasLaterKind payload) held bytes is refused in
    let e : Broken found.0 found.1 ≡ Whole items end = one_found bytes (Broken found.0 found.1) (Whole items end) found.2 whole in absurd (cc)
starved_alone refusal.DiskFault held faults faults' bytes items end is whole still refused = absurd (still refused)
starved_alone refusal.NoMemory held faults faults' bytes items end is whole still refused = refl

done_or_starved : (own : ListOutcome) (before after : Shown) (bytes : List ℕ) (items : List LogItem) (end : ℕ) → before.held ≡ Some bytes → Recovers bytes (Whole items end) → IsQuiet before after → Listed own before after
    → IsOrStarved (status_of (of_list own)) status.Done
done_or_starved Done before after bytes items end is whole quiet listed = inl refl
done_or_starved NoMemory before after bytes items end is whole quiet listed = inr refl
done_or_starved WriteFault before after bytes items end is whole quiet listed = absurd (quiet.out listed.0)
done_or_starved (Refused why) before after bytes items end is whole quiet listed = inr (starved_alone why before.held before.disk after.disk bytes items end is whole quiet.disk listed.1)

pub list_completes : (words : List (List ℕ)) (r : Outcome) (before after : Outside) → WordsDid words r before after → ListCompletes words (status_of r) before.shows after.shows
list_completes words r before after did = record {
  completes = λ session bytes items end spelled is whole quiet.
      let own = did.spelled (command.List session) spelled in
      subst (λ (x : Outcome). IsOrStarved (status_of x) status.Done) (sym own.1) (done_or_starved own.0 before.shows after.shows bytes items end is whole quiet own.2.listed);
}
