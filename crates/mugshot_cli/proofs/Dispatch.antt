-- From the command that was read to the one that the words spell.
use Rattle.std.proofs.Common.{◌≡◌, ℕ, ◌≤◌, inl, inr, List, [], ◌∷◌, codes, refl, sym, ◌∙◌, subst, arith}
use Rattle.input_log.specs.declared.item.TheConstants.{STEPS_LIMIT}
use Rattle.mugshot_cli.specs.Capturing.{CaptureDid}
use Rattle.mugshot_cli.specs.Command.{AreFiles, AreSteps, Spells}
use Rattle.mugshot_cli.specs.inner.Commands.{Asks, action_of}
use Rattle.mugshot_cli.specs.declared.command.Action.TheVariants as action
use Rattle.mugshot_cli.specs.Listing.{ListDid}
use Rattle.mugshot_cli.specs.Outcome.{of_capture, of_list, of_replay}
use Rattle.mugshot_cli.specs.Outside.{Outside, Still}
use Rattle.mugshot_cli.specs.Replaying.{ReplayDid}
use Rattle.mugshot_cli.specs.Top.{Did}
use Rattle.mugshot_cli.specs.declared.capturing.CaptureOutcome.{CaptureOutcome}
use Rattle.mugshot_cli.specs.declared.capturing.CaptureOutcome.TheVariants as capture
use Rattle.mugshot_cli.specs.declared.command.Command.{Command}
use Rattle.mugshot_cli.specs.declared.command.Command.TheVariants as command
use Rattle.mugshot_cli.specs.declared.listing.ListOutcome.{ListOutcome}
use Rattle.mugshot_cli.specs.declared.listing.ListOutcome.TheVariants as list
use Rattle.mugshot_cli.specs.declared.outcome.Outcome.{Outcome}
use Rattle.mugshot_cli.specs.declared.outcome.Outcome.TheVariants.{NoMemory}
use Rattle.mugshot_cli.specs.declared.replaying.ReplayOutcome.{ReplayOutcome}
use Rattle.mugshot_cli.specs.declared.replaying.ReplayOutcome.TheVariants as replay
use Rattle.mugshot_cli.specs.declared.session.SessionRefusal.TheVariants as refusal
use Rattle.mugshot_cli.proofs.Spelling.{same_files}

-- the words were read as a list
pub did_list : (words : List (List ℕ)) (session : List ℕ) (c : Command) (r : Outcome) (own : ListOutcome) (before after : Outside) → Spells words (command.List session) → Spells words c
    → r ≡ of_list own → ListDid own before.shows after.shows → Did c r before after
did_list words session (command.List other) r own before after read spells is did = (own, is, did)
did_list words session (command.Replay other) r own before after read spells is did =
    let e : codes "list" ∷ session ∷ [] ≡ codes "replay" ∷ other ∷ [] = sym read.0 ∙ spells.0 in absurd (cc)
did_list words session (command.Capture p a s n) r own before after read (files, same, are) is did =
    let e : codes "list" ∷ session ∷ [] ≡ codes "capture" ∷ files = sym read.0 ∙ same in absurd (cc)

-- as a replay
pub did_replay : (words : List (List ℕ)) (session : List ℕ) (c : Command) (r : Outcome) (own : ReplayOutcome) (before after : Outside) → Spells words (command.Replay session) → Spells words c
    → r ≡ of_replay own → ReplayDid own before.shows after.shows → Did c r before after
did_replay words session (command.List other) r own before after read spells is did =
    let e : codes "replay" ∷ session ∷ [] ≡ codes "list" ∷ other ∷ [] = sym read.0 ∙ spells.0 in absurd (cc)
did_replay words session (command.Replay other) r own before after read spells is did = (own, is, did)
did_replay words session (command.Capture p a s n) r own before after read (files, same, are) is did =
    let e : codes "replay" ∷ session ∷ [] ≡ codes "capture" ∷ files = sym read.0 ∙ same in absurd (cc)

-- as a capture with this budget
pub did_capture : (words : List (List ℕ)) (page arrivals session : List ℕ) (steps : ℕ) (c : Command) (r : Outcome) (own : CaptureOutcome) (before after : Outside)
    → Spells words (command.Capture page arrivals session steps) → Spells words c → r ≡ of_capture own → CaptureDid own steps before after → Did c r before after
did_capture words page arrivals session steps (command.List other) r own before after (files, same, are) spells is did =
    let e : codes "capture" ∷ files ≡ codes "list" ∷ other ∷ [] = sym same ∙ spells.0 in absurd (cc)
did_capture words page arrivals session steps (command.Replay other) r own before after (files, same, are) spells is did =
    let e : codes "capture" ∷ files ≡ codes "replay" ∷ other ∷ [] = sym same ∙ spells.0 in absurd (cc)
did_capture words page arrivals session steps (command.Capture p a s n) r own before after (files, same, are) (files', same', are') is did =
    let e : codes "capture" ∷ files ≡ codes "capture" ∷ files' = sym same ∙ same' in
    let one : files ≡ files' = cc in
    let budgets = same_files files' page p arrivals a session s steps n (subst (λ (w : List (List ℕ)). AreFiles w page arrivals session steps) one are) are' in
    (own, is, subst (λ (n : ℕ). CaptureDid own n before after) budgets did)

-- ---- from what the words ask for

pub list_asked : (words : List (List ℕ)) (c : Command) (r : Outcome) (own : ListOutcome) (before after : Outside) → Asks words action.List → Spells words c
    → r ≡ of_list own → ListDid own before.shows after.shows → Did c r before after
list_asked words c r own before after asks spells is did = by_command asks.command asks.is asks.spells
  where
    by_command : (read : Command) → action.List ≡ action_of read → Spells words read → Did c r before after
    by_command (command.List session) same there = did_list words session c r own before after there spells is did
    by_command (command.Replay session) same there = absurd (cc)
    by_command (command.Capture p a s n) same there = absurd (cc)

pub replay_asked : (words : List (List ℕ)) (c : Command) (r : Outcome) (own : ReplayOutcome) (before after : Outside) → Asks words action.Replay → Spells words c
    → r ≡ of_replay own → ReplayDid own before.shows after.shows → Did c r before after
replay_asked words c r own before after asks spells is did = by_command asks.command asks.is asks.spells
  where
    by_command : (read : Command) → action.Replay ≡ action_of read → Spells words read → Did c r before after
    by_command (command.List session) same there = absurd (cc)
    by_command (command.Replay session) same there = did_replay words session c r own before after there spells is did
    by_command (command.Capture p a s n) same there = absurd (cc)

pub capture_asked : (words : List (List ℕ)) (steps : ℕ) (c : Command) (r : Outcome) (own : CaptureOutcome) (before after : Outside) → Asks words (action.Capture steps) → Spells words c
    → r ≡ of_capture own → CaptureDid own steps before after → Did c r before after
capture_asked words steps c r own before after asks spells is did = by_command asks.command asks.is asks.spells
  where
    by_command : (read : Command) → action.Capture steps ≡ action_of read → Spells words read → Did c r before after
    by_command (command.List session) same there = absurd (cc)
    by_command (command.Replay session) same there = absurd (cc)
    by_command (command.Capture p a s n) same there =
        let e : steps ≡ n = cc in
        did_capture words p a s n c r own before after there spells is (subst (λ (k : ℕ). CaptureDid own k before after) e did)

-- a capture's budget is in its range
pub steps_range : (words : List (List ℕ)) (steps : ℕ) → Asks words (action.Capture steps) → (1 ≤ steps) × (steps ≤ STEPS_LIMIT)
steps_range words steps asks = by_command asks.command asks.is asks.spells
  where
    in_range : (option : List (List ℕ)) (n : ℕ) → AreSteps option n → (1 ≤ n) × (n ≤ STEPS_LIMIT)
    in_range option n (inl given) = let e = given.1 in (omega (arith, e), omega (arith, e))
    in_range option n (inr given) = (given.1, given.2)

    by_command : (read : Command) → action.Capture steps ≡ action_of read → Spells words read → (1 ≤ steps) × (steps ≤ STEPS_LIMIT)
    by_command (command.List session) same there = absurd (cc)
    by_command (command.Replay session) same there = absurd (cc)
    by_command (command.Capture p a s n) same (files, spelled, are) =
        let e : n ≡ steps = cc in subst (λ (k : ℕ). (1 ≤ k) × (k ≤ STEPS_LIMIT)) e (in_range are.option n are.steps_are)

-- there was no memory to read the words, and nothing was done
pub did_starve : (c : Command) (before after : Outside) → Still before.shows after.shows → Did c NoMemory before after
did_starve (command.List session) before after still =
    (list.Refused refusal.NoMemory, refl, record { unwritten = record { held = still.held; moment = still.moment }; listed = (still.taken, tt) })
did_starve (command.Replay session) before after still =
    (replay.Refused refusal.NoMemory, refl, record { unwritten = record { held = still.held; moment = still.moment }; replayed = (still.taken, tt) })
did_starve (command.Capture page arrivals session steps) before after still = (capture.NoMemory, refl, still)
