-- What recovery learns from a disk that tells its bytes.
use Rattle.std.proofs.Common.{◌≡◌, ℕ, ◌+◌, ◌<◌, ◌≤◌, List, [], ◌∷◌, ◌++◌, length, take, drop, Option, Some, None, IfSome, refl, sym, ◌∙◌, ap, subst, arith}
use Rattle.std.proofs.lemmas.List.{take-append-drop}
use Rattle.input_log.specs.declared.item.LogItem.{LogItem}
use Rattle.log_frames.specs.Frames.{OpensFrame}
use Rattle.session_store.specs.Session.{HasHeader, IsLog, items_of, magic}
use Rattle.session_store.specs.inner.Steps.{Follows, SoFar}
use Rattle.session_store.proofs.Frames.{further}

pub tell_further : (o o' : Option (List ℕ)) (payload : List ℕ) (old new : List LogItem) (at at' : ℕ) → o' ≡ o → IfSome o (λ h. HasHeader h → SoFar h old at)
    → IfSome o' (λ h. OpensFrame (drop at h) payload (drop at' h)) → at' ≡ at + 5 + length payload
    → ((before : List (List LogItem)) → IsLog before → old ≡ items_of before → Follows before payload old new) → IfSome o (λ h. HasHeader h → SoFar h new at')
tell_further None o' payload old new at at' same so_far opens next follows = tt
tell_further (Some h) None payload old new at at' same so_far opens next follows = absurd (cc)
tell_further (Some h) (Some k) payload old new at at' same so_far opens next follows =
    let e : k ≡ h = cc in
    let here : OpensFrame (drop at h) payload (drop at' h) = subst (λ (l : List ℕ). OpensFrame (drop at l) payload (drop at' l)) e opens in
    λ header. let found = so_far header in further h payload old new at at' found here next (follows found.frames found.has.log found.items_are)

pub one_of : (xs : List ℕ) → 1 ≤ length xs → length xs < 2 → (x : ℕ) × (xs ≡ x ∷ [])
one_of [] least below = absurd (omega arith)
one_of (x ∷ []) least below = (x, refl)
one_of (x ∷ y ∷ xs) least below = absurd (omega arith)

-- nine bytes in front make a header
pub header_front : (h front : List ℕ) (n gate : ℕ) → take n front ≡ take 9 h → take n front ≡ magic ++ gate ∷ [] → HasHeader h
header_front h front n gate read is =
    record { gate = gate; rest = drop 9 h; is = sym (take-append-drop 9 h) ∙ ap (λ (l : List ℕ). l ++ drop 9 h) (sym read ∙ is) }
