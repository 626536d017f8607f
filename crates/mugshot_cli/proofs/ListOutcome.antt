-- What is found in a session, where the disk tells its bytes.
use Rattle.std.proofs.Common.{◌≡◌, ◌↔◌, ℕ, List, Option, Some, None, IfSome, IsTrue, true, false, refl, sym, subst}
use Rattle.input_log.specs.declared.item.LogItem.{LogItem}
use Rattle.session_store.specs.Recovery.{Broken, IsBroken, IsWhole, Recovers, Whole}
use Rattle.mugshot_cli.specs.Listing.{list_text}
use Rattle.mugshot_cli.specs.Sessions.{HasLaterKind}

-- a frame was judged by a second look at the disk, which holds the same
pub tell_damaged : (o o' : Option (List ℕ)) (at : ℕ) → o' ≡ o → IfSome o (λ h. (payload : List ℕ) × IsBroken h at payload)
    → IfSome o' (λ h. (p : List ℕ) → IsBroken h at p → IsTrue false ↔ HasLaterKind p) → IfSome o (λ h. (payload : List ℕ) × Recovers h (Broken at payload) × (HasLaterKind payload → ⊥))
tell_damaged None o' at same broken judged = tt
tell_damaged (Some h) None at same broken judged = absurd (cc)
tell_damaged (Some h) (Some k) at same broken judged =
    let e : k ≡ h = cc in
    let here : IsBroken k at broken.0 = subst (λ (l : List ℕ). IsBroken l at broken.0) (sym e) broken.1 in
    (broken.0, broken.1, λ later. absurd (cc ((judged broken.0 here).1 later)))

pub tell_unbuilt : (o o' : Option (List ℕ)) (at : ℕ) → o' ≡ o → IfSome o (λ h. (payload : List ℕ) × IsBroken h at payload)
    → IfSome o' (λ h. (p : List ℕ) → IsBroken h at p → IsTrue true ↔ HasLaterKind p) → IfSome o (λ h. (at : ℕ) × (payload : List ℕ) × Recovers h (Broken at payload) × HasLaterKind payload)
tell_unbuilt None o' at same broken judged = tt
tell_unbuilt (Some h) None at same broken judged = absurd (cc)
tell_unbuilt (Some h) (Some k) at same broken judged =
    let e : k ≡ h = cc in
    let here : IsBroken k at broken.0 = subst (λ (l : List ℕ). IsBroken l at broken.0) (sym e) broken.1 in
    (at, broken.0, broken.1, (judged broken.0 here).0 refl)

-- the items are told
pub tell_text : (P : List ℕ → Type 0) (o : Option (List ℕ)) (items : List LogItem) (end : ℕ) → IfSome o (λ h. IsWhole h items end) → P (list_text items)
    → IfSome o (λ bytes. (items : List LogItem) × (end : ℕ) × Recovers bytes (Whole items end) × P (list_text items))
tell_text P None items end whole holds = tt
tell_text P (Some h) items end whole holds = (items, end, whole, holds)
