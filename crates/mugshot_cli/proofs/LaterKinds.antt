-- Payloads that are no items, and frames found again.
use Rattle.std.proofs.Common.{◌≡◌, ◌↔◌, ℕ, ◌+◌, ◌-◌, ◌<◌, List, [], ◌∷◌, ◌++◌, length, drop, map, get_or, Option, Some, None, IfSome, IsTrue, Bool, true, sym, ◌∙◌, ap, subst, arith, append_assoc, length-append}
use Rattle.std.proofs.lemmas.List.{append-nil, drop_more, drop_at}
use Rattle.std.proofs.lemmas.List.Elements.{All-head, All-tail}
use Rattle.input_log.specs.Items.{IsItem, BeginsWithNone, encoding}
use Rattle.input_log.specs.declared.item.LogItem.{LogItem}
use Rattle.input_log.specs.declared.item.LogItem.TheVariants.{Head, Load, Now, Rand}
use Rattle.input_log.proofs.Laws.{same_item, same_sized}
use Rattle.log_frames.specs.Frames.{OpensFrame, OpensNone, frame, opened}
use Rattle.session_store.specs.Session.{AreItems, magic, payload_of}
use Rattle.session_store.specs.Recovery.{IsBroken}
use Rattle.mugshot_cli.specs.Sessions.{HasLaterKind, is_later_kind}

-- items and then bytes that begin with none are read in one way
pub same_reading : (xs ys : List LogItem) (r s : List ℕ) → AreItems xs → AreItems ys → BeginsWithNone r → BeginsWithNone s → payload_of xs ++ r ≡ payload_of ys ++ s → r ≡ s
same_reading [] [] r s vx vy none_r none_s same = same
same_reading [] (y ∷ ys) r s vx vy none_r none_s same =
    absurd (none_r y (payload_of ys ++ s) (All-head IsItem y ys vy) (same ∙ append_assoc (encoding y) (payload_of ys) s))
same_reading (x ∷ xs) [] r s vx vy none_r none_s same =
    absurd (none_s x (payload_of xs ++ r) (All-head IsItem x xs vx) (sym same ∙ append_assoc (encoding x) (payload_of xs) r))
same_reading (x ∷ xs) (y ∷ ys) r s vx vy none_r none_s same =
    let both = same_item x y (payload_of xs ++ r) (payload_of ys ++ s) (All-head IsItem x xs vx) (All-head IsItem y ys vy)
    (sym (append_assoc (encoding x) (payload_of xs) r) ∙ same ∙ append_assoc (encoding y) (payload_of ys) s) in
    same_reading xs ys r s (All-tail IsItem x xs vx) (All-tail IsItem y ys vy) none_r none_s both.1

-- no item begins with the byte of a later kind
later_begins_none : (byte : ℕ) (rest : List ℕ) → is_later_kind byte ≡ true → BeginsWithNone (byte ∷ rest)
later_begins_none byte rest later (Head base budget page) more valid same =
    let e : byte ≡ 0 = cc in let f : is_later_kind 0 ≡ true = ap is_later_kind (sym e) ∙ later in cc
later_begins_none byte rest later (Load t) more valid same =
    let e : byte ≡ 3 = cc in let f : is_later_kind 3 ≡ true = ap is_later_kind (sym e) ∙ later in cc
later_begins_none byte rest later (Now v) more valid same =
    let e : byte ≡ 9 = cc in let f : is_later_kind 9 ≡ true = ap is_later_kind (sym e) ∙ later in cc
later_begins_none byte rest later (Rand w) more valid same =
    let e : byte ≡ 10 = cc in let f : is_later_kind 10 ≡ true = ap is_later_kind (sym e) ∙ later in cc

-- no bytes begin with no item
pub nothing_begins : BeginsWithNone []
nothing_begins (Head base budget page) rest valid same = cc
nothing_begins (Load t) rest valid same = cc
nothing_begins (Now v) rest valid same = cc
nothing_begins (Rand w) rest valid same = cc

-- items alone have nothing of a later kind
pub all_read : (payload : List ℕ) (items : List LogItem) → AreItems items → payload ≡ payload_of items → HasLaterKind payload → ⊥
all_read payload items valid is has =
    let e : [] ≡ has.byte ∷ has.rest =
    same_reading items has.items [] (has.byte ∷ has.rest) valid has.valid nothing_begins (later_begins_none has.byte has.rest has.later) (append-nil (payload_of items) ∙ sym is ∙ has.is) in
    cc

-- the byte at which reading stops decides
pub stops_here : (payload : List ℕ) (items : List LogItem) (at : ℕ) → AreItems items → payload ≡ payload_of items ++ drop at payload → at < length payload
    → BeginsWithNone (drop at payload) → IsTrue (is_later_kind (get_or payload at 0)) ↔ HasLaterKind payload
stops_here payload items at valid is within none =
    let byte = get_or payload at 0 in
    let rest : drop at payload ≡ byte ∷ drop (at + 1) payload = drop_more payload at 0 within in (
      (λ later. record { items = items; byte = byte; rest = drop (at + 1) payload; valid = valid; later = later; is = is ∙ ap (λ (l : List ℕ). payload_of items ++ l) rest }),
      (λ has.
          let e : drop at payload ≡ has.byte ∷ has.rest = same_reading items has.items (drop at payload) (has.byte ∷ has.rest) valid has.valid none (later_begins_none has.byte has.rest has.later) (sym is ∙ has.is) in
          let same : byte ≡ has.byte = let f : byte ∷ drop (at + 1) payload ≡ has.byte ∷ has.rest = sym rest ∙ e in cc in
          subst (λ b. IsTrue (is_later_kind b)) (sym same) has.later),
    )

-- a gate has one frame behind it
pub same_frame : (bytes p q r s : List ℕ) → OpensFrame bytes p r → OpensFrame bytes q s → p ≡ q
same_frame bytes p q r s one other =
    let e : 1 ∷ (frame p ++ r) ≡ 1 ∷ (frame q ++ s) = sym one.is ∙ other.is in
    let behind : frame p ++ r ≡ frame q ++ s = cc in
    (same_sized p q r s one.sized other.sized behind).0

-- the frame that doesn't read stands where it was found
found_again : (bytes : List ℕ) (at : ℕ) (payload : List ℕ) → (broken : IsBroken bytes at payload) → drop (at - 1) bytes ≡ broken.rest
found_again bytes at payload broken =
    let front = magic ++ opened (map payload_of broken.frames) in
    let size : length front ≡ at - 1 = let place = broken.place in omega (arith, length-append magic (opened (map payload_of broken.frames))) in
    ap (drop (at - 1)) (broken.has.is ∙ sym (append_assoc magic (opened (map payload_of broken.frames)) broken.rest)) ∙ drop_at front broken.rest (at - 1) size

pub tell_judged : (o o' : Option (List ℕ)) (at start next : ℕ) (payload : List ℕ) (unbuilt : Bool) → start ≡ at - 1 → o' ≡ o → IfSome o' (λ h. OpensFrame (drop start h) payload (drop next h))
    → IsTrue unbuilt ↔ HasLaterKind payload → IfSome o (λ h. (p : List ℕ) → IsBroken h at p → IsTrue unbuilt ↔ HasLaterKind p)
tell_judged None o' at start next payload unbuilt begins same opens judged = tt
tell_judged (Some h) None at start next payload unbuilt begins same opens judged = absurd (cc)
tell_judged (Some h) (Some k) at start next payload unbuilt begins same opens judged = λ p broken.
    let e : k ≡ h = cc in
    let here : drop start k ≡ broken.rest = (λ i. drop (begins i) (e i)) ∙ found_again h at p broken in
    let again : p ≡ payload = same_frame broken.rest p payload broken.after (drop next k) broken.opens (subst (λ (l : List ℕ). OpensFrame l payload (drop next k)) here opens) in
    subst (λ (l : List ℕ). IsTrue unbuilt ↔ HasLaterKind l) (sym again) judged

pub tell_lost : (o o' : Option (List ℕ)) (at start : ℕ) (unbuilt : Bool) → start ≡ at - 1 → o' ≡ o → IfSome o' (λ h. OpensNone (drop start h))
    → IfSome o (λ h. (p : List ℕ) → IsBroken h at p → IsTrue unbuilt ↔ HasLaterKind p)
tell_lost None o' at start unbuilt begins same none = tt
tell_lost (Some h) None at start unbuilt begins same none = absurd (cc)
tell_lost (Some h) (Some k) at start unbuilt begins same none = λ p broken.
    let e : k ≡ h = cc in
    let here : drop start k ≡ broken.rest = (λ i. drop (begins i) (e i)) ∙ found_again h at p broken in
    absurd (none p broken.after (subst (λ (l : List ℕ). OpensFrame l p broken.after) (sym here) broken.opens))
