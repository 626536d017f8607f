-- What the two writes of a commit do to a session.
use Rattle.std.proofs.Common.{◌≡◌, ◌≢◌, ◌⊎◌, inl, inr, ℕ, zero, suc, ◌+◌, ◌-◌, ◌<◌, ◌≤◌, List, [], ◌∷◌, ◌++◌, length, take, drop, get_or, map, Some, None, Option, option_map, IfSome, refl, sym, ◌∙◌, ap, subst, arith, append_assoc, length-append, length-drop, Result, Ok, Err, OnErr}
use Rattle.std.proofs.Math.Seq.{drop-append-add}
use Rattle.std.proofs.lemmas.List.{take_at, drop_at, drop_more, take-append-drop, length-take-le, map-append}
use Rattle.mug_disk.specs.Held.{Lifted, over}
use Rattle.input_log.specs.declared.item.LogItem.{LogItem}
use Rattle.log_frames.specs.Frames.{frame, opened}
use Rattle.session_store.specs.Session.{magic, payload_of}
use Rattle.session_store.specs.Recovery.{place_after}
use Rattle.session_store.specs.Keeping.{IsClosed, IsEither, session}
use Rattle.session_store.specs.inner.Writes.{Leaves, SameBut}
use Rattle.session_store.proofs.Frames.{opened-push}

pub over_at : (front back bytes : List ℕ) (at : ℕ) → length front ≡ at → over at bytes (front ++ back) ≡ front ++ (bytes ++ drop (length bytes) back)
over_at front back bytes at is =
    let end : drop (at + length bytes) (front ++ back) ≡ drop (length bytes) back = ap (λ n. drop (n + length bytes) (front ++ back)) (sym is) ∙ drop-append-add front back (length bytes) in
    λ i. take_at front back at is i ++ (bytes ++ end i)

length-over : (at : ℕ) (bytes old : List ℕ) → at ≤ length old → length (over at bytes old) ≡ at + (length bytes + (length old - (at + length bytes)))
length-over at bytes old within =
    omega (arith, length-append (take at old) (bytes ++ drop (at + length bytes) old), length-append bytes (drop (at + length bytes) old), length-take-le at old within, length-drop (at + length bytes) old)

-- a byte that is written over
one_over : (at b : ℕ) (old : List ℕ) → at + 1 ≤ length old → SameBut at old (over at (b ∷ []) old)
one_over at b old within =
    let front : length (take at old) ≡ at = length-take-le at old (omega arith) in
    let parts : over at (b ∷ []) old ≡ (take at old ++ b ∷ []) ++ drop (at + 1) old = sym (append_assoc (take at old) (b ∷ []) (drop (at + 1) old)) in
    record {
      before = take_at (take at old) (b ∷ drop (at + 1) old) at front;
      after = ap (drop (at + 1)) parts ∙ drop_at (take at old ++ b ∷ []) (drop (at + 1) old) (at + 1) (omega (arith, length-append (take at old) (b ∷ []), front));
      size = length-over at (b ∷ []) old (omega arith) ∙ (let e : at + (1 + (length old - (at + 1))) ≡ length old = omega arith in e);
    }

-- the last sync failed: the gate is written
pub gate_written : (o o1 o2 : Option (List ℕ)) (place : ℕ) (bytes : List ℕ) → 1 ≤ place → IfSome o (λ h. place ≤ length h) → o1 ≡ option_map (over place bytes) o → o2 ≡ option_map (over (place - 1) (1 ∷ [])) o1
    → Lifted (Leaves place bytes) o o2
gate_written None None None place bytes behind inside first second = tt
gate_written None None (Some c) place bytes behind inside first second = absurd (cc)
gate_written None (Some b) o2 place bytes behind inside first second = absurd (cc)
gate_written (Some h) None o2 place bytes behind inside first second = absurd (cc)
gate_written (Some h) (Some b) None place bytes behind inside first second = absurd (cc)
gate_written (Some h) (Some b) (Some c) place bytes behind inside first second =
    let b_is : b ≡ over place bytes h = cc in
    let c_is : c ≡ over (place - 1) (1 ∷ []) (over place bytes h) = let d : c ≡ over (place - 1) (1 ∷ []) b = cc in d ∙ ap (over (place - 1) (1 ∷ [])) b_is in
    inr (subst (λ (l : List ℕ). SameBut (place - 1) (over place bytes h) l) (sym c_is) (one_over (place - 1) 1 (over place bytes h) (omega (arith, length-over place bytes h inside))))

-- a session's bytes up to its last gate
abbrev pub before_gate : List (List LogItem) → List ℕ
before_gate frames = magic ++ opened (map payload_of frames)

length_before : (frames : List (List LogItem)) (place : ℕ) → place ≡ place_after frames → length (before_gate frames) + 1 ≡ place
length_before frames place is = omega (arith, length-append magic (opened (map payload_of frames)))

regroup : (frames : List (List LogItem)) (gate : ℕ) (rest : List ℕ) → session frames gate rest ≡ before_gate frames ++ gate ∷ rest
regroup frames gate rest = sym (append_assoc magic (opened (map payload_of frames)) (gate ∷ rest))

-- the frame behind the closed gate
pub staged : (frames : List (List LogItem)) (gate : ℕ) (rest payload : List ℕ) (place : ℕ) → place ≡ place_after frames
    → over place (frame payload ++ 0 ∷ []) (session frames gate rest) ≡ before_gate frames ++ gate ∷ (frame payload ++ 0 ∷ drop (5 + length payload) rest)
staged frames gate rest payload place is =
    let front = before_gate frames ++ gate ∷ [] in
    let long : length front ≡ place = omega (arith, length-append (before_gate frames) (gate ∷ []), length_before frames place is) in
    let size : length (frame payload ++ 0 ∷ []) ≡ 5 + length payload = omega (arith, length-append payload (0 ∷ [])) in
    ap (over place (frame payload ++ 0 ∷ [])) (regroup frames gate rest ∙ sym (append_assoc (before_gate frames) (gate ∷ []) rest))
    ∙ over_at front rest (frame payload ++ 0 ∷ []) place long
    ∙ ap (λ n. front ++ ((frame payload ++ 0 ∷ []) ++ drop n rest)) size
    ∙ append_assoc (before_gate frames) (gate ∷ []) ((frame payload ++ 0 ∷ []) ++ drop (5 + length payload) rest)
    ∙ ap (λ (l : List ℕ). before_gate frames ++ gate ∷ l) (append_assoc (frame payload) (0 ∷ []) (drop (5 + length payload) rest))

-- the frame behind its open gate
one_more_frame : (frames : List (List LogItem)) (items : List LogItem) (rest payload : List ℕ) → payload ≡ payload_of items
    → before_gate frames ++ 1 ∷ (frame payload ++ 0 ∷ rest) ≡ session (frames ++ items ∷ []) 0 rest
one_more_frame frames items rest payload is =
    append_assoc magic (opened (map payload_of frames)) (1 ∷ (frame payload ++ 0 ∷ rest))
    ∙ ap (λ (l : List ℕ). magic ++ l)
    (sym (opened-push (map payload_of frames) payload (0 ∷ rest))
    ∙ ap (λ (l : List (List ℕ)). opened l ++ 0 ∷ rest) (ap (λ (p : List ℕ). map payload_of frames ++ p ∷ []) is ∙ sym (map-append payload_of frames (items ∷ []))))

pub committed : (frames : List (List LogItem)) (items : List LogItem) (gate : ℕ) (rest payload bytes : List ℕ) (place : ℕ) (o o' : Option (List ℕ)) → place ≡ place_after frames → payload ≡ payload_of items
    → bytes ≡ frame payload ++ 0 ∷ [] → o ≡ Some (session frames gate rest) → o' ≡ option_map (λ h. over (place - 1) (1 ∷ []) (over place bytes h)) o
    → o' ≡ Some (session (frames ++ items ∷ []) 0 (drop (5 + length payload) rest))
committed frames items gate rest payload bytes place o o' is payload_is frame_is old new =
    let written : over place bytes (session frames gate rest) ≡ before_gate frames ++ gate ∷ (frame payload ++ 0 ∷ drop (5 + length payload) rest) =
    ap (λ (b : List ℕ). over place b (session frames gate rest)) frame_is ∙ staged frames gate rest payload place is in
    let size : length (before_gate frames) ≡ place - 1 = omega (arith, length_before frames place is) in
    new ∙ ap (option_map (λ h. over (place - 1) (1 ∷ []) (over place bytes h))) old
    ∙ ap Some (ap (over (place - 1) (1 ∷ [])) written
    ∙ over_at (before_gate frames) (gate ∷ (frame payload ++ 0 ∷ drop (5 + length payload) rest)) (1 ∷ []) (place - 1) size
    ∙ one_more_frame frames items (drop (5 + length payload) rest) payload payload_is)

-- a number is 1, or it isn't
one_or_not : (n : ℕ) → (n ≡ 1) ⊎ (n ≢ 1)
one_or_not zero = inr (λ e. cc)
one_or_not (suc zero) = inl refl
one_or_not (suc (suc n)) = inr (λ e. absurd (omega arith))

-- a front that is a session's up to its gate makes a session
kept_front : (frames : List (List LogItem)) (gate : ℕ) (rest : List ℕ) (place : ℕ) (h : List ℕ) → gate ≢ 1 → place ≡ place_after frames → take place h ≡ take place (session frames gate rest) → IsClosed frames h
kept_front frames gate rest place h shut is same =
    let front = before_gate frames ++ gate ∷ [] in
    let long : length front ≡ place = omega (arith, length-append (before_gate frames) (gate ∷ []), length_before frames place is) in
    let here : take place (session frames gate rest) ≡ front =
    ap (take place) (regroup frames gate rest ∙ sym (append_assoc (before_gate frames) (gate ∷ []) rest)) ∙ take_at front rest place long in (
      gate,
      drop place h,
      shut,
      sym (take-append-drop place h) ∙ ap (λ (l : List ℕ). l ++ drop place h) (same ∙ here) ∙ append_assoc (before_gate frames) (gate ∷ []) (drop place h) ∙ sym (regroup frames gate (drop place h)),
    )

-- any byte as the gate in front of a frame that is written
any_gate : (frames : List (List LogItem)) (items : List LogItem) (gate : ℕ) (rest payload : List ℕ) (place : ℕ) (h : List ℕ) → place ≡ place_after frames → payload ≡ payload_of items
    → SameBut (place - 1) (before_gate frames ++ gate ∷ (frame payload ++ 0 ∷ rest)) h → IsEither frames items h
any_gate frames items gate rest payload place h is payload_is same =
    let whole = before_gate frames ++ gate ∷ (frame payload ++ 0 ∷ rest) in
    let at = place - 1 in
    let size : length (before_gate frames) ≡ at = omega (arith, length_before frames place is) in
    let front : take at h ≡ before_gate frames = same.before ∙ take_at (before_gate frames) (gate ∷ (frame payload ++ 0 ∷ rest)) at size in
    let back : drop (at + 1) h ≡ frame payload ++ 0 ∷ rest =
    same.after ∙ ap (drop (at + 1)) (sym (append_assoc (before_gate frames) (gate ∷ []) (frame payload ++ 0 ∷ rest)))
    ∙ drop_at (before_gate frames ++ gate ∷ []) (frame payload ++ 0 ∷ rest) (at + 1) (omega (arith, length-append (before_gate frames) (gate ∷ []), size)) in
    let long : at < length h = omega (arith, same.size, length-append (before_gate frames) (gate ∷ (frame payload ++ 0 ∷ rest)), size) in
    let byte = get_or h at 0 in
    let split : h ≡ before_gate frames ++ byte ∷ (frame payload ++ 0 ∷ rest) =
    sym (take-append-drop at h) ∙ (λ i. front i ++ (drop_more h at 0 long ∙ ap (λ (l : List ℕ). byte ∷ l) back) i) in
    elim (one_or_not byte) [
      | inl one ↦ inr (0, rest, zero_not_one, split ∙ ap (λ b. before_gate frames ++ b ∷ (frame payload ++ 0 ∷ rest)) one ∙ one_more_frame frames items rest payload payload_is)
      | inr other ↦ inl (byte, frame payload ++ 0 ∷ rest, other, split ∙ sym (regroup frames byte (frame payload ++ 0 ∷ rest)))
    ]
  where
    zero_not_one : ◌≢◌ {A = ℕ} 0 1
    zero_not_one = λ e. cc

pub left_behind : (frames : List (List LogItem)) (items : List LogItem) (gate : ℕ) (rest payload bytes : List ℕ) (place : ℕ) (o o' : Option (List ℕ)) → gate ≢ 1 → place ≡ place_after frames → payload ≡ payload_of items
    → bytes ≡ frame payload ++ 0 ∷ [] → o ≡ Some (session frames gate rest) → Lifted (Leaves place bytes) o o' → IfSome o' (IsEither frames items)
left_behind frames items gate rest payload bytes place None o' shut is payload_is frame_is old left = absurd (cc)
left_behind frames items gate rest payload bytes place (Some h) None shut is payload_is frame_is old left = absurd left
left_behind frames items gate rest payload bytes place (Some h) (Some k) shut is payload_is frame_is old (inl front) =
    let e : h ≡ session frames gate rest = cc in
    inl (kept_front frames gate rest place k shut is (front ∙ ap (take place) e))
left_behind frames items gate rest payload bytes place (Some h) (Some k) shut is payload_is frame_is old (inr same) =
    let e : h ≡ session frames gate rest = cc in
    let written : over place bytes h ≡ before_gate frames ++ gate ∷ (frame payload ++ 0 ∷ drop (5 + length payload) rest) =
    (λ i. over place (frame_is i) (e i)) ∙ staged frames gate rest payload place is in
    any_gate frames items gate (drop (5 + length payload) rest) payload place k is payload_is (subst (λ (l : List ℕ). SameBut (place - 1) l k) written same)

pub on_err : {T E P : Type 0} (r : Result T E) → P → OnErr r P
on_err (Ok x) p = tt
on_err (Err e) p = p
