-- One frame more.
use Rattle.std.specs.Prelude.{All}
use Rattle.std.proofs.Common.{◌≡◌, ◌≢◌, ℕ, ◌+◌, ◌<◌, ◌^◌, Bool, true, false, ◌==◌, List, [], ◌∷◌, ◌++◌, length, drop, map, refl, sym, ◌∙◌, ap, subst, arith, append_assoc, length-append}
use Rattle.std.proofs.lemmas.List.Elements.{All-append, All-head, All-tail, All-push, All-cons, All-nil}
use Rattle.std.proofs.lemmas.Bool.Decides.{nat_tests}
use Rattle.std.proofs.lemmas.Grind.{flat_map-append}
use Rattle.std.proofs.lemmas.List.{append-nil, map-append}
use Rattle.input_log.specs.Items.{IsItem}
use Rattle.input_log.specs.Kinds.{is_head}
use Rattle.input_log.specs.declared.item.LogItem.{LogItem}
use Rattle.input_log.proofs.Laws.{same_item}
use Rattle.log_frames.specs.Frames.{OpensFrame, frame, opened}
use Rattle.session_store.specs.Session.{AreLaterItems, AreItems, IsLog, KeepsRules, MayComeNext, MayGoOn, items_of, magic, payload_of}
use Rattle.session_store.specs.inner.Steps.{AreOfFrames, Follows, MayStand, SoFar}
use Rattle.session_store.proofs.Items.{no_bytes}

-- a payload is that of one list of items
pub same_items : (xs ys : List LogItem) → AreItems xs → AreItems ys → payload_of xs ≡ payload_of ys → xs ≡ ys
same_items [] [] vx vy same = refl
same_items [] (y ∷ ys) vx vy same = absurd (no_bytes y (payload_of ys) [] (append-nil (payload_of (y ∷ ys)) ∙ sym same))
same_items (x ∷ xs) [] vx vy same = absurd (no_bytes x (payload_of xs) [] (append-nil (payload_of (x ∷ xs)) ∙ same))
same_items (x ∷ xs) (y ∷ ys) vx vy same =
    let both = same_item x y (payload_of xs) (payload_of ys) (All-head IsItem x xs vx) (All-head IsItem y ys vy) same in
    let tails = same_items xs ys (All-tail IsItem x xs vx) (All-tail IsItem y ys vy) both.1 in
    λ i. both.0 i ∷ tails i

not_empty : (x : LogItem) (xs : List LogItem) → (length (x ∷ xs) == 0) ≡ false
not_empty x xs = grind (arith, nat_tests)

-- the first frame is the one behind no items
pub stands_there : (before : List (List LogItem)) (old items : List LogItem) (first : Bool) → IsLog before → old ≡ items_of before → first ≡ (length old == 0) → AreItems items
    → (MayStand first items → MayComeNext before items) × (MayComeNext before items → MayStand first items)
stands_there [] old items first log is empty valid =
    let e : first ≡ true = empty ∙ ap (λ (l : List LogItem). length l == 0) is in
    subst (λ (b : Bool). (MayStand b items → MayComeNext [] items) × (MayComeNext [] items → MayStand b items)) (sym e) ((λ s. (valid, s)), (λ f. f.1))
stands_there (g ∷ gs) old items first log is empty valid =
    let head = log.0.1 in
    let e : first ≡ false = empty ∙ ap (λ (l : List LogItem). length l == 0) (is ∙ ap (λ (l : List LogItem). l ++ items_of gs) head.1) ∙ not_empty head.0 (items_of gs) in
    subst (λ (b : Bool). (MayStand b items → MayComeNext (g ∷ gs) items) × (MayComeNext (g ∷ gs) items → MayStand b items)) (sym e) ((λ s. (valid, s)), (λ f. f.1))

pub frame_reads : (before : List (List LogItem)) (old new items : List LogItem) (payload : List ℕ) (first : Bool) → IsLog before → old ≡ items_of before → first ≡ (length old == 0)
    → AreItems items → payload ≡ payload_of items → MayStand first items → new ≡ old ++ items → Follows before payload old new
frame_reads before old new items payload first log is empty valid reads stands grown =
    (items, (stands_there before old items first log is empty valid).0 stands, reads, grown)

pub frame_stands_not : (before : List (List LogItem)) (old items : List LogItem) (payload : List ℕ) (first : Bool) → IsLog before → old ≡ items_of before → first ≡ (length old == 0)
    → AreItems items → payload ≡ payload_of items → (MayStand first items → ⊥) → (group : List LogItem) → MayComeNext before group → payload ≢ payload_of group
frame_stands_not before old items payload first log is empty valid reads stands_not group follows same =
    let valid_group : AreItems group = items_valid before group follows in
    let e : group ≡ items = same_items group items valid_group valid (sym same ∙ reads) in
    stands_not (subst (MayStand first) e ((stands_there before old group first log is empty valid_group).1 follows))
  where
    items_valid : (before : List (List LogItem)) (group : List LogItem) → MayComeNext before group → AreItems group
    items_valid [] group follows = follows.0
    items_valid (g ∷ gs) group follows = follows.0

pub opened-push : (ps : List (List ℕ)) (p rest : List ℕ) → opened (ps ++ p ∷ []) ++ rest ≡ opened ps ++ (1 ∷ (frame p ++ rest))
opened-push [] p rest = ap (λ (l : List ℕ). 1 ∷ (l ++ rest)) (append-nil (frame p))
opened-push (q ∷ qs) p rest =
    ap (λ (l : List ℕ). 1 ∷ l)
    (append_assoc (frame q) (opened (qs ++ p ∷ [])) rest ∙ ap (λ (l : List ℕ). frame q ++ l) (opened-push qs p rest) ∙ sym (append_assoc (frame q) (opened qs) (1 ∷ (frame p ++ rest))))

length-opened-push : (ps : List (List ℕ)) (p : List ℕ) → length (opened (ps ++ p ∷ [])) ≡ length (opened ps) + 5 + length p
length-opened-push ps p =
    let e = ap length (sym (append-nil (opened (ps ++ p ∷ []))) ∙ opened-push ps p []) in
    omega (arith, e, length-append (opened ps) (1 ∷ (frame p ++ [])), length-append (frame p) [])

-- ---- frames that go on

go_on-push : (front frames : List (List LogItem)) (items : List LogItem) → MayGoOn front frames → MayComeNext (front ++ frames) items → MayGoOn front (frames ++ items ∷ [])
go_on-push front [] items on next = (subst (λ (l : List (List LogItem)). MayComeNext l items) (append-nil front) next, tt)
go_on-push front (g ∷ gs) items on next =
    (on.0, go_on-push (front ++ g ∷ []) gs items on.1 (subst (λ (l : List (List LogItem)). MayComeNext l items) (sym (append_assoc front (g ∷ []) gs)) next))

pub log-push : (before : List (List LogItem)) (items : List LogItem) → IsLog before → MayComeNext before items → IsLog (before ++ items ∷ [])
log-push before items log next = go_on-push [] before items log next

-- those after the first have no head
pub later_frames : (first : List LogItem) (others frames : List (List LogItem)) → MayGoOn (first ∷ others) frames → All (λ items. AreItems items × AreLaterItems items) frames
later_frames first others [] on = All-nil (λ items. AreItems items × AreLaterItems items)
later_frames first others (items ∷ frames) on =
    All-cons (λ items. AreItems items × AreLaterItems items) items frames on.0 (later_frames first (others ++ items ∷ []) frames on.1)

-- and such frames may come after it
pub may_go_on : (first : List LogItem) (others frames : List (List LogItem)) → All (λ items. AreItems items × AreLaterItems items) frames → MayGoOn (first ∷ others) frames
may_go_on first others [] all = tt
may_go_on first others (items ∷ frames) all =
    (All-head (λ items. AreItems items × AreLaterItems items) items frames all, may_go_on first (others ++ items ∷ []) frames (All-tail (λ items. AreItems items × AreLaterItems items) items frames all))

-- a frame that reads, behind those so far
pub further : (bytes payload : List ℕ) (old new : List LogItem) (at at' : ℕ) → (so_far : SoFar bytes old at) → OpensFrame (drop at bytes) payload (drop at' bytes) → at' ≡ at + 5 + length payload
    → Follows so_far.frames payload old new → SoFar bytes new at'
further bytes payload old new at at' so_far opens next follows =
    let frames = so_far.frames in
    let group = follows.0 in
    let log = so_far.has.log in
    let payloads : map payload_of (frames ++ group ∷ []) ≡ map payload_of frames ++ payload ∷ [] =
    map-append payload_of frames (group ∷ []) ∙ ap (λ (p : List ℕ). map payload_of frames ++ p ∷ []) (sym follows.2) in
    record {
      frames = frames ++ group ∷ [];
      has = record {
        log = log-push frames group log follows.1;
        sized = All-push (λ items. length (payload_of items) < 2 ^ 32) frames group so_far.has.sized (subst (λ (l : List ℕ). length l < 2 ^ 32) follows.2 opens.sized);
        gate = opens.gate;
        is = so_far.has.is ∙ ap (λ (l : List ℕ). magic ++ l)
            (ap (λ (l : List ℕ). opened (map payload_of frames) ++ l) opens.is ∙ sym (opened-push (map payload_of frames) payload (drop at' bytes))
            ∙ ap (λ (l : List (List ℕ)). opened l ++ drop at' bytes) (sym payloads));
      };
      items_are = follows.3 ∙ ap (λ (l : List LogItem). l ++ group) so_far.items_are
          ∙ sym (flat_map-append (λ (items : List LogItem). items) frames (group ∷ []) ∙ ap (λ (l : List LogItem). items_of frames ++ l) (append-nil group));
      place = omega (arith, so_far.place, next, length-opened-push (map payload_of frames) payload, ap (λ (l : List (List ℕ)). length (opened l)) payloads);
    }

-- ---- the items in a row

items_push : (frames : List (List LogItem)) (group old new : List LogItem) → old ≡ items_of frames → new ≡ old ++ group → new ≡ items_of (frames ++ group ∷ [])
items_push frames group old new is grown =
    grown ∙ ap (λ (l : List LogItem). l ++ group) is
    ∙ sym (flat_map-append (λ (items : List LogItem). items) frames (group ∷ []) ∙ ap (λ (l : List LogItem). items_of frames ++ l) (append-nil group))

-- a frame that reads, behind those so far
pub frames_further : (payload : List ℕ) (old new : List LogItem) → AreOfFrames old → ((before : List (List LogItem)) → IsLog before → old ≡ items_of before → Follows before payload old new) → AreOfFrames new
frames_further payload old new so_far next =
    let frames = so_far.0 in
    let follows = next frames so_far.1 so_far.2 in
    (frames ++ follows.0 ∷ [], log-push frames follows.0 so_far.1 follows.1, items_push frames follows.0 old new so_far.2 follows.3)

-- the items of the frames behind the first
later_items : (P : LogItem → Type 0) (Q : List LogItem → Type 0) (frames : List (List LogItem)) → ((items : List LogItem) → Q items → All P items) → All Q frames → All P (items_of frames)
later_items P Q [] each all = All-nil P
later_items P Q (items ∷ frames) each all =
    All-append P items (items_of frames) (each items (All-head Q items frames all)) (later_items P Q frames each (All-tail Q items frames all))

-- the items of a log keep the rules
log_keeps : (frames : List (List LogItem)) → IsLog frames → KeepsRules (items_of frames)
log_keeps [] log = tt
log_keeps (first ∷ others) log =
    let head = log.0.1 in
    let later = later_frames first [] others log.1 in
    let valid : AreItems (items_of others) = later_items IsItem (λ items. AreItems items × AreLaterItems items) others (λ items q. q.0) later in
    let no_head : All (λ item. is_head item ≡ false) (items_of others) = later_items (λ item. is_head item ≡ false) (λ items. AreItems items × AreLaterItems items) others (λ items q. q.1.1) later in
    subst (λ (l : List LogItem). KeepsRules (l ++ items_of others)) (sym head.1)
    (All-append IsItem (head.0 ∷ []) (items_of others) (subst (All IsItem) head.1 log.0.0) valid, head.2, no_head)

pub frames_keep : (items : List LogItem) → AreOfFrames items → KeepsRules items
frames_keep items so_far = subst KeepsRules (sym so_far.2) (log_keeps so_far.0 so_far.1)
