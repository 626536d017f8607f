-- Frames and their lines, one after another.
use Rattle.std.proofs.Common.{IfSome, ◌⊎◌, lit≤, Result, Err, IsErrOf, ◌≡◌, ◌≢◌, inl, inr, ℕ, zero, suc, ◌+◌, ◌*◌, ◌<◌, ◌≤◌, Bool, true, false, cond, List, [], ◌∷◌, ◌++◌, length, drop, map, Some, None, Option, refl, sym, ◌∙◌, ap, subst, arith, append_assoc, length-append, option_map, count_by, if◌then◌else◌}
use Rattle.std.proofs.lemmas.Grind.{flat_map-append}
use Rattle.std.proofs.lemmas.List.{append-nil, map-append}
use Rattle.std.proofs.lemmas.List.Sums.{sum_by-append}
use Rattle.std.specs.Int.{to_be_bytes, w32}
use Rattle.mug_outside.specs.Told.{behind, TookLess}
use Rattle.mug_outside.specs.Cause.{Rose}
use Rattle.mug_outside.proofs.Told.{behind_behind, behind_nil}
use Rattle.input_log.specs.Items.{encoding}
use Rattle.input_log.specs.Kinds.{is_input}
use Rattle.input_log.specs.declared.item.LogItem.{LogItem}
use Rattle.input_log.specs.declared.item.LogItem.TheVariants.{Head, Load, Now, Rand}
use Rattle.log_frames.specs.Frames.{frame, opened}
use Rattle.session_store.specs.Session.{items_of, payload_of}
use Rattle.session_store.specs.Recovery.{place_after}
use Rattle.session_store.specs.Keeping.{StoreState, file, session}
use Rattle.session_store.proofs.Frames.{opened-push}
use Rattle.capture_engine.specs.Acks.{ack_line, acks, acks_from, text_of_lines}
use Rattle.capture_engine.specs.inner.Grouping.{ends_before, frames_after, grouped, kept_before, open_after}
use Rattle.capture_engine.specs.inner.Steps.{IsSameFault, StopsAt}
use Rattle.session_store.specs.declared.keeper.Ack.{Ack}
use Rattle.session_store.specs.declared.keeper.StoreFault.{StoreFault}
use Rattle.session_store.specs.declared.keeper.StoreFault.TheVariants as store_fault
use Rattle.session_store.specs.declared.keeper.TheConstants.{MOMENT_END, SESSION_LIMIT}
use Rattle.capture_engine.specs.Outside.{IsEarly, Shown, seen}
use Rattle.capture_engine.specs.Recording.{Committed, Halted, Holds, RecorderState, Starved, Unchanged, Unmade, ended, inputs_in}
use Rattle.capture_engine.specs.declared.recorder.CaptureFault.{CaptureFault}
use Rattle.capture_engine.specs.declared.recorder.CaptureFault.TheVariants.{NotEmpty, Full, DiskFault, WriteFault, NoMemory}

-- ---- numbers of inputs

pub count_append : {A : Type 0} (p : A → Bool) (xs ys : List A) → count_by p (xs ++ ys) ≡ count_by p xs + count_by p ys
count_append p xs ys = sum_by-append (λ x. cond (p x) 1 0) xs ys

items_push : (frames : List (List LogItem)) (group : List LogItem) → items_of (frames ++ group ∷ []) ≡ items_of frames ++ group
items_push frames group = flat_map-append (λ (items : List LogItem). items) frames (group ∷ []) ∙ ap (λ (l : List LogItem). items_of frames ++ l) (append-nil group)

pub inputs_push : (frames : List (List LogItem)) (group : List LogItem) → inputs_in (frames ++ group ∷ []) ≡ inputs_in frames + count_by is_input group
inputs_push frames group = ap (count_by is_input) (items_push frames group) ∙ count_append is_input (items_of frames) group

-- ---- lines

pub text_push : (lines : List (List ℕ)) (line : List ℕ) → text_of_lines (lines ++ line ∷ []) ≡ text_of_lines lines ++ line
text_push lines line = flat_map-append (λ (l : List ℕ). l) lines (line ∷ []) ∙ ap (λ (l : List ℕ). text_of_lines lines ++ l) (append-nil line)

pub acks_append : (xs ys : List (List LogItem)) (n m : ℕ) → acks_from n m (xs ++ ys) ≡ acks_from n m xs ++ acks_from (n + inputs_in xs) (m + 4 * length xs) ys
acks_append [] ys n m = λ i. acks_from (same n i) (same2 m i) ys
  where
    same : (n : ℕ) → n ≡ n + 0
    same n = omega arith

    same2 : (m : ℕ) → m ≡ m + 4 * 0
    same2 m = omega arith
acks_append (x ∷ xs) ys n m =
    let inputs = count_append is_input x (items_of xs) in
    let a : n + count_by is_input x + inputs_in xs ≡ n + inputs_in (x ∷ xs) = omega arith in
    let b : m + 4 + 4 * length xs ≡ m + 4 * suc (length xs) = omega arith in
    let line = ack_line (n + count_by is_input x) (m + 4) in
    ap (λ (l : List (List ℕ)). line ∷ l) (acks_append xs ys (n + count_by is_input x) (m + 4) ∙ λ i. acks_from (n + count_by is_input x) (m + 4) xs ++ acks_from (a i) (b i) ys)

-- one line more
pub acks_push : (frames : List (List LogItem)) (group : List LogItem) → acks (frames ++ group ∷ []) ≡ acks frames ++ ack_line (inputs_in (frames ++ group ∷ [])) (2 + 4 * length frames + 4) ∷ []
acks_push frames group =
    let e : 0 + inputs_in frames + count_by is_input group ≡ inputs_in (frames ++ group ∷ []) = omega (arith, inputs_push frames group) in
    acks_append frames (group ∷ []) 0 2 ∙ ap (λ (n : ℕ). acks frames ++ ack_line n (2 + 4 * length frames + 4) ∷ []) e

-- ---- places

pub place_push : (frames : List (List LogItem)) (group : List LogItem) → place_after (frames ++ group ∷ []) ≡ place_after frames + 5 + length (payload_of group)
place_push frames group =
    let ps = map payload_of frames in
    let p = payload_of group in
    let payloads : map payload_of (frames ++ group ∷ []) ≡ ps ++ p ∷ [] = map-append payload_of frames (group ∷ []) in
    let e = ap length (sym (append-nil (opened (ps ++ p ∷ []))) ∙ opened-push ps p []) in
    omega (arith, e, ap (λ (l : List (List ℕ)). length (opened l)) payloads, length-append (opened ps) (1 ∷ (frame p ++ [])), length-append (frame p) [])

drop_nil : (n : ℕ) → drop {A = ℕ} n [] ≡ []
drop_nil zero = refl
drop_nil (suc n) = refl

-- the file with one frame more
pub file_push : (frames : List (List LogItem)) (group : List LogItem) (place size : ℕ) (start mid new : Option (List ℕ)) → mid ≡ option_map (λ _. file frames) start → place ≡ place_after frames
    → ((gate : ℕ) (rest : List ℕ) → mid ≡ Some (session frames gate rest) → new ≡ Some (session (frames ++ group ∷ []) 0 (drop size rest)))
    → (mid ≡ None → new ≡ None) → new ≡ option_map (λ _. file (frames ++ group ∷ [])) start
file_push frames group place size None mid new is at told untold = untold is
file_push frames group place size (Some h) mid new is at told untold = told 0 [] is ∙ ap (λ (l : List ℕ). Some (session (frames ++ group ∷ []) 0 l)) (drop_nil size)

-- ---- items and bytes

some_bytes : (item : LogItem) → 0 < length (encoding item)
some_bytes (Head base budget page) = omega arith
some_bytes (Load t) = omega arith
some_bytes (Now v) = omega arith
some_bytes (Rand w) = omega arith

pub payload_push : (current : List LogItem) (item : LogItem) → payload_of (current ++ item ∷ []) ≡ payload_of current ++ encoding item
payload_push current item = flat_map-append encoding current (item ∷ []) ∙ ap (λ (l : List ℕ). payload_of current ++ l) (append-nil (encoding item))

pub payload_grows : (payload payload' : List ℕ) (item : LogItem) → payload' ≡ payload ++ encoding item → length payload < length payload'
payload_grows payload payload' item is = omega (arith, ap length is, length-append payload (encoding item), some_bytes item)

pub none_open : (current : List LogItem) → length (payload_of current) ≡ 0 → current ≡ []
none_open [] none = refl
none_open (item ∷ items) none = absurd (omega (arith, length-append (encoding item) (payload_of items), some_bytes item))

pub some_open : (current : List LogItem) → 0 < length (payload_of current) → current ≢ []
some_open [] some is = omega arith
some_open (item ∷ items) some is = cc

pub ended_some : (frames : List (List LogItem)) (current : List LogItem) → current ≢ [] → ended frames current ≡ frames ++ current ∷ []
ended_some frames [] some = absurd (some refl)
ended_some frames (item ∷ items) some = refl

-- ---- a commit

pub rose_later : (a b c : ℕ) → a ≤ b → Rose b c → Rose a c
rose_later a b c le (inl grew) = inl (omega arith)
rose_later a b c le (inr full) = inr full

pub frames_small : (frames : List (List LogItem)) → 9 + 5 * length frames ≤ place_after frames
frames_small [] = omega arith
frames_small (f ∷ frames) =
    let p = payload_of f in
    omega (arith, frames_small frames, length-append (frame p) (opened (map payload_of frames)), length-append (to_be_bytes w32 (length p)) p)

pub within : (n : ℕ) → (SESSION_LIMIT < n → ⊥) → n ≤ SESSION_LIMIT
within n not = grind (arith, not)

-- a refusal of the store
abbrev pub refused : StoreFault → Result Ack StoreFault
refused fault = Err fault

-- the same of the recorder as it is kept
pub of_view : {start now : Shown} {frames : List (List LogItem)} {current : List LogItem} {r r' : RecorderState} → r ≡ r' → Committed start now frames current r' → Committed start now frames current r
of_view {start} {now} {frames} {current} same before = subst (λ (r : RecorderState). Committed start now frames current r) (sym same) before

-- `payload` is committed by the store, which then is `store`
module _ {start now : Shown} {frames : List (List LogItem)} {current : List LogItem} {r : RecorderState} (so_far : Committed start now frames current r) (payload : List ℕ) (is : payload ≡ r.payload) (some : 0 < length payload) where
  payload_is : payload ≡ payload_of current
  payload_is = is ∙ so_far.payload_is

  pub has_some : current ≢ []
  has_some = some_open current (omega (arith, ap length payload_is))

  early : IsEarly start.moment → now.moment + 4 < MOMENT_END
  early at = let time = so_far.holds.time at in let small = frames_small frames in let fits = so_far.holds.fits in omega arith

  next_fits : r.store.place + 5 + length payload ≤ SESSION_LIMIT → place_after (frames ++ current ∷ []) ≤ SESSION_LIMIT
  next_fits fit = omega (arith, fit, so_far.place, place_push frames current, ap length payload_is)

  -- the frame fits, since the store isn't full
  pub fits_in : {T : Type 0} (result : Result T StoreFault) → (SESSION_LIMIT < r.store.place + 5 + length payload → r.store.stopped ≡ false → IsErrOf result store_fault.Full) → (IsErrOf result store_fault.Full → ⊥)
      → r.store.place + 5 + length payload ≤ SESSION_LIMIT
  fits_in result full not = within (r.store.place + 5 + length payload) (λ passes. not (full passes so_far.running))

  same_holds : (held : Option (List ℕ)) (moment disk : ℕ) → held ≡ now.held → moment ≡ now.moment → Holds start (seen held moment now.taken disk now.out) frames
  same_holds held moment disk same time = record {
    file_is = same ∙ so_far.holds.file_is;
    fits = so_far.holds.fits;
    printed = so_far.holds.printed;
    time = λ at. time ∙ so_far.holds.time at;
  }

  -- the store refused the commit
  module _ (held : Option (List ℕ)) (moment disk : ℕ) where
    pub commit_stops : (refusal : StoreFault) (fault : CaptureFault) → IsSameFault refusal fault
        → (IsErrOf (refused refusal) store_fault.Full → SESSION_LIMIT < r.store.place + 5 + length payload)
        → (SESSION_LIMIT < r.store.place + 5 + length payload → r.store.stopped ≡ false → IsErrOf (refused refusal) store_fault.Full)
        → (IsErrOf (refused refusal) store_fault.DiskFault → Rose now.disk disk)
        → (IsErrOf (refused refusal) store_fault.DiskFault → now.moment + 4 < MOMENT_END → (now.moment < moment) × (moment ≤ now.moment + 4))
        → (IsErrOf (refused refusal) store_fault.NotEmpty → ⊥)
        → (IsErrOf (refused refusal) store_fault.DiskFault ⊎ ((held ≡ now.held) × (moment ≡ now.moment)))
        → StopsAt fault start (seen held moment now.taken disk now.out) frames current
    commit_stops store_fault.Full fault is_fault full fits rose time not_empty (inl other) = absurd (cc)
    commit_stops store_fault.Full fault is_fault full fits rose time not_empty (inr same) =
        subst (λ (f : CaptureFault). StopsAt f start (seen held moment now.taken disk now.out) frames current) (sym is_fault)
        (record { holds = same_holds held moment disk same.0 same.1; passes = omega (arith, full refl, so_far.place, ap length payload_is) })
    commit_stops store_fault.NoMemory fault is_fault full fits rose time not_empty (inl other) = absurd (cc)
    commit_stops store_fault.NoMemory fault is_fault full fits rose time not_empty (inr same) =
        subst (λ (f : CaptureFault). StopsAt f start (seen held moment now.taken disk now.out) frames current) (sym is_fault) (same_holds held moment disk same.0 same.1)
    commit_stops store_fault.Stopped fault is_fault full fits rose time not_empty nothing = absurd is_fault
    commit_stops store_fault.NotEmpty fault is_fault full fits rose time not_empty nothing = absurd (not_empty refl)
    commit_stops store_fault.DiskFault fault is_fault full fits rose time not_empty nothing =
        subst (λ (f : CaptureFault). StopsAt f start (seen held moment now.taken disk now.out) frames current) (sym is_fault) (record {
          rose = rose_later start.disk now.disk disk so_far.disk_later (rose refl);
          fits = next_fits (fits_in (refused store_fault.DiskFault) fits (λ e. cc));
          printed = so_far.holds.printed;
          after = λ at. let were = so_far.holds.time at in let since = time refl (early at) in omega arith;
          before = λ at. let were = so_far.holds.time at in let since = time refl (early at) in omega arith;
        })

  file_next : (held : Option (List ℕ))
      → ((frames : List (List LogItem)) (items : List LogItem) (gate : ℕ) (rest : List ℕ) → r.store.place ≡ place_after frames → payload ≡ payload_of items → now.held ≡ Some (session frames gate rest)
      → held ≡ Some (session (frames ++ items ∷ []) 0 (drop (5 + length payload) rest)))
      → (now.held ≡ None → held ≡ None) → held ≡ option_map (λ _. file (frames ++ current ∷ [])) start.held
  file_next held told untold =
      file_push frames current r.store.place (5 + length payload) start.held now.held held so_far.holds.file_is so_far.place (λ gate rest is. told frames current gate rest so_far.place payload_is is) untold

  module _ (held : Option (List ℕ)) (moment disk inputs at : ℕ)
      (told : (frames : List (List LogItem)) (items : List LogItem) (gate : ℕ) (rest : List ℕ) → r.store.place ≡ place_after frames → payload ≡ payload_of items → now.held ≡ Some (session frames gate rest)
      → held ≡ Some (session (frames ++ items ∷ []) 0 (drop (5 + length payload) rest)))
      (untold : now.held ≡ None → held ≡ None) (time : now.moment + 4 < MOMENT_END → moment ≡ now.moment + 4) (later : now.disk ≤ disk)
      (inputs_are : inputs ≡ r.store.inputs + r.inputs) (at_is : at ≡ r.store.moments + 4) (fit : r.store.place + 5 + length payload ≤ SESSION_LIMIT) where
    next_inputs : inputs ≡ inputs_in (frames ++ current ∷ [])
    next_inputs = omega (arith, inputs_are, so_far.inputs_are, so_far.open_are, inputs_push frames current)

    next_at : at ≡ 2 + 4 * length frames + 4
    next_at = omega (arith, at_is, so_far.moments_are)

    pub at_write_fault : (taken : Option (List ℕ)) (out : ℕ) → Rose now.out out → TookLess (ack_line inputs at) now.taken taken → StopsAt WriteFault start (seen held moment taken disk out) frames current
    at_write_fault taken out rose less = record {
      rose = rose_later start.out now.out out so_far.out_later rose;
      file_is = file_next held told untold;
      fits = next_fits fit;
      less =
          subst (λ (line : List ℕ). TookLess line (behind (text_of_lines (acks frames)) start.taken) taken) (λ i. ack_line (next_inputs i) (next_at i))
          (subst (λ (o : Option (List ℕ)). TookLess (ack_line inputs at) o taken) so_far.holds.printed less);
      time = λ early_at. let were = so_far.holds.time early_at in let since = time (early early_at) in omega arith;
    }

    pub went_on : (store : StoreState) (left : List ℕ) (taken : Option (List ℕ)) (out : ℕ) → left ≡ [] → store.place ≡ r.store.place + 5 + length payload → store.frames ≡ r.store.frames + 1 → store.inputs ≡ inputs → store.moments ≡ at
        → store.stopped ≡ false → now.out ≤ out → taken ≡ behind (ack_line inputs at) now.taken
        → Committed start (seen held moment taken disk out) (ended frames current) [] (record { store = store; payload = left; inputs = 0 })
    went_on store left taken out empty place count store_inputs store_moments running out_later took =
        let size : length (frames ++ current ∷ []) ≡ length frames + 1 = length-append frames (current ∷ []) in
        subst (λ (all : List (List LogItem)). Committed start (seen held moment taken disk out) all [] (record { store = store; payload = left; inputs = 0 })) (sym (ended_some frames current has_some)) (record {
          holds = record {
            file_is = file_next held told untold;
            fits = next_fits fit;
            printed = took ∙ ap (behind (ack_line inputs at)) so_far.holds.printed ∙ behind_behind (text_of_lines (acks frames)) (ack_line inputs at) start.taken
                ∙ ap (λ (l : List ℕ). behind l start.taken) (sym (ap text_of_lines (acks_push frames current) ∙ text_push (acks frames) _ ∙ ap (λ (l : List ℕ). text_of_lines (acks frames) ++ l) (sym (λ i. ack_line (next_inputs i) (next_at i)))));
            time = λ early_at. let were = so_far.holds.time early_at in let since = time (early early_at) in omega (arith, size);
          };
          place = omega (arith, place, so_far.place, place_push frames current, ap length payload_is);
          frames_are = omega (arith, count, so_far.frames_are, size);
          inputs_are = store_inputs ∙ next_inputs;
          moments_are = omega (arith, store_moments, next_at, size);
          running = running;
          payload_is = empty;
          open_are = refl;
          disk_later = omega (arith, so_far.disk_later, later);
          out_later = omega (arith, so_far.out_later, out_later);
        })

-- ---- an item more

ends_some : (current : List LogItem) (item : LogItem) → ends_before current item ≡ true → current ≢ []
ends_some [] item ends none = cc
ends_some (first ∷ others) item ends none = cc

-- the open frame goes on
pub stays : {start now : Shown} {frames : List (List LogItem)} {current : List LogItem} {r : RecorderState} (item : LogItem) → ends_before current item ≡ false
    → Committed start now frames current r → Committed start now (frames_after frames current item) (kept_before current item) r
stays {start} {now} {frames} {current} {r} item on before =
    subst (λ (b : Bool). Committed start now (if b then frames ++ current ∷ [] else frames) (if b then [] else current) r) (sym on) before

-- the open frame ended
pub turns_over : {start now : Shown} {r : RecorderState} (frames : List (List LogItem)) (current : List LogItem) (item : LogItem) → ends_before current item ≡ true
    → Committed start now (ended frames current) [] r → Committed start now (frames_after frames current item) (kept_before current item) r
turns_over {start} {now} {r} frames current item ends before =
    subst (λ (b : Bool). Committed start now (if b then frames ++ current ∷ [] else frames) (if b then [] else current) r) (sym ends)
    (subst (λ (all : List (List LogItem)). Committed start now all [] r) (ended_some frames current (ends_some current item ends)) before)

-- the commit of this frame halted the recording
pub halted_at : (fault : CaptureFault) (start now : Shown) (frames others all : List (List LogItem)) (group : List LogItem) → all ≡ frames ++ group ∷ others → StopsAt fault start now frames group → Halted fault start now all
halted_at NotEmpty start now frames others all group is stops = stops
halted_at Full start now frames others all group is stops = record { frames = frames; group = group; others = others; is = is; stops = stops }
halted_at DiskFault start now frames others all group is stops = record { frames = frames; group = group; others = others; is = is; stops = stops }
halted_at WriteFault start now frames others all group is stops = record { frames = frames; group = group; others = others; is = is; stops = stops }
halted_at NoMemory start now frames others all group is stops = record { frames = frames; others = group ∷ others; is = is; holds = stops }

-- the frames of the items from this one on
pub group_step : (frames : List (List LogItem)) (current items : List LogItem) (item : LogItem)
    → frames ++ grouped current (item ∷ items) ≡ frames_after frames current item ++ grouped (open_after current item) items
group_step frames current items item = by_test (ends_before current item)
  where
    by_test : (b : Bool) → frames ++ (if b then current ∷ grouped (item ∷ []) items else grouped (current ++ item ∷ []) items)
        ≡ (if b then frames ++ current ∷ [] else frames) ++ grouped ((if b then [] else current) ++ item ∷ []) items
    by_test true = sym (append_assoc frames (current ∷ []) (grouped (item ∷ []) items))
    by_test false = refl

-- memory was out
pub starved : {start now : Shown} {frames : List (List LogItem)} {current : List LogItem} {r : RecorderState} → Committed start now frames current r → (all others : List (List LogItem)) → all ≡ frames ++ others
    → Starved start now all
starved {start} {now} {frames} so_far all others is = record { frames = frames; others = others; is = is; holds = so_far.holds }

pub starved_fault : {start now : Shown} {all : List (List LogItem)} (fault : CaptureFault) → fault ≡ NoMemory → Starved start now all → Halted fault start now all
starved_fault {start} {now} {all} fault is starved = subst (λ (f : CaptureFault). Halted f start now all) (sym is) starved

-- nothing is held but a session without frames
pub made_empty : (start now : Shown) → now.held ≡ option_map (λ _. file []) start.held → now.taken ≡ start.taken → (start.moment + 2 < MOMENT_END → now.moment ≡ start.moment + 2) → Holds start now []
made_empty start now held taken time = record {
  file_is = held;
  fits = lit≤ tt;
  printed = taken ∙ sym (behind_nil start.taken);
  time = λ early. time (omega arith) ∙ (let e : start.moment + 2 ≡ start.moment + (2 + 4 * 0) = omega arith in e);
}

-- the frames that are closed at the end are all
pub grouped_end : (frames : List (List LogItem)) (current : List LogItem) → frames ++ grouped current [] ≡ ended frames current
grouped_end frames [] = append-nil frames
grouped_end frames (item ∷ items) = refl

-- ---- the start

-- from a start that differs by its counts of faults alone
pub from_start : (start now : Shown) → Unchanged start now → (P : Shown → Type 0) → P (seen now.held now.moment now.taken start.disk start.out) → P start
from_start start now same P holds = subst P (λ i. seen (same.held i) (same.moment i) (same.taken i) start.disk start.out) holds

-- the store was not made
pub unmade : (start now : Shown) (refusal : StoreFault) (fault : CaptureFault) → IsSameFault refusal fault → now.taken ≡ start.taken
    → (refusal ≡ store_fault.NotEmpty → IfSome start.held (λ b. 0 < length b) × (now.held ≡ start.held) × (now.moment ≡ start.moment))
    → (refusal ≡ store_fault.DiskFault → Rose start.disk now.disk)
    → (refusal ≡ store_fault.DiskFault → start.moment + 2 < MOMENT_END → (start.moment ≤ now.moment) × (now.moment ≤ start.moment + 2))
    → (refusal ≡ store_fault.Full → ⊥) → (refusal ≡ store_fault.NoMemory → ⊥) → Unmade fault start now
unmade start now store_fault.NotEmpty fault is_fault still some rose time full starved =
    let there = some refl in subst (λ (f : CaptureFault). Unmade f start now) (sym is_fault) (there.0, there.1, there.2, still)
unmade start now store_fault.DiskFault fault is_fault still some rose time full starved =
    subst (λ (f : CaptureFault). Unmade f start now) (sym is_fault) (rose refl, still, λ early. time refl (omega arith))
unmade start now store_fault.Full fault is_fault still some rose time full starved = absurd (full refl)
unmade start now store_fault.Stopped fault is_fault still some rose time full starved = absurd is_fault
unmade start now store_fault.NoMemory fault is_fault still some rose time full starved = absurd (starved refl)
