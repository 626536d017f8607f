-- From where a recording stands to what it did.
use Rattle.std.proofs.Common.{◌≡◌, ◌⊎◌, inl, inr, ℕ, zero, suc, ◌+◌, ◌-◌, ◌*◌, ◌<◌, ◌≤◌, Bool, true, false, cond, List, [], ◌∷◌, ◌++◌, length, take, map, Option, Ok, refl, sym, ◌∙◌, ap, subst, arith, append_assoc, length-append, option_map, count_by, nat_lt, nat_le, if◌then◌else◌}
use Rattle.std.proofs.lemmas.Bool.{le-ltb, lt-ltb, cond-true, cond-false}
use Rattle.std.proofs.lemmas.Bool.Decides.{nat_tests}
use Rattle.std.proofs.lemmas.List.{append-nil, take_all, take-append-le}
use Rattle.mug_outside.specs.Told.{behind, TookLess}
use Rattle.mug_outside.specs.Cause.{Rose}
use Rattle.mug_outside.proofs.Told.{behind_behind, behind_nil}
use Rattle.arrival_file.specs.declared.arrival.Arrival.{Arrival}
use Rattle.input_log.specs.Kinds.{is_input}
use Rattle.input_log.specs.declared.item.LogItem.{LogItem}
use Rattle.input_log.specs.Inputs.{logged}
use Rattle.input_log.proofs.LoggedInputs.{come_back, inputs_counted}
use Rattle.page_inputs.specs.declared.input.PageInput.{PageInput}
use Rattle.std.specs.Int.{to_be_bytes, w32}
use Rattle.log_frames.specs.Frames.{frame, opened}
use Rattle.session_store.specs.Session.{payload_of}
use Rattle.session_store.specs.Recovery.{place_after}
use Rattle.session_store.specs.Keeping.{file}
use Rattle.session_store.specs.declared.keeper.TheConstants.{SESSION_LIMIT}
use Rattle.capture_engine.specs.Acks.{ack_line, acks, acks_below, acks_from, text_of_lines}
use Rattle.capture_engine.specs.Frames.{AreFramesOf, fitting, fitting_from}
use Rattle.capture_engine.specs.Outside.{IsEarly, Shown, seen}
use Rattle.capture_engine.specs.Recording.{Committed, Halted, Holds, IsFaultyAt, IsFullAt, IsUnsaidAt, RecorderState, Starved, Stopped, Unmade, inputs_in}
use Rattle.capture_engine.specs.declared.recorder.CaptureFault.{CaptureFault}
use Rattle.capture_engine.specs.declared.recorder.CaptureFault.TheVariants.{NotEmpty, Full, DiskFault, WriteFault, NoMemory}
use Rattle.capture_engine.proofs.Recordings.{inputs_in_a_row}
use Rattle.capture_engine.proofs.Records.{acks_append, acks_push, count_append, frames_small, rose_later, text_push}
use Rattle.mugshot_cli.specs.Capturing.{HaltDid, HasFailedDisk, HasFailedOutput, HasFilled, HasRecorded, HasStarved, RunDid, capture_lines, summary, summary_line}
use Rattle.mugshot_cli.specs.inner.Recording.{recorded_as}
use Rattle.mugshot_cli.specs.declared.counts.Counts.{Counts}
use Rattle.mugshot_cli.specs.declared.thin_page.end.PlainEnd.TheVariants as plain_end
use Rattle.mugshot_cli.specs.ThinPage.Run.{Answers, Run, answer, answers_of, moment, used, goes_on, plain_from, ends, is_finished}
use Rattle.mugshot_cli.specs.ThinPage.Machine.{State, begun, contract}
use Rattle.mugshot_cli.specs.ThinPage.inner.PlainState.{EndsIn, IsPlainEnd, PlainState, RunsOn, rest_of, run_end}
use Rattle.mugshot_cli.specs.declared.thin_page.page.Move.{Move}
use Rattle.mugshot_cli.specs.declared.thin_page.end.End.{End}
use Rattle.mugshot_cli.specs.declared.thin_page.end.End.TheVariants.{Finished, Budget}
use Rattle.mugshot_cli.specs.declared.thin_page.end.PlainEnd.{PlainEnd}
use Rattle.mugshot_cli.specs.declared.thin_page.recording.RunOutcome.TheVariants as ran
use Rattle.mugshot_cli.proofs.ThinPage.PlainSteps.{none_left, one_more}

-- ---- lines of frames

pub length-acks : (n m : ℕ) (frames : List (List LogItem)) → length (acks_from n m frames) ≡ length frames
length-acks n m [] = refl
length-acks n m (f ∷ frames) = ap suc (length-acks (n + count_by is_input f) (m + 4) frames)

-- exactly the lines below k, where k is past the last of i frames and not past the next
pub until : (k n m : ℕ) (frames others : List (List LogItem)) → (0 < length frames → m + 4 * length frames < k) → k ≤ m + 4 * length frames + 4 → acks_below k n m (frames ++ others) ≡ acks_from n m frames
until k n m [] [] past next = refl
until k n m [] (f ∷ others) past next = cond-false _ _ _ (let h : k ≤ m + 4 = omega arith in le-ltb _ _ h)
until k n m (f ∷ frames) others past next =
    let h : m + 4 * suc (length frames) < k = past (omega arith) in
    let test : nat_lt (m + 4) k ≡ true = lt-ltb _ _ (omega arith) in
    cond-true _ _ _ test ∙ ap (λ (l : List (List ℕ)). ack_line (n + count_by is_input f) (m + 4) ∷ l) (until k (n + count_by is_input f) (m + 4) frames others (λ p. omega arith) (omega arith))

-- the next line stands in the text of all
pub line_at : (frames others : List (List LogItem)) (group : List LogItem) (last : List ℕ)
    → (after : List (List ℕ)) × (acks (frames ++ group ∷ others) ++ last ∷ [] ≡ acks frames ++ ack_line (inputs_in (frames ++ group ∷ [])) (2 + 4 * length frames + 4) ∷ after)
line_at frames others group last =
    let line = ack_line (inputs_in (frames ++ group ∷ [])) (2 + 4 * length frames + 4) in
    let back = acks_from (0 + inputs_in (frames ++ group ∷ [])) (2 + 4 * length (frames ++ group ∷ [])) others in (
      back ++ last ∷ [],
      ap (λ (f : List (List LogItem)). acks f ++ last ∷ []) (sym (append_assoc frames (group ∷ []) others))
          ∙ ap (λ (l : List (List ℕ)). l ++ last ∷ []) (acks_append (frames ++ group ∷ []) others 0 2 ∙ ap (λ (l : List (List ℕ)). l ++ back) (acks_push frames group))
          ∙ append_assoc (acks frames ++ line ∷ []) back (last ∷ [])
          ∙ append_assoc (acks frames) (line ∷ []) (back ++ last ∷ []),
    )

-- ---- the frames that fit

place_cons : (f : List LogItem) (frames : List (List LogItem)) → place_after (f ∷ frames) ≡ place_after frames + 5 + length (payload_of f)
place_cons f frames = let p = payload_of f in omega (arith, length-append (frame p) (opened (map payload_of frames)), length-append (to_be_bytes w32 (length p)) p)

fits_on : (at : ℕ) (frames others : List (List LogItem)) (end : ℕ) → end + 9 ≡ at + place_after frames → end ≤ SESSION_LIMIT → fitting_from at (frames ++ others) ≡ frames ++ fitting_from end others
fits_on at [] others end is fits = let e : at ≡ end = omega arith in ap (λ n. fitting_from n others) e
fits_on at (f ∷ frames) others end is fits =
    let p = length (payload_of f) in
    let size : place_after (f ∷ frames) ≡ place_after frames + 5 + p = place_cons f frames in
    let small = frames_small frames in
    let test : nat_le (at + 5 + p) SESSION_LIMIT ≡ true = grind (arith, nat_tests) in
    cond-true _ _ _ test ∙ ap (λ (l : List (List LogItem)). f ∷ l) (fits_on (at + 5 + p) frames others end (omega arith) fits)

-- the frames before the first that is past the limit
pub fitting_full : (frames others all : List (List LogItem)) (group : List LogItem) → all ≡ frames ++ group ∷ others → place_after frames ≤ SESSION_LIMIT → SESSION_LIMIT < place_after frames + 5 + length (payload_of group)
    → fitting all ≡ frames
fitting_full frames others all group is fits full =
    let test : nat_le (place_after frames + 5 + length (payload_of group)) SESSION_LIMIT ≡ false = grind (arith, nat_tests) in
    ap fitting is ∙ fits_on 9 frames (group ∷ others) (place_after frames) (omega arith) fits ∙ ap (λ (l : List (List LogItem)). frames ++ l) (cond-false _ _ _ test) ∙ append-nil frames

-- all of them, where the last is within the limit
pub all_fit : (frames : List (List LogItem)) → place_after frames ≤ SESSION_LIMIT → fitting frames ≡ frames
all_fit frames fits = ap fitting (sym (append-nil frames)) ∙ fits_on 9 frames [] (place_after frames) (omega arith) fits ∙ append-nil frames

place_take : (n : ℕ) (frames : List (List LogItem)) → place_after (take n frames) ≤ place_after frames
place_take zero frames = let small = frames_small frames in omega arith
place_take (suc n) [] = omega arith
place_take (suc n) (f ∷ frames) = omega (arith, place_cons f frames, place_cons f (take n frames), place_take n frames)

-- frames up to one that fits
prefix_fits : (frames others all : List (List LogItem)) (group : List LogItem) (j : ℕ) → all ≡ frames ++ group ∷ others → place_after (frames ++ group ∷ []) ≤ SESSION_LIMIT → j ≤ length frames
    → fitting (take (j + 1) all) ≡ take (j + 1) all
prefix_fits frames others all group j is fits within =
    let front = frames ++ group ∷ [] in
    let size : length front ≡ length frames + 1 = length-append frames (group ∷ []) in
    let short : j + 1 ≤ length front = omega arith in
    let part : take (j + 1) all ≡ take (j + 1) front = ap (take (j + 1)) (is ∙ sym (append_assoc frames (group ∷ []) others)) ∙ take-append-le (j + 1) front others short in
    all_fit (take (j + 1) all) (omega (arith, ap place_after part, place_take (j + 1) front, fits))

-- ---- the inputs in all frames

pub inputs_of_frames : (head : LogItem) (inputs : List PageInput) (frames : List (List LogItem)) → is_input head ≡ false → AreFramesOf head inputs frames → inputs_in frames ≡ length inputs
inputs_of_frames head inputs frames none are =
    let one : count_by is_input (head ∷ []) ≡ 0 = ap (λ (b : Bool). 0 + cond b 1 0) none in
    let row : inputs_in frames ≡ count_by is_input ((head ∷ []) ++ logged inputs) = ap (count_by is_input) (inputs_in_a_row head inputs frames are) in
    let others : count_by is_input (logged inputs) ≡ length inputs = inputs_counted (logged inputs) ∙ ap length (come_back inputs) in
    omega (arith, row, one, others, count_append is_input (head ∷ []) (logged inputs))

-- ---- how a run over arrivals ends

ends_on : (next : State → Answers → List Arrival → Run) (s : State) (a : Answers) (left : List Move) (arrivals : List Arrival)
    → ((s : State) (a : Answers) (arrivals : List Arrival) → IsPlainEnd (next s a arrivals).end) → IsPlainEnd (goes_on next s a left arrivals).end
ends_on next s a [] [] more = inl refl
ends_on next s a [] (arrival ∷ arrivals) more = more (begun s (moment arrival.turn)) (answers_of arrival) arrivals
ends_on next s a (move ∷ left) arrivals more = more (contract s move left (answer a move)) (used a move) arrivals

end_by : (b : Bool) → IsPlainEnd (if b then Finished else Budget)
end_by true = inl refl
end_by false = inr refl

-- it is finished, or its budget is used up
pub plain_ends : (n : ℕ) (s : State) (a : Answers) (arrivals : List Arrival) → IsPlainEnd (plain_from n s a arrivals).end
plain_ends zero s a arrivals = subst (λ (r : Run). IsPlainEnd r.end) (sym (none_left s a arrivals)) (end_by (is_finished s.left arrivals))
plain_ends (suc n) s a arrivals = subst (λ (r : Run). IsPlainEnd r.end) (sym (one_more n s a arrivals)) (ends_on (plain_from n) s a s.left arrivals (plain_ends n))

goes_by : (n : ℕ) (s : State) (a : Answers) (left : List Move) (arrivals : List Arrival) (e : End) → s.left ≡ left → 1 ≤ n → is_finished left arrivals ≡ false → plain_from n s a arrivals ≡ ends s e → ⊥
goes_by zero s a left arrivals e here more on is = omega arith
goes_by (suc n) s a [] [] e here more on is = cc
goes_by (suc n) s a [] (arrival ∷ arrivals) e here more on is =
    let same = ap (λ (r : Run). r.before) (sym (one_more n s a (arrival ∷ arrivals) ∙ ap (λ (l : List Move). goes_on (plain_from n) s a l (arrival ∷ arrivals)) here) ∙ is) in cc
goes_by (suc n) s a (move ∷ left) arrivals e here more on is =
    let same = ap (λ (r : Run). r.before) (sym (one_more n s a arrivals ∙ ap (λ (l : List Move). goes_on (plain_from n) s a l arrivals) here) ∙ is) in cc

-- a run that isn't at its end doesn't end at once
not_ended : (r : PlainState) (e : End) → RunsOn r → rest_of r ≡ ends r.state e → ⊥
not_ended r e on is = goes_by r.left r.state r.answers r.state.left r.arrivals e refl on.left on.unfinished is

-- the end that a run is found at is that of the whole
pub same_end : (whole : Run) (r : PlainState) (e : PlainEnd) → EndsIn whole r → rest_of r ≡ ends r.state (run_end e) → run_end e ≡ whole.end
same_end whole r e ended is = ap (λ (run : Run). run.end) (sym is ∙ ended.end_is)

pub no_end : (whole : Run) (r : PlainState) → EndsIn whole r → RunsOn r → ⊥
no_end whole r ended on = not_ended r whole.end on ended.end_is

-- ---- what a capture did

pub summary_is : (whole : Run) (frames : ℕ) (line : List ℕ) (end : PlainEnd) (turns dropped : ℕ) (counts : Counts) (inputs n : ℕ) → line ≡ summary (run_end end) turns dropped counts inputs n → run_end end ≡ whole.end
    → turns ≡ whole.last.turns → dropped ≡ whole.dropped → counts ≡ whole.counts → inputs ≡ length whole.inputs → n ≡ frames → line ≡ summary_line whole frames
summary_is whole frames line end turns dropped counts inputs n is ends_so turns_are dropped_are counts_are inputs_are frames_are =
    is ∙ (λ i. summary (ends_so i) (turns_are i) (dropped_are i) (counts_are i) (inputs_are i) (frames_are i))

take_front : {A : Type 0} (xs ys : List A) → take (length xs) (xs ++ ys) ≡ xs
take_front [] ys = refl
take_front (x ∷ xs) ys = ap (λ l. x ∷ l) (take_front xs ys)

section_ : (frames others all : List (List LogItem)) (group : List LogItem) → all ≡ frames ++ group ∷ others → take (length frames + 1) all ≡ frames ++ group ∷ []
section_ frames others all group is =
    let whole : all ≡ (frames ++ group ∷ []) ++ others = is ∙ sym (append_assoc frames (group ∷ []) others) in
    let size : length frames + 1 ≡ length (frames ++ group ∷ []) = omega (arith, length-append frames (group ∷ [])) in
    (λ i. take (size i) (whole i)) ∙ take_front (frames ++ group ∷ []) others

-- what is recorded when these frames are held
recorded_at : {start now : Shown} (frames : List (List LogItem)) → Holds start now frames → HasRecorded frames (acks frames) start now
recorded_at frames holds = record { fit = all_fit frames holds.fits; file_is = holds.file_is; printed = holds.printed; time = holds.time }

full_did : (all : List (List LogItem)) (start now : Shown) → Stopped (IsFullAt start now) all → HasFilled all start now
full_did all start now stopped =
    let stops = stopped.stops in
    let fit : fitting all ≡ stopped.frames = fitting_full stopped.frames stopped.others all stopped.group stopped.is stops.holds.fits stops.passes in
    record {
      more = λ same. omega (arith, ap length (sym fit ∙ same ∙ stopped.is), length-append stopped.frames (stopped.group ∷ stopped.others));
      recorded = subst (λ (f : List (List LogItem)). HasRecorded f (acks f) start now) (sym fit) (recorded_at stopped.frames stops.holds);
    }

disk_did : (all : List (List LogItem)) (start now : Shown) → Stopped (IsFaultyAt start now) all → HasFailedDisk all start now
disk_did all start now stopped =
    let stops = stopped.stops in
    let frames = stopped.frames in
    record {
      rose = stops.rose;
      when = λ early.
          let low = stops.after early in
          let high = stops.before early in
          let k = now.moment - start.moment in
          let lines : acks_below k 0 2 (frames ++ stopped.group ∷ stopped.others) ≡ acks frames = until k 0 2 frames (stopped.group ∷ stopped.others) (λ some. omega arith) (omega arith) in (
            k,
            record {
              time = omega arith;
              printed = stops.printed ∙ ap (λ (l : List (List ℕ)). behind (text_of_lines l) start.taken) (sym (ap (acks_below k 0 2) stopped.is ∙ lines));
              fit = λ j below. prefix_fits frames stopped.others all stopped.group j stopped.is stops.fits (omega arith);
            },
          );
    }

-- a fault of the disk before the first frame
created_not : (all : List (List LogItem)) (start now : Shown) → Rose start.disk now.disk → now.taken ≡ start.taken
    → (IsEarly start.moment → (start.moment ≤ now.moment) × (now.moment ≤ start.moment + 2)) → HasFailedDisk all start now
created_not all start now rose still time = record {
  rose = rose;
  when = λ early.
      let since = time early in
      let k = now.moment - start.moment in
      let lines : acks_below k 0 2 all ≡ [] = until k 0 2 [] all (λ some. absurd (omega arith)) (omega arith) in (
        k,
        record {
          time = omega arith;
          printed = still ∙ sym (ap (λ (l : List (List ℕ)). behind (text_of_lines l) start.taken) lines ∙ behind_nil start.taken);
          fit = λ j below. absurd (omega arith);
        },
      );
}

write_did : (run : Run) (all : List (List LogItem)) (start now : Shown) → Stopped (IsUnsaidAt start now) all → HasFailedOutput run all start now
write_did run all start now stopped =
    let stops = stopped.stops in
    let frames = stopped.frames in
    let part : take (length frames + 1) all ≡ frames ++ stopped.group ∷ [] = section_ frames stopped.others all stopped.group stopped.is in
    let line = line_at frames stopped.others stopped.group (summary_line run (length all)) in
    record {
      n = length frames;
      rose = stops.rose;
      failed = record {
        before = acks frames;
        line = ack_line (inputs_in (frames ++ stopped.group ∷ [])) (2 + 4 * length frames + 4);
        after = line.0;
        is = ap (λ (f : List (List LogItem)). acks f ++ summary_line run (length all) ∷ []) stopped.is ∙ line.1;
        number = sym (length-acks 0 2 frames);
        less = stops.less;
      };
      fit = ap fitting part ∙ all_fit (frames ++ stopped.group ∷ []) stops.fits ∙ sym part;
      file_is = stops.file_is ∙ ap (λ (f : List (List LogItem)). option_map (λ _. file f) start.held) (sym part);
      time = λ early. let time = stops.time early in omega (arith, time, ap length part, length-append frames (stopped.group ∷ []));
    }

starved_did : (all : List (List LogItem)) (start now : Shown) → Starved start now all → HasStarved all start now
starved_did all start now starved =
    let part : take (length starved.frames) all ≡ starved.frames = ap (take (length starved.frames)) starved.is ∙ take_front starved.frames starved.others in
    (length starved.frames, subst (λ (f : List (List LogItem)). HasRecorded f (acks f) start now) (sym part) (recorded_at starved.frames starved.holds))

-- a recording that was halted
pub halt_did : (fault : CaptureFault) (run : Run) (all : List (List LogItem)) (start now : Shown) → Halted fault start now all → HaltDid fault run all start now
halt_did NotEmpty run all start now halted = absurd halted
halt_did Full run all start now halted = full_did all start now halted
halt_did DiskFault run all start now halted = disk_did all start now halted
halt_did WriteFault run all start now halted = write_did run all start now halted
halt_did NoMemory run all start now halted = starved_did all start now halted

-- or that was not begun
pub start_did : (fault : CaptureFault) (run : Run) (all : List (List LogItem)) (start now : Shown) → Unmade fault start now ⊎ Halted fault start now all → HaltDid fault run all start now
start_did NotEmpty run all start now (inl made) = (record { held = made.1; moment = made.2; taken = made.3 }, made.0)
start_did DiskFault run all start now (inl made) = created_not all start now made.0 made.1 made.2
start_did Full run all start now (inl made) = absurd made
start_did WriteFault run all start now (inl made) = absurd made
start_did NoMemory run all start now (inl made) = (0, recorded_at [] made)
start_did fault run all start now (inr halted) = halt_did fault run all start now halted

-- the last line was written
module _ {start : Shown} {held : Option (List ℕ)} {moment : ℕ} {taken : Option (List ℕ)} {disk out : ℕ} {all : List (List LogItem)} {r : RecorderState} (so_far : Committed start (seen held moment taken disk out) all [] r)
    (budget : ℕ) (run : Run) (line : List ℕ) (line_is : line ≡ summary_line run (length all)) where
  printed : (new : Option (List ℕ)) → new ≡ behind line taken → new ≡ behind (text_of_lines (capture_lines run all)) start.taken
  printed new took =
      took ∙ ap (behind line) so_far.holds.printed ∙ behind_behind (text_of_lines (acks all)) line start.taken
      ∙ ap (λ (l : List ℕ). behind l start.taken) (ap (λ (l : List ℕ). text_of_lines (acks all) ++ l) line_is ∙ sym (text_push (acks all) (summary_line run (length all))))

  recorded : (new : Option (List ℕ)) (out' : ℕ) → new ≡ behind line taken → HasRecorded all (capture_lines run all) start (seen held moment new disk out')
  recorded new out' took = record { fit = all_fit all so_far.holds.fits; file_is = so_far.holds.file_is; printed = printed new took; time = so_far.holds.time }

  pub ended_did : (end : PlainEnd) → run_end end ≡ run.end → (new : Option (List ℕ)) (out' : ℕ) → new ≡ behind line taken → RunDid (recorded_as budget (Ok end)) budget run all start (seen held moment new disk out')
  ended_did plain_end.Finished finished new out' took = record { end_is = sym finished; recorded = recorded new out' took }
  ended_did plain_end.Budget spent new out' took = (refl, record { end_is = sym spent; recorded = recorded new out' took })

  pub line_lost : (new : Option (List ℕ)) (out' : ℕ) → Rose out out' → TookLess line taken new → RunDid (ran.Halted WriteFault) budget run all start (seen held moment new disk out')
  line_lost new out' rose less =
      let part : take (length all + 1) all ≡ all = take_all _ _ (omega arith) in
      record {
        n = length all;
        rose = rose_later start.out out out' so_far.out_later rose;
        failed = record {
          before = acks all;
          line = summary_line run (length all);
          after = [];
          is = refl;
          number = sym (length-acks 0 2 all);
          less = subst (λ (l : List ℕ). TookLess l (behind (text_of_lines (acks all)) start.taken) new) line_is (subst (λ (o : Option (List ℕ)). TookLess line o new) so_far.holds.printed less);
        };
        fit = ap fitting part ∙ all_fit all so_far.holds.fits ∙ sym part;
        file_is = so_far.holds.file_is ∙ ap (λ (f : List (List LogItem)). option_map (λ _. file f) start.held) (sym part);
        time = λ early. let time = so_far.holds.time early in omega (arith, time, ap length part);
      }
