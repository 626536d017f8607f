-- The frames that are made item by item are the runs that the definition asks for, and no others are.
use Rattle.std.proofs.Common.{◌≡◌, ◌≢◌, inl, inr, ◌+◌, ◌<◌, ◌≤◌, Bool, true, false, List, [], ◌∷◌, ◌++◌, length, refl, sym, ◌∙◌, ap, subst, arith, append_assoc, length-append, if◌then◌else◌}
use Rattle.std.proofs.lemmas.Bool.Decides.{nat_tests}
use Rattle.std.proofs.lemmas.Grind.{flat_map-append}
use Rattle.std.proofs.lemmas.List.{append-nil}
use Rattle.input_log.specs.Items.{encoding}
use Rattle.input_log.specs.declared.item.LogItem.{LogItem}
use Rattle.session_store.specs.Session.{items_of, payload_of}
use Rattle.capture_engine.specs.Frames.{AreFrames, AreRuns, AreTurnsRuns, IsLongestRun, IsRun}
use Rattle.capture_engine.specs.inner.Grouping.{ends_before, frames_of, grouped, turns_grouped}
use Rattle.capture_engine.specs.declared.recorder.TheConstants.{PAYLOAD_LIMIT}
use Rattle.capture_engine.proofs.Records.{payload_push}

-- ---- runs

pub one_run : (item : LogItem) → IsRun (item ∷ [])
one_run item = ((λ e. cc), inr refl)

some_more : (xs : List LogItem) (item : LogItem) → xs ++ item ∷ [] ≢ []
some_more [] item = λ e. cc
some_more (x ∷ xs) item = λ e. cc

-- one item more makes a run where the frame doesn't end before it
pub run_goes_on : (current : List LogItem) (item : LogItem) → current ≢ [] → ends_before current item ≡ false → IsRun (current ++ item ∷ [])
run_goes_on [] item some on = absurd (some refl)
run_goes_on (c ∷ cs) item some on =
    let short : length (payload_of (c ∷ cs)) + length (encoding item) ≤ PAYLOAD_LIMIT = grind (arith, nat_tests, on) in
    ((some_more (c ∷ cs) item), inl (omega (arith, short, ap length (payload_push (c ∷ cs) item), length-append (payload_of (c ∷ cs)) (encoding item))))

-- and with it no run has the items where it does
pub run_ended : (current : List LogItem) (item : LogItem) (more : List LogItem) → ends_before current item ≡ true → IsRun (current ++ item ∷ more) → ⊥
run_ended [] item more ends run = cc
run_ended (c ∷ cs) item more ends run =
    let long : PAYLOAD_LIMIT < length (payload_of (c ∷ cs)) + length (encoding item) = grind (arith, nat_tests, ends) in
    let bytes : payload_of ((c ∷ cs) ++ item ∷ more) ≡ payload_of (c ∷ cs) ++ (encoding item ++ payload_of more) = flat_map-append encoding (c ∷ cs) (item ∷ more) in
    elim run.1 [
      | inl short ↦ omega (arith, long, short, ap length bytes, length-append (payload_of (c ∷ cs)) (encoding item ++ payload_of more), length-append (encoding item) (payload_of more))
      | inr one ↦ omega (arith, one, length-append (c ∷ cs) (item ∷ more))
    ]

-- no longer run stands there
ends_there : (current : List LogItem) (item : LogItem) (items more others : List LogItem) → ends_before current item ≡ true → item ∷ items ≡ more ++ others → IsRun (current ++ more) → more ≡ []
ends_there current item items [] others ends is run = refl
ends_there current item items (m ∷ ms) others ends is run =
    let e : m ≡ item = cc in
    absurd (run_ended current item ms ends (subst (λ (i : LogItem). IsRun (current ++ i ∷ ms)) e run))

ends_at_end : (more others : List LogItem) → [] ≡ more ++ others → more ≡ []
ends_at_end [] others is = refl
ends_at_end (m ∷ ms) others is = cc

-- ---- what is made are the runs

by_test : (first : LogItem) (more items : List LogItem) (item : LogItem) (b : Bool) → ends_before (first ∷ more) item ≡ b → IsRun (first ∷ more) → AreRuns (item ∷ items) (grouped (item ∷ []) items)
    → (IsRun ((first ∷ more) ++ item ∷ []) → AreRuns (((first ∷ more) ++ item ∷ []) ++ items) (grouped ((first ∷ more) ++ item ∷ []) items))
    → AreRuns ((first ∷ more) ++ item ∷ items) (if b then (first ∷ more) ∷ grouped (item ∷ []) items else grouped ((first ∷ more) ++ item ∷ []) items)
by_test first more items item true ends run new on =
    (item ∷ items, refl, record { is_run = run; longest = λ longer others is r. ends_there (first ∷ more) item items longer others ends is r }, new)
by_test first more items item false ends run new on =
    subst (λ (l : List LogItem). AreRuns l (grouped ((first ∷ more) ++ item ∷ []) items)) (append_assoc (first ∷ more) (item ∷ []) items)
    (on (run_goes_on (first ∷ more) item (λ e. cc) ends))

runs_from : (current items : List LogItem) → IsRun current → AreRuns (current ++ items) (grouped current items)
runs_from [] items run = absurd (run.0 refl)
runs_from (first ∷ more) [] run = ([], refl, record { is_run = run; longest = λ longer others is r. ends_at_end longer others is }, refl)
runs_from (first ∷ more) (item ∷ items) run =
    by_test first more items item (ends_before (first ∷ more) item) refl run (runs_from (item ∷ []) items (one_run item)) (λ r. runs_from ((first ∷ more) ++ item ∷ []) items r)

pub runs_are : (turn : List LogItem) → AreRuns turn (grouped [] turn)
runs_are [] = refl
runs_are (item ∷ items) = runs_from (item ∷ []) items (one_run item)

-- ---- and no others are

longest_run : (run run' rest : List LogItem) → run ≡ run' → IsLongestRun run rest → IsLongestRun run' rest
longest_run run run' rest same longest = subst (λ (l : List LogItem). IsLongestRun l rest) same longest

cut_here : (first : LogItem) (cs items : List LogItem) (item : LogItem) (b : Bool) → ends_before (first ∷ cs) item ≡ b → IsLongestRun (first ∷ cs) (item ∷ items)
    → (if b then (first ∷ cs) ∷ grouped (item ∷ []) items else grouped ((first ∷ cs) ++ item ∷ []) items) ≡ (first ∷ cs) ∷ grouped (item ∷ []) items
cut_here first cs items item true ends longest = refl
cut_here first cs items item false ends longest =
    let none : item ∷ [] ≡ [] = longest.longest (item ∷ []) items refl (run_goes_on (first ∷ cs) item (λ e. cc) ends) in absurd (cc)

not_cut : (first : LogItem) (cs more rest : List LogItem) (item : LogItem) (b : Bool) → ends_before (first ∷ cs) item ≡ b → IsRun ((first ∷ cs) ++ item ∷ more)
    → (if b then (first ∷ cs) ∷ grouped (item ∷ []) (more ++ rest) else grouped ((first ∷ cs) ++ item ∷ []) (more ++ rest)) ≡ grouped ((first ∷ cs) ++ item ∷ []) (more ++ rest)
not_cut first cs more rest item true ends run = absurd (run_ended (first ∷ cs) item more ends run)
not_cut first cs more rest item false ends run = refl

-- a longest run is made, and then what follows it
run_made : (current more rest : List LogItem) → current ≢ [] → IsLongestRun (current ++ more) rest → grouped current (more ++ rest) ≡ (current ++ more) ∷ grouped [] rest
run_made [] more rest some longest = absurd (some refl)
run_made (first ∷ cs) [] [] some longest = ap (λ (l : List LogItem). l ∷ []) (sym (append-nil (first ∷ cs)))
run_made (first ∷ cs) [] (item ∷ items) some longest =
    cut_here first cs items item (ends_before (first ∷ cs) item) refl (longest_run ((first ∷ cs) ++ []) (first ∷ cs) (item ∷ items) (append-nil (first ∷ cs)) longest)
    ∙ ap (λ (l : List LogItem). l ∷ grouped (item ∷ []) items) (sym (append-nil (first ∷ cs)))
run_made (first ∷ cs) (item ∷ more) rest some longest =
    let same : ((first ∷ cs) ++ item ∷ []) ++ more ≡ (first ∷ cs) ++ item ∷ more = append_assoc (first ∷ cs) (item ∷ []) more in
    not_cut first cs more rest item (ends_before (first ∷ cs) item) refl longest.is_run
    ∙ run_made ((first ∷ cs) ++ item ∷ []) more rest (some_more (first ∷ cs) item) (longest_run ((first ∷ cs) ++ item ∷ more) (((first ∷ cs) ++ item ∷ []) ++ more) rest (sym same) longest)
    ∙ ap (λ (l : List LogItem). l ∷ grouped [] rest) same

first_run : (run rest : List LogItem) → IsLongestRun run rest → grouped [] (run ++ rest) ≡ run ∷ grouped [] rest
first_run [] rest longest = absurd (longest.is_run.0 refl)
first_run (item ∷ items) rest longest = run_made (item ∷ []) items rest (λ e. cc) longest

pub same_runs : (turn : List LogItem) (runs : List (List LogItem)) → AreRuns turn runs → runs ≡ grouped [] turn
same_runs turn [] are = ap (grouped []) (sym are)
same_runs turn (run ∷ runs) are =
    ap (λ (l : List (List LogItem)). run ∷ l) (same_runs are.0 runs are.3) ∙ sym (first_run run are.0 are.2) ∙ ap (grouped []) (sym are.1)

-- ---- turn by turn

turns_runs : (turns : List (List LogItem)) → AreTurnsRuns turns (turns_grouped turns)
turns_runs [] = refl
turns_runs (turn ∷ turns) = (grouped [] turn, turns_grouped turns, refl, runs_are turn, turns_runs turns)

same_turns : (turns runs : List (List LogItem)) → AreTurnsRuns turns runs → runs ≡ turns_grouped turns
same_turns [] runs are = are
same_turns (turn ∷ turns) runs are = are.2 ∙ (λ i. same_runs turn are.0 are.3 i ++ same_turns turns are.1 are.4 i)

-- the frames that are made are the frames of a session
pub frames_are : (head : LogItem) (turns : List (List LogItem)) → AreFrames head turns (frames_of head turns)
frames_are head turns = record { runs = turns_grouped turns; are_runs = turns_runs turns; is = refl }

pub same_frames : (head : LogItem) (turns frames : List (List LogItem)) → AreFrames head turns frames → frames ≡ frames_of head turns
same_frames head turns frames are = are.is ∙ ap (λ (l : List (List LogItem)). (head ∷ []) ∷ l) (same_turns turns are.runs are.are_runs)

-- ---- their items

items_by_test : (first : LogItem) (more items : List LogItem) (item : LogItem) (b : Bool) → items_of (grouped (item ∷ []) items) ≡ item ∷ items → items_of (grouped ((first ∷ more) ++ item ∷ []) items) ≡ ((first ∷ more) ++ item ∷ []) ++ items
    → items_of (if b then (first ∷ more) ∷ grouped (item ∷ []) items else grouped ((first ∷ more) ++ item ∷ []) items) ≡ (first ∷ more) ++ item ∷ items
items_by_test first more items item true new on = ap (λ (l : List LogItem). (first ∷ more) ++ l) new
items_by_test first more items item false new on = on ∙ append_assoc (first ∷ more) (item ∷ []) items

items_grouped : (current items : List LogItem) → items_of (grouped current items) ≡ current ++ items
items_grouped [] [] = refl
items_grouped (first ∷ more) [] = refl
items_grouped [] (item ∷ items) = items_grouped (item ∷ []) items
items_grouped (first ∷ more) (item ∷ items) =
    items_by_test first more items item (ends_before (first ∷ more) item) (items_grouped (item ∷ []) items) (items_grouped ((first ∷ more) ++ item ∷ []) items)

items_of_turns : (turns : List (List LogItem)) → items_of (turns_grouped turns) ≡ items_of turns
items_of_turns [] = refl
items_of_turns (turn ∷ turns) =
    flat_map-append (λ (items : List LogItem). items) (grouped [] turn) (turns_grouped turns) ∙ (λ i. items_grouped [] turn i ++ items_of_turns turns i)

pub frames_items : (head : LogItem) (turns frames : List (List LogItem)) → AreFrames head turns frames → items_of frames ≡ head ∷ items_of turns
frames_items head turns frames are = ap items_of (same_frames head turns frames are) ∙ ap (λ (l : List LogItem). head ∷ l) (items_of_turns turns)
