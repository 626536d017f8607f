-- The step at the top of a sound stack is that of the term that the stack stands for.
use Rattle.std.proofs.Common.{◌≡◌, true, false, cond, List, [], ◌∷◌, ◌++◌, Some}
use Rattle.std.proofs.Common.{map, drop, refl, ap, sym, ◌∙◌}
use Rattle.js_value.specs.declared.value.Value.TheVariants.{Undefined}
use Rattle.js_heap.specs.World.{World}
use Rattle.js_term.specs.Contraction.{contract, page_step}
use Rattle.js_term.specs.Contraction.Contraction.{Ends}
use Rattle.js_term.specs.Frames as frames
use Rattle.js_term.specs.Frames.{around, carried, context_at, is_due}
use Rattle.js_term.specs.Frames.Focus.{Alone}
use Rattle.js_term.specs.Moves.{stack_term}
use Rattle.js_term.specs.Table.{Step, Table}
use Rattle.js_term.specs.Table.Step.{Asks, Gives}
use Rattle.js_term.specs.Term.{Term, terms}
use Rattle.js_term.specs.Term.Term.{Stop}
use Rattle.js_term.specs.declared.completion.Completion.{Completion}
use Rattle.js_term.specs.declared.context.Context.{Context}
use Rattle.js_term.specs.declared.operands.Operand.{Operand}
use Rattle.js_term.proofs.Readings.{contract-early, contract-reading, contract-stop}
use Rattle.js_term.proofs.Readings.{contract-values, reading-push}
use Rattle.js_rows.specs.Forms.{Form}
use Rattle.js_rows.specs.Hosted.{PageRow}
use Rattle.js_rows.specs.Outside.{Outside}
use Rattle.js_rows.specs.Rows.{all_rows}
use Rattle.js_rows.specs.Syntax.{has_no_step}
use Rattle.js_frames.specs.Arenas.{Arenas}
use Rattle.js_frames.specs.Dues.{above}
use Rattle.js_frames.specs.Reading.{last, reading, syntax, term, waits}
use Rattle.js_frames.specs.Rows.{frame_row}
use Rattle.js_frames.specs.Soundness.{IsSound, contexts_of, moved_rows}
use Rattle.js_frames.specs.declared.frame.Focus.TheVariants as focus
use Rattle.js_frames.specs.declared.frame.Frame.{Frame}
use Rattle.js_frames.specs.declared.stack.Stack.{Stack}
use Rattle.js_frames.specs.inner.Advances.{front, outer_in}
use Rattle.js_frames.proofs.TopReadings.{pushed-reading, resting-reading}
use Rattle.js_frames.proofs.Kept.{outer-same}
use Rattle.js_frames.proofs.Sounds.{Resting, Waiting, context-push, nested-last, resting-of}
use Rattle.js_frames.proofs.Sounds.{settled-last, settled-left, stopped-of}
use Rattle.js_frames.proofs.Tops.{push-view}

step-due : {R H : Type 0} (x : Step R H) → is_due (page_step x) ≡ true
step-due (Gives t w h) = refl
step-due (Asks q) = refl

module _ (D H : Type 0) (O : Outside (Form D) H) (ts : Arenas) (s : Stack D) (f : Frame D)
    (w : World) (h : H) (sound : IsSound ts s)
    (is : last s.frames.items ≡ Some f) where
  abbrev T : Table (PageRow D) H
  T = all_rows O

  abbrev fs : List (Frame D)
  fs = front s.frames.items

  abbrev row : PageRow D
  row = frame_row ts f

  abbrev read : Term (PageRow D) → Term (PageRow D)
  read t = frames.reading has_no_step (syntax ts).term (map (waits ts) fs) t

  view : s.frames.items ≡ fs ++ f ∷ []
  view = push-view s.frames.items f is

  -- a step of what stands above the frames below the last one
  lifted : (t : Term (PageRow D)) (c : Context) (x : Step (PageRow D) H) → term ts s ≡ read t
      → frames.AreSettled moved_rows (map (waits ts) fs) → c ≡ context_at moved_rows (map
      (waits ts) fs) s.base
      → contract T c w h t ≡ page_step x → contract T s.base w h (term ts s) ≡ above ts fs
      (page_step x)
  lifted t c x e settled at step =
      let here : contract T (context_at T (map (waits ts) fs) s.base) w h t ≡ page_step x = ap
      (λ y. contract T y w h t) (sym at) ∙ step in
      ap (contract T s.base w h) e
      ∙ (contract-reading T (syntax ts).term (map (waits ts) fs) s.base w h t settled
      (ap is_due here ∙ step-due x) ∙ ap (above ts fs) here)

  module _ (at : s.focus ≡ focus.Resting) where
    rests : Resting ts s.base s.context fs f
    rests = resting-of ts s fs f at view sound

    stands : (todo : List Operand) → f.operands.todo ≡ todo
        → term ts s ≡ read (frames.resting has_no_step (syntax ts).term row f.operands.done
        todo)
    stands todo e =
        ap (stack_term (syntax ts) has_no_step)
        (ap (λ t. reading ts t s.frames.items) at ∙ (ap (reading ts focus.Resting) view
        ∙ resting-reading D ts fs f))
        ∙ ap (λ xs. read (frames.resting has_no_step (syntax ts).term row f.operands.done xs)) e

    pub makes : f.operands.todo ≡ [] → has_no_step row ≡ false
        → contract T s.base w h (term ts s) ≡ above ts fs (page_step
        (T.make s.context w h row f.operands.done))
    makes e steps =
        lifted (frames.resting has_no_step (syntax ts).term row f.operands.done []) s.context
        (T.make s.context w h row f.operands.done) (stands [] e)
        rests.waiting.settled rests.waiting.context
        (contract-values T s.context w h row f.operands.done steps rests.rests.passes
        ∙ ap (λ b. cond b (Ends Undefined) (page_step (T.make s.context w h row
        f.operands.done))) steps)

    pub early : (x : Operand) (todo : List Operand) → f.operands.todo ≡ x ∷ todo
        → has_no_step row ≡ false
        → moved_rows.is_early row f.operands.done ≡ true
        → contract T s.base w h (term ts s)
        ≡ above ts fs (page_step (T.early s.context w h row f.operands.done (terms
        ((syntax ts).term row) (x ∷ todo))))
    early x todo e steps soon =
        lifted (frames.resting has_no_step (syntax ts).term row f.operands.done
        (x ∷ todo)) s.context
        (T.early s.context w h row f.operands.done (terms ((syntax ts).term row) (x ∷ todo)))
        (stands (x ∷ todo) e)
        rests.waiting.settled rests.waiting.context
        (contract-early T s.context w h row f.operands.done ((syntax ts).term row x) (terms
        ((syntax ts).term row) todo) steps rests.rests.passes soon)

  pub meets : (k : Completion) → s.focus ≡ focus.Abrupt k
      → contract T s.base w h (term ts s) ≡ above ts fs (page_step (T.meets
      (outer_in f s.context) w h row k))
  meets k at =
      let all : Waiting ts s.base s.context (fs ++ f ∷ []) = stopped-of ts s k
      (fs ++ f ∷ []) at view sound in
      let settled = settled-last ts fs f all.settled in
      let below : Context = context_at moved_rows (map (waits ts) fs) s.base in
      let outer : outer_in f s.context ≡ below =
      ap (λ x. outer_in f x) (all.context ∙ context-push ts fs f s.base)
      ∙ outer-same D ts row below (contexts_of f) (nested-last ts fs f s.base all.nested) in
      let over : term ts s ≡ read (around has_no_step (syntax ts).term (waits ts f) (Stop k)) =
      ap (stack_term (syntax ts) has_no_step) (ap (λ t. reading ts t s.frames.items) at ∙ ap
      (reading ts (focus.Abrupt k)) view)
      ∙ (ap (λ ws. frames.reading has_no_step (syntax ts).term ws (Stop k))
      (pushed-reading D ts fs f)
      ∙ reading-push has_no_step (syntax ts).term (map (waits ts) fs) (waits ts f) (Stop k)) in
      lifted (around has_no_step (syntax ts).term (waits ts f) (Stop k)) (outer_in f s.context)
      (T.meets (outer_in f s.context) w h row k) over
      (settled-left ts fs f all.settled) outer
      (contract-stop T (outer_in f s.context) w h row f.operands.done k (terms
      ((syntax ts).term row) (drop 1 f.operands.todo)) settled.0 settled.1)
