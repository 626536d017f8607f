-- What is put above frames that wait.
use Rattle.std.proofs.Common.{◌≡◌, ℕ, List, [], ◌∷◌, ◌++◌, None, map, ap, sym, subst, ◌∙◌}
use Rattle.std.specs.Prelude.{Err, Ok, OnOk, Result, unwrap_or}
use Rattle.std.specs.Option.{option_map}
use Rattle.js_value.specs.declared.value.Value.{Value}
use Rattle.js_heap.specs.Closed.{Each, IsThere}
use Rattle.js_heap.specs.World.{World}
use Rattle.js_host.specs.There.{AreThere}
use Rattle.js_host.proofs.Lists.{each-append}
use Rattle.js_stmt.specs.CodeRows.{completion_names}
use Rattle.js_stmt.specs.Rows.{StmtRow}
use Rattle.js_term.specs.ArenaOperands.{begun_as}
use Rattle.js_term.specs.ArenaSyntax.{operand_focus}
use Rattle.js_term.specs.Frames as frames
use Rattle.js_term.specs.Moves.{stack_term}
use Rattle.js_term.specs.Operands.{Labels}
use Rattle.js_term.specs.Place.Place.{At}
use Rattle.js_term.specs.Term.Term.{Stop, Val}
use Rattle.js_term.specs.declared.completion.Completion.{Completion}
use Rattle.js_term.specs.declared.operands.Operand.TheVariants as operand
use Rattle.js_tree.specs.TreeAt.{tree_at}
use Rattle.js_tree.specs.declared.node.NodeId.{NodeId}
use Rattle.js_stmt.specs.CodeRows.{labels_around}
use Rattle.js_rows.specs.Forms.{Form}
use Rattle.js_rows.specs.Hosted.{PageRow}
use Rattle.js_rows.specs.Row.{placed}
use Rattle.js_rows.specs.Row.Row.{Statement}
use Rattle.js_rows.specs.Syntax.{has_no_step, row_of, term_at}
use Rattle.js_frames.specs.Arenas.{AreOrdered, Arenas, arena_of}
use Rattle.js_frames.specs.Begun.{begun_focus, begun_frames}
use Rattle.js_frames.specs.Names.{ContextIsThere, FrameIsThere, StackIsThere, focus_names}
use Rattle.js_frames.specs.Reading.{reading, syntax, waits}
use Rattle.js_frames.specs.Soundness.{AreWaiting, IsResting, contexts_of}
use Rattle.js_frames.specs.Soundness.LeadsTo.{Here}
use Rattle.js_frames.specs.declared.frame.Focus.{Focus}
use Rattle.js_frames.specs.declared.frame.Focus.TheVariants as focus
use Rattle.js_frames.specs.declared.frame.Frame.{Frame}
use Rattle.js_frames.specs.declared.frame.Site.{Site}
use Rattle.js_frames.specs.declared.stack.Stack.{Stack}
use Rattle.js_frames.specs.inner.Advances.{inner_in}
use Rattle.js_frames.proofs.Begun.{begun-reading}
use Rattle.js_frames.proofs.FreeMoves.{is-syntax}
use Rattle.js_frames.proofs.Kept.{begun-sound, waits-now}
use Rattle.js_frames.proofs.Leads.{labels-self}
use Rattle.js_frames.proofs.Sounds.{abrupt-sound, rest-sound, value-sound}
use Rattle.js_frames.proofs.Theres.{begun-there, focus-there, frames-there}
use Rattle.js_frames.proofs.TopReadings.{resting-reading}
use Rattle.js_moves.specs.inner.Places.{MayRest, MayWait, Puts, Stands, frame_term}

-- what holds where a call gave no error
pub ok-one : {T E P Q : Type 0} (r : Result T E) → (P → Q) → OnOk r P → OnOk r Q
ok-one (Ok v) f p = f p
ok-one (Err e) f p = tt

pub ok-two : {T E P Q R : Type 0} (r : Result T E) → (P → Q → R) → OnOk r P → OnOk r Q → OnOk r R
ok-two (Ok v) f p q = f p q
ok-two (Err e) f p q = tt

module _ (D : Type 0) (dispatched : D → List Value) (ts : Arenas) (w : World) where
  -- the same frames stand below a stack of the same contexts
  module _ (s s' : Stack D) (fs : List (Frame D)) (context : s'.context ≡ s.context)
      (base : s'.base ≡ s.base) (stands : Stands dispatched ts w fs s) where
    waiting-still : AreWaiting ts s'.base s'.context fs
    waiting-still =
        subst (λ b. AreWaiting ts b s'.context fs) (sym base)
        (subst (λ c. AreWaiting ts s.base c fs) (sym context) stands.waiting)

    context-still : ContextIsThere w s'.context
    context-still = subst (ContextIsThere w) (sym context) stands.context

    base-still : ContextIsThere w s'.base
    base-still = subst (ContextIsThere w) (sym base) stands.base

    pub stands-still : Stands dispatched ts w fs s'
    stands-still = record {
      waiting = waiting-still;
      frames = stands.frames;
      context = context-still;
      base = base-still;
    }

    read-at : (t : Focus) (xs : List (Frame D)) → s'.focus ≡ t → s'.frames.items ≡ xs
        → stack_term (syntax ts) has_no_step (reading ts s'.focus s'.frames.items)
        ≡ stack_term (syntax ts) has_no_step (reading ts t xs)
    read-at t xs at e =
        ap (λ u. stack_term (syntax ts) has_no_step (reading ts u s'.frames.items)) at
        ∙ ap (λ ys. stack_term (syntax ts) has_no_step (reading ts t ys)) e

    there-at : (t : Focus) (xs : List (Frame D)) → s'.focus ≡ t → s'.frames.items ≡ xs
        → AreThere w (focus_names t) → Each (FrameIsThere dispatched w) xs
        → StackIsThere dispatched w s'
    there-at t xs at e named all = record {
      frames = subst (Each (FrameIsThere dispatched w)) (sym e) all;
      focus = subst (λ u. AreThere w (focus_names u)) (sym at) named;
      context = context-still;
      base = base-still;
    }

    pub value-put : (v : Value) → s'.frames.items ≡ fs → s'.focus ≡ focus.Value v
        → IsThere w v → Puts dispatched ts w s.base fs (Val v) s'
    value-put v e at there = record {
      sound = value-sound ts s' v fs at e waiting-still;
      same = read-at (focus.Value v) fs at e;
      base = base;
      there = there-at (focus.Value v) fs at e (there, tt) stands.frames;
    }

    pub completion-put : (k : Completion) → s'.frames.items ≡ fs → s'.focus ≡ focus.Abrupt k
        → AreThere w (completion_names k []) → Puts dispatched ts w s.base fs (Stop k) s'
    completion-put k e at there = record {
      sound = abrupt-sound ts s' k fs at e waiting-still;
      same = read-at (focus.Abrupt k) fs at e;
      base = base;
      there = there-at (focus.Abrupt k) fs at e there stands.frames;
    }

    pub frame-put : (f : Frame D) → s'.frames.items ≡ fs ++ f ∷ [] → s'.focus ≡ focus.Resting
        → MayRest dispatched ts w s.context f
        → Puts dispatched ts w s.base fs (frame_term ts f) s'
    frame-put f e at may = record {
      sound = rest-sound ts s' fs f at e (record {
        waiting = waiting-still;
        placed = may.placed;
        rests = subst (λ c. IsResting ts c f) (sym context) may.rests;
      });
      same =
          read-at focus.Resting (fs ++ f ∷ []) at e
          ∙ ap (stack_term (syntax ts) has_no_step) (resting-reading D ts fs f);
      base = base;
      there = there-at focus.Resting (fs ++ f ∷ []) at e tt
          (each-append (FrameIsThere dispatched w) fs (f ∷ []) stands.frames (may.there, tt));
    }

    pub waiting-put : (f : Frame D) → contexts_of f ≡ None
        → MayWait dispatched ts w s.context f → Stands dispatched ts w (fs ++ f ∷ []) s'
    waiting-put f none may =
        let same : s'.context ≡ inner_in f s.context =
        context ∙ ap (λ b. unwrap_or (option_map (λ x. x.inner) b) s.context) (sym none) in
        let now : AreWaiting ts s.base s'.context (fs ++ f ∷ []) =
        waits-now D ts s.base s.context s'.context fs f
        (record {
          waiting = stands.waiting;
          placed = may.rests.placed;
          rests = may.rests.rests;
        })
        may.awaits may.early same in
        record {
          waiting = subst (λ b. AreWaiting ts b s'.context (fs ++ f ∷ [])) (sym base) now;
          frames =
              each-append (FrameIsThere dispatched w) fs (f ∷ []) stands.frames
              (may.rests.there, tt);
          context = context-still;
          base = base-still;
        }

    module _ (ordered : AreOrdered ts) (x : ℕ) (id : NodeId) where
      abbrev site : Site
      site = record { text = x; node = id }

      abbrev around : Labels
      around = labels_around (arena_of ts x) (record { outermost = id; statement = id })

      abbrev top : PageRow D
      top = placed (At x 0) (Statement StmtRow.Free)

      part-term : frames.focus_term has_no_step (syntax ts).term
          (operand_focus has_no_step (row_of {F = Form D}) x around (arena_of ts x)
          (operand.Node id))
          ≡ term_at (At x 0) (tree_at (arena_of ts x) id)
      part-term =
          ap (λ ls. frames.focus_term has_no_step (syntax ts).term
          (operand_focus has_no_step (row_of {F = Form D}) x ls (arena_of ts x)
          (operand.Node id)))
          (labels-self (arena_of ts x) (ordered x) id)
          ∙ (is-syntax D ts ordered).same top (operand.Node id)

      pub part-put : s'.frames.items ≡ fs ++ begun_frames ts site id
          → s'.focus ≡ begun_focus ts site
          → Puts dispatched ts w s.base fs (term_at (At x 0) (tree_at (arena_of ts x) id)) s'
      part-put e at =
          let b = begun_as (arena_of ts x) id in
          let there = begun-there w (arena_of ts x) id in
          record {
            sound =
                begun-sound D ts site id (Here id) fs s' waiting-still at e;
            same =
                read-at (begun_focus ts site) (fs ++ begun_frames ts site id) at e
                ∙ ap (stack_term (syntax ts) has_no_step)
                (begun-reading D ts site id (ordered x) fs)
                ∙ ap (frames.reading has_no_step (syntax ts).term (map (waits ts) fs)) part-term;
            base = base;
            there = there-at (begun_focus ts site) (fs ++ begun_frames ts site id) at e
                (focus-there w D dispatched ts site id b there)
                (each-append (FrameIsThere dispatched w) fs (begun_frames ts site id)
                stands.frames (frames-there w D dispatched ts site id b there));
          }
