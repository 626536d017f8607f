-- The free moves keep what holds of stacks.
use Rattle.std.proofs.Common.{◌≡◌, ◌<◌, true, false, List, [], ◌∷◌, ◌++◌}
use Rattle.std.proofs.Common.{Option, Some, None, length, drop, slice_get, refl, ap, sym, subst}
use Rattle.std.proofs.Common.{◌∙◌}
use Rattle.std.specs.Prelude.{unwrap_or}
use Rattle.std.specs.Option.{option_map}
use Rattle.std.proofs.lemmas.List.{append-nil}
use Rattle.std.proofs.lemmas.Option.{slice_get_within}
use Rattle.js_value.specs.declared.value.Value.{Value}
use Rattle.js_heap.specs.Closed.{Each}
use Rattle.js_host.proofs.Lists.{each-append, each-left, each-right}
use Rattle.js_tree.specs.Arena.{Arena, node_at}
use Rattle.js_tree.specs.declared.node.Node.{Node}
use Rattle.js_tree.specs.declared.node.Node.TheVariants as node
use Rattle.js_tree.specs.declared.node.NodeId.{NodeId}
use Rattle.js_tree.specs.declared.script.Kept.{Kept}
use Rattle.js_term.specs.ArenaOperands.{as_operands, begun_as, begun_at, begun_node, node_literal}
use Rattle.js_term.specs.ArenaOperands.{node_operands}
use Rattle.js_term.specs.Evaluation.{Evaluation, taken}
use Rattle.js_term.specs.Frames.{passes}
use Rattle.js_term.specs.declared.begun.Begun.{Begun}
use Rattle.js_term.specs.declared.begun.Begun.TheVariants as begun
use Rattle.js_term.specs.declared.context.Context.{Context}
use Rattle.js_term.specs.declared.operands.Operand.{Operand}
use Rattle.js_operands.specs.ArenaRows.{row_in}
use Rattle.js_operands.specs.Rows.{ExprRow}
use Rattle.js_operands.specs.declared.row.Phase.TheVariants as expr_phase
use Rattle.js_stmt.specs.CodeRows.{labels_around}
use Rattle.js_stmt.specs.NodeRows.{node_row, row_by}
use Rattle.js_term.specs.Operands.{Labels}
use Rattle.js_stmt.specs.Make.{inner_stmt}
use Rattle.js_stmt.specs.declared.kept.StmtKept.TheVariants as kept
use Rattle.js_stmt.specs.declared.phase.StmtPhase.{StmtPhase}
use Rattle.js_stmt.specs.declared.phase.StmtPhase.TheVariants as phase
use Rattle.js_rows.specs.Hosted.{PageRow}
use Rattle.js_frames.specs.Arenas.{Arenas, arena_of}
use Rattle.js_frames.specs.Begun.{begun_focus, begun_frame, begun_frames, begun_work, focus_by}
use Rattle.js_frames.specs.Begun.{frames_by}
use Rattle.js_frames.specs.Rows.{expression_at, frame_row, no_context, work_row}
use Rattle.js_frames.specs.Soundness.{AwaitsBody, Awaits, HasContexts, IsPlaced, IsResting, IsSound}
use Rattle.js_frames.specs.Soundness.{HasOperands, HasTarget, IsThis, LeadsTo, StandsIn, WorkHasTarget}
use Rattle.js_frames.specs.Soundness.{WorkIsLabelled, contexts_of}
use Rattle.js_frames.specs.Soundness.{inner_of, moved_rows}
use Rattle.js_frames.specs.declared.frame.Contexts.{Contexts}
use Rattle.js_frames.specs.declared.frame.Frame.{Frame}
use Rattle.js_frames.specs.declared.frame.Site.{Site}
use Rattle.js_frames.specs.declared.frame.Work.{Work}
use Rattle.js_frames.specs.declared.frame.Work.TheVariants as work
use Rattle.js_frames.specs.declared.stack.Stack.{Stack}
use Rattle.js_frames.specs.inner.Advances.{inner_in, outer_in, with_value}
use Rattle.js_frames.proofs.BegunTargets.{begun-has, taken-has}
use Rattle.js_frames.proofs.Labels.{inner-begun}
use Rattle.js_frames.proofs.Sounds.{Resting, at, Waiting, context-push, nested-last, nested-left}
use Rattle.js_frames.proofs.Sounds.{nested-push, passes-push, rest-sound, settled-last}
use Rattle.js_frames.proofs.Sounds.{settled-left, settled-push, value-sound}

-- what a beginning has as operands
operands_or : Evaluation → Begun → Evaluation
operands_or a (begun.Operands e) = e
operands_or a (begun.Value v) = a

same_operands : (a b : Evaluation) → begun.Operands a ≡ begun.Operands b → a ≡ b
unfolding operands_or
same_operands a b e = ap (operands_or a) e

each-drop : {X : Type 0} (P : X → Type 0) (xs : List X) → Each P xs → Each P (drop 1 xs)
each-drop P [] h = tt
each-drop P (x ∷ xs) h = h.1

body-drop : (n : Option Node) (p : StmtPhase) (xs : List Operand) → AwaitsBody n p xs
    → AwaitsBody n p (drop 1 xs)
body-drop (Some (node.Labelled l s)) phase.Begun xs h = each-drop (IsThis s) xs h
body-drop n p xs h = tt

begun-body : (f : NodeId → Option Node) (n : Node) → AwaitsBody (Some n) phase.Begun
    (as_operands (node_operands f n))
begun-body f (node.Labelled l s) = (refl, tt)
begun-body f n = tt

module _ (D : Type 0) (ts : Arenas) where
  labels-drop : (s : Option Site) (w : Work D) (xs : List Operand) → WorkIsLabelled ts s w xs
      → WorkIsLabelled ts s w (drop 1 xs)
  labels-drop (Some s) (work.Statement state k) xs h =
      record {
        leads = h.leads;
        body = body-drop (node_at
            (arena_of ts s.text) s.node) state.phase xs h.body;
      }
  labels-drop s w xs h = tt

  target-push : (r : ExprRow) (vs : List Value) (v : Value) → HasTarget r vs
      → HasTarget r (vs ++ v ∷ [])
  target-push (ExprRow.ComputeMember o k) (e ∷ vs) v h = h
  target-push (ExprRow.ComputeMember o k) [] v h = absurd h
  target-push (ExprRow.ComputeIndex o) (e ∷ k ∷ vs) v h = h
  target-push (ExprRow.ComputeIndex o) (e ∷ []) v h = absurd h
  target-push (ExprRow.ComputeIndex o) [] v h = absurd h
  target-push r vs v h = tt

  work-target-push : (s : Option Site) (w : Work D) (e : Evaluation) (v : Value)
      → WorkHasTarget ts s w e → WorkHasTarget ts s w (taken v e)
  work-target-push s (work.Expression expr_phase.Begun) e v h =
      taken-has (expression_at ts s expr_phase.Begun) e v h
  work-target-push s (work.Expression expr_phase.Store) e v h =
      taken-has (expression_at ts s expr_phase.Store) e v h
  work-target-push s (work.Expression expr_phase.Compute) e v h =
      target-push (expression_at ts s expr_phase.Compute) e.done v h
  work-target-push s w e v h = tt

  placed-drop : (f : Frame D) (v : Value) → IsPlaced ts f → IsPlaced ts (with_value v f)
  placed-drop f v h = record {
    node = h.node;
    labels = labels-drop f.site f.work f.operands.todo
        h.labels;
    target = work-target-push f.site f.work f.operands v h.target;
  }

  -- with the value of its next operand a frame rests, of which no early step was left out
  rests-on : (c : Context) (f : Frame D) (v : Value) → StandsIn ts c f
      → passes moved_rows.is_early (frame_row ts f) [] f.operands.done ≡ true
      → moved_rows.is_early (frame_row ts f) f.operands.done ≡ false
      → IsResting ts c (with_value v f)
  rests-on c f v at a b = record {
    passes = passes-push moved_rows.is_early (frame_row ts f) [] f.operands.done v a b;
    context = at;
  }

  pub inner-same : (r : PageRow D) (c : Context) (b : Option Contexts) → HasContexts r c b
      → unwrap_or (option_map (λ x. x.inner) b) c ≡ inner_of r.row c
  inner-same r c (Some b) h = h.1
  inner-same r c None h = sym h

  pub outer-same : (r : PageRow D) (c : Context) (b : Option Contexts) → HasContexts r c b
      → unwrap_or (option_map (λ x. x.outer) b) (inner_of r.row c) ≡ c
  outer-same r c (Some b) h = h.0
  outer-same r c None h = h

  -- the last frame begins to wait
  pub waits-now : (base c c' : Context) (fs : List (Frame D)) (f : Frame D)
      → Resting ts base c fs f → 0 < length f.operands.todo
      → moved_rows.is_early (frame_row ts f) f.operands.done ≡ false → c' ≡ inner_in f c
      → Waiting ts base c' (fs ++ f ∷ [])
  waits-now base c c' fs f h some early is =
      let here : StandsIn ts c f = h.rests.context in
      let at_top = h.waiting.context in
      record {
        placed = each-append (IsPlaced ts) fs (f ∷ []) h.waiting.placed (h.placed, tt);
        awaits = each-append Awaits fs (f ∷ []) h.waiting.awaits (some, tt);
        settled = settled-push ts fs f h.waiting.settled (h.rests.passes, early);
        nested = nested-push ts fs f base h.waiting.nested (subst
            (λ x. StandsIn ts x f) at_top here);
        context =
            is ∙ (inner-same (frame_row ts f) c (contexts_of f) here
            ∙ (ap (inner_of (frame_row ts f).row) at_top ∙ sym (context-push ts fs f base)));
      }

  -- the last frame has the value that it has waited for
  pub rests-now : (base c c' : Context) (fs : List (Frame D)) (f : Frame D) (v : Value)
      → Waiting ts base c (fs ++ f ∷ [])
      → c' ≡ outer_in f c → Resting ts base c' fs (with_value v f)
  rests-now base c c' fs f v h is =
      let below = at ts fs base in
      let here : StandsIn ts below f = nested-last ts fs f base h.nested in
      let settled = settled-last ts fs f h.settled in
      let context : c' ≡ below =
      is ∙ (ap (λ x. outer_in f x) (h.context ∙ context-push ts fs f base) ∙ outer-same
      (frame_row ts f) below (contexts_of f) here) in
      record {
        waiting = record {
          placed = each-left (IsPlaced ts) fs (f ∷ []) h.placed;
          awaits = each-left Awaits fs (f ∷ []) h.awaits;
          settled = settled-left ts fs f h.settled;
          nested = nested-left ts fs f base h.nested;
          context = context;
        };
        placed = placed-drop f v (each-right (IsPlaced ts) fs (f ∷ []) h.placed).0;
        rests = subst (λ x. IsResting ts x (with_value v f)) (sym context)
            (rests-on below f v here settled.0 settled.1);
      }

  -- the last frame has a value at once
  pub rests-still : (base c : Context) (fs : List (Frame D)) (f : Frame D) (v : Value)
      → Resting ts base c fs f
      → moved_rows.is_early (frame_row ts f) f.operands.done ≡ false → Resting ts base c fs
      (with_value v f)
  rests-still base c fs f v h early = record {
    waiting = h.waiting;
    placed = placed-drop f v h.placed;
    rests = rests-on c f v h.rests.context h.rests.passes early;
  }

  -- a frame that begins
  module _ (s : Site) (o : NodeId) (k : Kept) (e : Evaluation) where
    abbrev arena : Arena
    arena = arena_of ts s.text

    abbrev around : Labels
    around = labels_around arena (record { outermost = o; statement = s.node })

    abbrev new : Frame D
    new = begun_frame ts s o e

    begun-labels : (q : Option ExprRow) → LeadsTo arena o s.node
        → node_at arena s.node ≡ Some k.node
        → e.todo ≡ as_operands (node_operands (node_at arena) k.node)
        → WorkIsLabelled {D = D} ts (Some s) (begun_work o q) e.todo
    begun-labels (Some r) h there is = tt
    begun-labels None h there is = record {
      leads = h;
      body =
          subst (λ n. AwaitsBody n phase.Begun e.todo) (sym there)
          (subst (AwaitsBody (Some k.node) phase.Begun) (sym is) (begun-body
          (node_at arena) k.node));
    }

    begun-target : (q : Option ExprRow)
        → HasOperands (expression_at ts (Some s) expr_phase.Begun) e
        → WorkHasTarget {D = D} ts (Some s) (begun_work o q) e
    begun-target (Some r) h = h
    begun-target None h = tt

    begun-placed : slice_get arena.kept s.node.number ≡ Some k → LeadsTo arena o s.node
        → e ≡ record { done = []; todo = as_operands (node_operands (node_at arena) k.node) }
        → IsPlaced ts new
    begun-placed is h whole = record {
      target =
          begun-target (row_in arena s.node expr_phase.Begun)
          (begun-has arena s.node k.node e (ap (option_map (λ (j : Kept). j.node)) is) whole);
      node = slice_get_within arena.kept s.node.number k is;
      labels =
          begun-labels (row_in arena s.node expr_phase.Begun) h (ap (option_map (λ
          (j : Kept). j.node)) is) (ap (λ x. x.todo) whole);
    }

    begun-inner : (q : Option ExprRow) (c : Context) → node_at arena s.node ≡ Some k.node
        → inner_of (work_row ts {D = D} no_context (Some s) (begun_work o q)) c ≡ c
    begun-inner (Some r) c there = refl
    begun-inner None c there =
        ap (λ r. inner_stmt r c) (ap (row_by (λ n. node_row arena no_context around n phase.Begun
        kept.Nothing)) there)
        ∙ inner-begun arena around k.node c

    begun-rests : slice_get arena.kept s.node.number ≡ Some k → (c : Context) → e.done ≡ []
        → IsResting ts c new
    begun-rests is c none = record {
      passes = subst (λ vs. passes moved_rows.is_early (frame_row ts new) [] vs ≡ true)
          (sym none) refl;
      context = begun-inner (row_in arena s.node expr_phase.Begun) c (ap (option_map (λ
          (j : Kept). j.node)) is);
    }

  -- above frames that wait a node begins
  module _ (s : Site) (o : NodeId) (h : LeadsTo (arena_of ts s.text) o s.node) (gs : List (Frame D))
      (t : Stack D)
      (wait : Waiting ts t.base t.context gs) where
    begun-by : (b : Begun) → t.focus ≡ focus_by b → t.frames.items ≡ gs ++ frames_by ts s o
        b
        → ((e : Evaluation) → b ≡ begun.Operands e → IsPlaced ts
        (begun_frame {D = D} ts s o e) × IsResting ts t.context (begun_frame {D = D} ts s o e))
        → IsSound ts t
    begun-by (begun.Value v) a e f = value-sound ts t v gs a (e ∙ append-nil gs) wait
    begun-by (begun.Operands x) a e f =
        let both = f x refl in
        rest-sound ts t gs (begun_frame ts s o x) a e (record {
          waiting = wait;
          placed = both.0;
          rests = both.1;
        })

    node-by : (k : Kept) → slice_get (arena_of ts s.text).kept s.node.number ≡ Some k →
        (l : Option Value) (e : Evaluation)
        → begun_node (node_at (arena_of ts s.text)) k.node l ≡ begun.Operands e
        → IsPlaced ts (begun_frame {D = D} ts s o e) × IsResting ts t.context
        (begun_frame {D = D} ts s o e)
    node-by k is (Some v) e same = cc
    node-by k is None e same =
        let made : Evaluation = record {
          done = [];
          todo = as_operands (node_operands (node_at
              (arena_of ts s.text)) k.node);
        } in
        let is-made : made ≡ e = same_operands made e same in (
          begun-placed s o k e is h (sym is-made),
          begun-rests s o k e is
              t.context (sym (ap (λ x. x.done) is-made)),
        )

    kept-by : (q : Option Kept) → slice_get (arena_of ts s.text).kept s.node.number ≡ q →
        (e : Evaluation)
        → begun_at (node_at (arena_of ts s.text)) (option_map (λ
        (k : Kept). k.node) q) ≡ begun.Operands e
        → IsPlaced ts (begun_frame {D = D} ts s o e) × IsResting ts t.context
        (begun_frame {D = D} ts s o e)
    kept-by (Some k) is e same = node-by k is (node_literal k.node) e same
    kept-by None is e same = cc

    pub begun-sound : t.focus ≡ begun_focus ts s → t.frames.items ≡ gs ++ begun_frames ts s o
        → IsSound ts t
    begun-sound a e =
        begun-by (begun_as (arena_of ts s.text) s.node) a e (kept-by (slice_get
        (arena_of ts s.text).kept s.node.number) refl)
