-- What stands at no node of a text may rest and wait, and what stands above it.
use Rattle.std.proofs.Common.{◌≡◌, Bool, true, false, not, ◌&&◌, List, [], ◌∷◌, ◌++◌}
use Rattle.std.proofs.Common.{Option, Some, None, map, refl, ap, sym, subst, ◌∙◌, arith}
use Rattle.std.specs.Option.{option_map}
use Rattle.std.specs.Prelude.{Result, Ok, Err, OnOk, unwrap_or}
use Rattle.std.proofs.lemmas.Option.{none-some, same_Some}
use Rattle.mug_text.specs.declared.memory.NoMemory.{NoMemory}
use Rattle.std.proofs.lemmas.List.{append-nil}
use Rattle.js_value.specs.declared.value.Value.{Value}
use Rattle.js_value.specs.declared.value.Value.TheVariants as value
use Rattle.js_heap.specs.Closed.{IsThere}
use Rattle.js_heap.specs.World.{World}
use Rattle.js_host.proofs.Lists.{each-append, each-left, each-right}
use Rattle.js_host.specs.Names.{callback_names}
use Rattle.js_host.specs.There.{AreThere}
use Rattle.js_host.specs.declared.call.Callback.{Callback}
use Rattle.js_host.specs.declared.call.Callback.TheVariants as callback
use Rattle.js_term.proofs.Readings.{reading-push}
use Rattle.js_term.specs.Evaluation.{Evaluation, nothing}
use Rattle.js_term.specs.Frames as frames
use Rattle.js_term.specs.Frames.{passes}
use Rattle.js_term.specs.Term.{Term, Terms, after, node}
use Rattle.js_term.specs.Term.Term.{Node}
use Rattle.js_term.specs.Term.Terms.{Cons, Nil}
use Rattle.js_term.specs.declared.context.Context.{Context}
use Rattle.js_term.specs.declared.operands.Operand.TheVariants as operand
use Rattle.js_tree.specs.Arena.{node_at}
use Rattle.js_operands.specs.ArenaRows.{row_of}
use Rattle.js_operands.specs.ExprMoves.{later_row, operand_names}
use Rattle.js_operands.specs.Rows.{ExprRow}
use Rattle.js_operands.specs.declared.row.Phase.{Phase}
use Rattle.js_operands.specs.declared.row.Phase.TheVariants as phase
use Rattle.js_control.specs.Make.{expr_is_early}
use Rattle.js_rows.specs.Forms.{Form}
use Rattle.js_rows.specs.Forms.Form.{Begin, Dispatch, Fresh, Native}
use Rattle.js_rows.specs.Hosted.{PageRow, form}
use Rattle.js_rows.specs.Row.{placed}
use Rattle.js_rows.specs.Row.Row.{Expression}
use Rattle.js_rows.specs.Syntax.{has_no_step}
use Rattle.js_frames.proofs.TopReadings.{pushed-reading}
use Rattle.js_frames.specs.Arenas.{Arenas, arena_of}
use Rattle.js_frames.specs.Names.{work_names}
use Rattle.js_frames.specs.Reading.{syntax, waits}
use Rattle.js_frames.specs.Rows.{expression_at, frame_row, place_at}
use Rattle.js_frames.specs.Soundness.{HasNode, StandsIn, WorkHasTarget, WorkIsLabelled}
use Rattle.js_frames.specs.Soundness.{contexts_of, moved_rows}
use Rattle.js_frames.specs.declared.frame.Frame.{Frame}
use Rattle.js_frames.specs.declared.frame.Site.{Site}
use Rattle.js_frames.specs.declared.frame.Work.{Work}
use Rattle.js_frames.specs.declared.frame.Work.TheVariants as work
use Rattle.js_frames.specs.declared.stack.Stack.{Stack}
use Rattle.js_moves.specs.inner.FormPlaces.{call_term, form_of}
use Rattle.js_moves.specs.inner.Places.{MayRest, MayWait, Puts, Stands, frame_term}

-- a row that is never early passes over all values
pub passes-all : {R : Type 0} (is_early : R → List Value → Bool) (r : R)
    → ((vs : List Value) → is_early r vs ≡ false) → (done vs : List Value)
    → passes is_early r done vs ≡ true
passes-all is_early r never done [] = refl
passes-all is_early r never done (v ∷ vs) =
    ap (λ b. not b && passes is_early r (done ++ v ∷ []) vs) (never done)
    ∙ passes-all is_early r never (done ++ v ∷ []) vs

-- what a callback names, apart from what stands behind it
module _ (w : World) where
  pub callback-there : (k : Callback) (vs : List Value) → AreThere w (callback_names k vs)
      → AreThere w (callback_names k []) × AreThere w vs
  callback-there (callback.Call f this xs) vs t = (
    (
      t.0,
      (
        t.1.0,
        subst (AreThere w) (sym (append-nil xs))
            (each-left (IsThere w) xs vs t.1.1),
      ),
    ),
    each-right (IsThere w) xs vs t.1.1,
  )
  callback-there (callback.Dispatch d) vs t = ((t.0, (t.1.0, tt)), t.1.1)
  callback-there (callback.Convert text v) vs t = ((t.0, tt), t.1)

  pub callback-with : (k : Callback) (vs us : List Value) → AreThere w us
      → AreThere w (callback_names k vs) → AreThere w (callback_names k us)
  callback-with (callback.Call f this xs) vs us u t =
      (t.0, (t.1.0, each-append (IsThere w) xs us (each-left (IsThere w) xs vs t.1.1) u))
  callback-with (callback.Dispatch d) vs us u t = (t.0, (t.1.0, u))
  callback-with (callback.Convert text v) vs us u t = (t.0, u)

pub on_ok : {X E P Q : Type 0} (r : Result X E) → (P → Q) → OnOk r P → OnOk r Q
on_ok (Ok x) f p = f p
on_ok (Err e) f p = tt

pub ok_any : {X E P : Type 0} (r : Result X E) → P → OnOk r P
ok_any (Ok x) p = p
ok_any (Err e) p = tt

-- a node's row in the phase of a call is the call's
later-call : (r : ExprRow) → later_row r phase.CallOn ≡ ExprRow.CallOn
later-call ExprRow.This = refl
later-call r = refl

call-by : (o : Option ExprRow)
    → unwrap_or (option_map (λ r. later_row r phase.CallOn) o) ExprRow.CallOn ≡ ExprRow.CallOn
call-by None = refl
call-by (Some r) = later-call r

call-row : (ts : Arenas) (site : Option Site)
    → expression_at ts site phase.CallOn ≡ ExprRow.CallOn
call-row ts None = refl
call-row ts (Some u) =
    call-by (row_of (arena_of ts u.text) (node_at (arena_of ts u.text) u.node))

module _ (D : Type 0) (dispatched : D → List Value) (ts : Arenas) (w : World) where
  -- a frame that stands at this node, or at none, and has no contexts
  abbrev pub frame_at : Option Site → Work D → Evaluation → Frame D
  frame_at site x e = record { site = site; work = x; operands = e; contexts = None }

  module _ (c : Context) (site : Option Site) (x : Work D) (e : Evaluation) where
    rests-by : HasNode ts site → WorkIsLabelled ts site x e.todo → WorkHasTarget ts site x e
        → ((vs : List Value) → moved_rows.is_early (frame_row ts (frame_at site x e)) vs ≡ false)
        → StandsIn ts c (frame_at site x e) → AreThere w (work_names dispatched x [])
        → AreThere w (operand_names e []) → MayRest dispatched ts w c (frame_at site x e)
    rests-by node labels target never context there named = record {
      placed = record { node = node; labels = labels; target = target };
      rests = record {
        passes =
            passes-all moved_rows.is_early (frame_row ts (frame_at site x e)) never [] e.done;
        context = context;
      };
      there = record { work = there; operands = named; contexts = tt };
    }

  -- forms rest, and wait for their operand
  module _ (c : Context) (e : Evaluation) where
    form-rests : (x : Work D) (q : Form D) → form_of x ≡ Some q
        → AreThere w (work_names dispatched x []) → AreThere w (operand_names e [])
        → MayRest dispatched ts w c (frame_at None x e)
    form-rests (work.Native p) q is there named =
        rests-by c None (work.Native p) e tt tt tt (λ vs. refl) refl there named
    form-rests (work.Begin d) q is there named =
        rests-by c None (work.Begin d) e tt tt tt (λ vs. refl) refl there named
    form-rests (work.Fresh d) q is there named =
        rests-by c None (work.Fresh d) e tt tt tt (λ vs. refl) refl there named
    form-rests (work.Dispatch d) q is there named =
        rests-by c None (work.Dispatch d) e tt tt tt (λ vs. refl) refl there named
    form-rests (work.Expression f) q is there named = absurd (none-some q is)
    form-rests (work.Statement u k) q is there named = absurd (none-some q is)

  abbrev form_row : Work D → PageRow D
  form_row x = frame_row ts (frame_at None x nothing)

  form-early : (x : Work D) (q : Form D) (vs : List Value) → form_of x ≡ Some q
      → moved_rows.is_early (form_row x) vs ≡ false
  form-early (work.Native p) q vs is = refl
  form-early (work.Begin d) q vs is = refl
  form-early (work.Fresh d) q vs is = refl
  form-early (work.Dispatch d) q vs is = refl
  form-early (work.Expression f) q vs is = absurd (none-some q is)
  form-early (work.Statement u k) q vs is = absurd (none-some q is)

  form-node : (x : Work D) (q : Form D) (us : Terms (PageRow D)) → form_of x ≡ Some q
      → node has_no_step (form_row x) us ≡ form q us
  form-node (work.Native p) q us is = ap (λ y. form y us) (same_Some (Native p.value) q is)
  form-node (work.Begin d) q us is = ap (λ y. form y us) (same_Some (Begin d) q is)
  form-node (work.Fresh d) q us is =
      ap (λ y. form y us)
      (same_Some (Fresh d.value.target d.value.kind d.value.bubbles d.value.cancelable) q is)
  form-node (work.Dispatch d) q us is = ap (λ y. form y us) (same_Some (Dispatch d) q is)
  form-node (work.Expression f) q us is = absurd (none-some q is)
  form-node (work.Statement u k) q us is = absurd (none-some q is)

  abbrev pub PutsSo : Result (Unit {0}) NoMemory → Context → List (Frame D) → Term (PageRow D)
      → Stack D → Type 0
  PutsSo r base fs t s = OnOk r (Puts dispatched ts w base fs t s)

  module _ (r : Result (Unit {0}) NoMemory) (s s' : Stack D) where
    abbrev put : Term (PageRow D) → Type 0
    put t = PutsSo r s.base s.frames.items t s'

    -- a form without operands
    pub form-put : (f : Frame D) (x : Work D) (q : Form D) (e : Evaluation)
        → f ≡ frame_at None x e → e ≡ nothing → form_of x ≡ Some q
        → AreThere w (work_names dispatched x [])
        → (MayRest dispatched ts w s.context f → put (frame_term ts f)) → put (form q Nil)
    form-put f x q e at begun is there puts =
        let same : f ≡ frame_at None x nothing = at ∙ ap (frame_at None x) begun in
        subst put (ap (frame_term ts) same ∙ form-node x q Nil is)
        (puts (subst (MayRest dispatched ts w s.context) (sym same)
        (form-rests s.context nothing x q is there tt)))

    abbrev pub values : List Value → Evaluation
    values vs = record { done = vs; todo = [] }

    labels-none : (site : Option Site) (f : Phase)
        → WorkIsLabelled {D = D} ts site (work.Expression f) []
    labels-none (Some u) f = tt
    labels-none None f = tt

    abbrev row_node : Option Site → Phase → List Value → ExprRow → Term (PageRow D)
    row_node site f vs row =
        Node (placed (place_at ts {D = D} site (work.Expression f)) (Expression row))
        (after vs Nil)

    -- a row over values that has no early step
    pub row-put : (f : Frame D) (site : Option Site) (p : Phase) (row : ExprRow) (vs : List Value)
        (e : Evaluation) → f ≡ frame_at site (work.Expression p) e → e ≡ values vs
        → HasNode ts site → expression_at ts site p ≡ row
        → ((us : List Value) → expr_is_early row us ≡ false)
        → WorkHasTarget {D = D} ts site (work.Expression p) (values vs) → AreThere w vs
        → (MayRest dispatched ts w s.context f → put (frame_term ts f))
        → put (row_node site p vs row)
    row-put f site p row vs e at done node is never target there puts =
        let x : Work D = work.Expression p in
        let same : f ≡ frame_at site x (values vs) = at ∙ ap (frame_at site x) done in
        let named = subst (AreThere w) (sym (append-nil (vs ++ []) ∙ append-nil vs)) there in
        subst put (ap (frame_term ts) same ∙ ap (row_node site p vs) is)
        (puts (subst (MayRest dispatched ts w s.context) (sym same)
        (rests-by s.context site x (values vs) node (labels-none site p) target
        (λ us. ap (λ y. expr_is_early y us) is ∙ never us) refl tt named)))

    place-same : (site : Option Site)
        → place_at ts {D = D} site (work.Expression phase.CallOn)
        ≡ place_at ts {D = D} site (work.Expression phase.Begun)
    place-same (Some u) = refl
    place-same None = refl

    pub call-put : (f : Frame D) (site : Option Site) (vs : List Value) (e : Evaluation)
        → f ≡ frame_at site (work.Expression phase.CallOn) e → e ≡ values vs → HasNode ts site
        → AreThere w vs → (MayRest dispatched ts w s.context f → put (frame_term ts f))
        → put (call_term ts site vs)
    call-put f site vs e at done node there puts =
        subst (λ p. put (Node (placed p (Expression ExprRow.CallOn)) (after vs Nil)))
        (place-same site)
        (row-put f site phase.CallOn ExprRow.CallOn vs e at done node (call-row ts site)
        (λ us. refl) tt there puts)

  abbrev pub awaited : Evaluation
  awaited = record { done = []; todo = operand.Value value.Undefined ∷ [] }

  puts-around : (base : Context) (fs : List (Frame D)) (f : Frame D) (t : Term (PageRow D))
      (s : Stack D) → Puts dispatched ts w base (fs ++ f ∷ []) t s
      → Puts dispatched ts w base fs
      (frames.around has_no_step (syntax ts).term (waits ts f) t) s
  puts-around base fs f t s p = record {
    sound = p.sound;
    same =
        p.same
        ∙ ap (λ ws. frames.reading has_no_step (syntax ts).term ws t) (pushed-reading D ts fs f)
        ∙ reading-push has_no_step (syntax ts).term (map (waits ts) fs) (waits ts f) t;
    base = p.base;
    there = p.there;
  }

  -- a form that waits for what stands above it
  module _ (s s1 s2 : Stack D) (x : Work D) (q : Form D) (e : Evaluation) (f : Frame D)
      (at : f ≡ frame_at None x e) (waits_so : e ≡ awaited) (is : form_of x ≡ Some q)
      (there : AreThere w (work_names dispatched x [])) where
    same_frame : f ≡ frame_at None x awaited
    same_frame = at ∙ ap (frame_at None x) waits_so

    pub form-waits : MayWait dispatched ts w s.context f
    form-waits =
        subst (MayWait dispatched ts w s.context) (sym same_frame) (record {
          rests = form-rests s.context awaited x q is there (tt, tt);
          awaits = omega arith;
          early = form-early x q [] is;
        })

    around-form : (t : Term (PageRow D))
        → frames.around has_no_step (syntax ts).term (waits ts f) t ≡ form q (Cons t Nil)
    around-form t =
        ap (λ y. frames.around has_no_step (syntax ts).term (waits ts y) t) same_frame
        ∙ form-node x q (Cons t Nil) is

    puts-above : (t : Term (PageRow D)) → s1.frames.items ≡ s.frames.items ++ f ∷ []
        → s1.base ≡ s.base → Puts dispatched ts w s1.base s1.frames.items t s2
        → Puts dispatched ts w s.base s.frames.items (form q (Cons t Nil)) s2
    puts-above t pushed base p =
        let here = subst (λ fs. Puts dispatched ts w s1.base fs t s2) pushed p in
        let down = puts-around s1.base s.frames.items f t s2 here in
        let based = subst (λ b. Puts dispatched ts w b s.frames.items
        (frames.around has_no_step (syntax ts).term (waits ts f) t) s2) base down in
        subst (λ y. Puts dispatched ts w s.base s.frames.items y s2) (around-form t) based

    -- what is put above it
    pub waiting-put : (r : Result (Unit {0}) NoMemory) (t : Term (PageRow D))
        → s1.frames.items ≡ s.frames.items ++ f ∷ [] → s1.base ≡ s.base
        → (contexts_of f ≡ None → MayWait dispatched ts w s.context f
        → Stands dispatched ts w s1.frames.items s1)
        → (Stands dispatched ts w s1.frames.items s1 → PutsSo r s1.base s1.frames.items t s2)
        → PutsSo r s.base s.frames.items (form q (Cons t Nil)) s2
    waiting-put r t pushed base stands puts =
        let none : contexts_of f ≡ None = ap contexts_of same_frame in
        on_ok r (puts-above t pushed base) (puts (stands none form-waits))
