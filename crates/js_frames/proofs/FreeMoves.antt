-- The free moves of a stack of frames, each those of the stack of rows that it stands for.
use Rattle.std.proofs.Common.{◌≡◌, ◌<◌, true, List, [], ◌∷◌, ◌++◌, Some, map}
use Rattle.std.proofs.Common.{drop, slice_get, refl, ap, sym, ◌∙◌, arith}
use Rattle.js_value.specs.declared.value.Value.{Value}
use Rattle.js_value.specs.declared.value.Value.TheVariants as value
use Rattle.js_term.specs.Frames as frames
use Rattle.js_term.specs.Frames.Focus.{Alone, Resting}
use Rattle.js_term.specs.Frames.Frame.{Waiting}
use Rattle.js_term.specs.Moves as moves
use Rattle.js_term.specs.Moves.{FreeMove, IsAllowed, IsSyntax, after_move, before_move, stack_term}
use Rattle.js_term.specs.Moves.{stack_weight}
use Rattle.js_term.specs.Moves.FreeMove.{Begin, Finish, Take}
use Rattle.js_term.specs.Place.Place.{At}
use Rattle.js_term.specs.Term.Term.{Val}
use Rattle.js_term.specs.declared.operands.Operand.{Operand}
use Rattle.js_term.specs.declared.operands.Operand.TheVariants as operand
use Rattle.js_term.proofs.Moves.{move-lighter, move-same}
use Rattle.js_tree.specs.declared.node.NodeId.{NodeId}
use Rattle.js_stmt.specs.CodeRows.{labels_around}
use Rattle.js_rows.specs.Hosted.{PageRow}
use Rattle.js_rows.specs.Row.{text_of}
use Rattle.js_rows.specs.Syntax.{has_no_step, labels_of, row_of}
use Rattle.js_term.specs.ArenaSyntax.{operand_focus}
use Rattle.js_frames.specs.Arenas.{AreOrdered, Arenas, arena_of}
use Rattle.js_frames.specs.Begun.{begun_focus, begun_frames}
use Rattle.js_frames.specs.Reading.{reading, stack_of, syntax, waits}
use Rattle.js_frames.specs.Rows.{frame_row}
use Rattle.js_frames.specs.Soundness.{IsPlaced}
use Rattle.js_frames.specs.declared.frame.Focus.TheVariants as focus
use Rattle.js_frames.specs.declared.frame.Focus.{Focus}
use Rattle.js_frames.specs.declared.frame.Frame.{Frame}
use Rattle.js_frames.specs.declared.frame.Site.{Site}
use Rattle.js_frames.specs.declared.stack.Stack.{Stack}
use Rattle.js_frames.specs.inner.Advances.{outermost_of, site_of, with_value}
use Rattle.js_frames.proofs.Begun.{begun-reading}
use Rattle.js_frames.proofs.Labels.{labels-own}
use Rattle.js_frames.proofs.Leads.{operand-labels}
use Rattle.js_frames.proofs.NodeSyntax.{nodes-are-syntax}
use Rattle.js_frames.proofs.TopReadings.{pushed-reading, resting-reading}

module _ (D : Type 0) (ts : Arenas) (ordered : AreOrdered ts) where
  abbrev Rows : Type 0
  Rows = moves.Stack (PageRow D) Operand

  pub is-syntax : IsSyntax (syntax {D = D} ts) has_no_step
  is-syntax =
      nodes-are-syntax has_no_step row_of (λ r. text_of r.place) labels_of (arena_of ts)
      (λ x u ls p us. refl)
      (λ x u ls n. labels-own D (arena_of ts x) (At x u) n ls) ordered

  -- the term is the same, and fewer moves are left
  pub record Moved (x y : Rows) : Type 0 where
    pub same : stack_term (syntax ts) has_no_step y ≡ stack_term (syntax ts) has_no_step x
    pub lighter : stack_weight (syntax ts) y < stack_weight (syntax ts) x

  pub moved-on : (x y z : Rows) → Moved x y → Moved y z → Moved x z
  moved-on x y z a b = record {
    same = b.same ∙ a.same;
    lighter = omega
        (arith, a.lighter, b.lighter);
  }

  pub moved-by : (m : FreeMove (PageRow D) Operand) → IsAllowed (syntax ts) has_no_step m →
      (x y : Rows)
      → x ≡ before_move (syntax ts) m → y ≡ after_move (syntax ts) m → Moved x y
  moved-by m ok x y a b = record {
    same =
        ap (stack_term (syntax ts) has_no_step) b
        ∙ (move-same (syntax ts) has_no_step is-syntax m ok ∙ sym (ap (stack_term
        (syntax ts) has_no_step) a));
    lighter =
        omega (
          arith,
          move-lighter (syntax ts) has_no_step is-syntax m,
          ap (stack_weight
              (syntax ts)) a,
          ap (stack_weight (syntax ts)) b,
        );
  }

  abbrev stack : List (frames.Frame (PageRow D) Operand) → frames.Focus (PageRow D) Operand
      → Rows
  stack ws t = record { frames = ws; focus = t }

  abbrev wait : List (Frame D) → List (frames.Frame (PageRow D) Operand)
  wait fs = map (waits ts) fs

  abbrev rest : Frame D → List Operand → frames.Focus (PageRow D) Operand
  rest f todo = Resting (frame_row ts f) f.operands.done todo

  reads : (s : Stack D) (t : Focus) (gs : List (Frame D)) → s.focus ≡ t
      → s.frames.items ≡ gs → stack_of ts s ≡ reading ts t gs
  reads s t gs is e = ap (λ u. reading ts u s.frames.items) is ∙ ap (reading ts t) e

  module _ (s s' : Stack D) (fs : List (Frame D)) (f : Frame D) where
    -- the next operand is a value
    pub value-moves : (v : Value) (todo : List Operand) → s.focus ≡ focus.Resting
        → s.frames.items ≡ fs ++ f ∷ []
        → s'.focus ≡ focus.Resting → s'.frames.items ≡ fs ++ with_value v f ∷ []
        → f.operands.todo ≡ operand.Value v ∷ todo → Moved (stack_of ts s) (stack_of ts s')
    value-moves v todo a b a' b' e =
        let r : PageRow D = frame_row ts f in
        let done : List Value = f.operands.done in
        let from : stack_of ts s ≡ stack (wait fs) (rest f (operand.Value v ∷ todo)) =
        reads s focus.Resting (fs ++ f ∷ []) a b ∙ (resting-reading D ts fs f ∙ ap
        (λ xs. stack (wait fs) (rest f xs)) e) in
        let to : stack_of ts s' ≡ stack (wait fs) (Resting r (done ++ v ∷ []) todo) =
        reads s' focus.Resting (fs ++ with_value v f ∷ []) a' b'
        ∙ (resting-reading D ts fs (with_value v f) ∙ ap (λ xs. stack (wait fs) (Resting r
        (done ++ v ∷ []) (drop 1 xs))) e) in
        let between : Rows = stack (wait fs ++ Waiting r done todo ∷ []) (Alone (Val v)) in
        moved-on (stack_of ts s) between (stack_of ts s')
        (moved-by (Begin (wait fs) r done (operand.Value v) todo) tt
        (stack_of ts s) between from refl)
        (moved-by (Take (wait fs) r done v todo) tt between (stack_of ts s') refl to)

    -- the value of the operand that it waits for is taken
    pub taken-moves : (v : Value) → s.focus ≡ focus.Value v
        → s.frames.items ≡ fs ++ f ∷ []
        → s'.focus ≡ focus.Resting → s'.frames.items ≡ fs ++ with_value v f ∷ [] → Moved
        (stack_of ts s) (stack_of ts s')
    taken-moves v a b a' b' =
        moved-by (Take (wait fs) (frame_row ts f) f.operands.done v (drop 1 f.operands.todo)) tt
        (stack_of ts s) (stack_of ts s')
        (reads s (focus.Value v) (fs ++ f ∷ []) a b ∙ ap (λ ws. stack ws (Alone (Val v)))
        (pushed-reading D ts fs f))
        (reads s' focus.Resting (fs ++ with_value v f ∷ []) a' b' ∙ resting-reading D ts fs
        (with_value v f))

    -- it is finished without a step
    pub finish-moves : s.focus ≡ focus.Resting → s.frames.items ≡ fs ++ f ∷ []
        → s'.focus ≡ focus.Value value.Undefined
        → s'.frames.items ≡ fs → f.operands.todo ≡ [] → has_no_step
        (frame_row ts f) ≡ true → Moved (stack_of ts s) (stack_of ts s')
    finish-moves a b a' b' e free =
        moved-by (Finish (wait fs) (frame_row ts f) f.operands.done) free (stack_of ts s)
        (stack_of ts s')
        (reads s focus.Resting (fs ++ f ∷ []) a b ∙ (resting-reading D ts fs f ∙ ap
        (λ xs. stack (wait fs) (rest f xs)) e))
        (reads s' (focus.Value value.Undefined) fs a' b')

    -- the next operand begins
    pub begin-moves : (id : NodeId) (todo : List Operand) → IsPlaced ts f
        → s.focus ≡ focus.Resting → s.frames.items ≡ fs ++ f ∷ []
        → s'.focus ≡ begun_focus ts (site_of ts f id)
        → s'.frames.items ≡ (fs ++ f ∷ []) ++ begun_frames ts (site_of ts f id)
        (outermost_of ts f id)
        → f.operands.todo ≡ operand.Node id ∷ todo → Moved (stack_of ts s) (stack_of ts s')
    begin-moves id todo placed a b a' b' e =
        let at : Site = site_of ts f id in
        let o : NodeId = outermost_of ts f id in
        let r : PageRow D = frame_row ts f in
        let done : List Value = f.operands.done in
        let gs : List (Frame D) = fs ++ f ∷ [] in
        let first : slice_get f.operands.todo 0 ≡ Some (operand.Node id) = ap
        (λ xs. slice_get xs 0) e in
        let waited : wait gs ≡ wait fs ++ Waiting r done todo ∷ [] =
        pushed-reading D ts fs f ∙ ap (λ xs. wait fs ++ Waiting r done (drop 1 xs) ∷ []) e in
        moved-by (Begin (wait fs) r done (operand.Node id) todo) tt (stack_of ts s) (stack_of ts s')
        (reads s focus.Resting gs a b ∙ (resting-reading D ts fs f ∙ ap (λ xs. stack (wait fs)
        (rest f xs)) e))
        (reads s' (begun_focus ts at) (gs ++ begun_frames ts at o) a' b'
        ∙ (begun-reading D ts at o (ordered at.text) gs
        ∙ (ap (λ ws. stack ws (operand_focus has_no_step row_of at.text
        (labels_around (arena_of ts at.text) (record { outermost = o; statement = id }))
        (arena_of ts at.text) (operand.Node id))) waited
        ∙ ap (λ ls. stack (wait fs ++ Waiting r done todo ∷ [])
        (operand_focus has_no_step row_of at.text ls (arena_of ts at.text) (operand.Node id)))
        (operand-labels D ts ordered f id placed first))))
