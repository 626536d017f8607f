-- What a step of a statement gives is what its move makes of the frame.
use Rattle.std.proofs.Common.{◌≡◌, ℕ, Bool, true, false, List, [], ◌∷◌, Option, None, Some}
use Rattle.std.proofs.Common.{refl, ap, sym, ◌∙◌}
use Rattle.std.specs.Prelude.{unwrap_or}
use Rattle.std.specs.Option.{option_map}
use Rattle.js_tree.specs.Arena.{Arena, node_at}
use Rattle.js_tree.specs.TreeAt.{tree_at}
use Rattle.js_tree.specs.declared.node.Node.{Node}
use Rattle.js_tree.specs.declared.node.Node.TheVariants as node
use Rattle.js_tree.specs.declared.node.NodeId.{NodeId}
use Rattle.js_term.specs.Evaluation.{Evaluation}
use Rattle.js_term.specs.Operands.{term_of}
use Rattle.js_term.specs.Place.{Place}
use Rattle.js_term.specs.Place.Place.{At}
use Rattle.js_term.specs.Term.{Term, Terms, after, node as node_of, terms}
use Rattle.js_term.specs.Term.Terms.{Cons}
use Rattle.js_term.specs.declared.context.Context.{Context}
use Rattle.js_term.specs.declared.operands.Operand.{Operand}
use Rattle.js_term.specs.declared.operands.Operand.TheVariants as operand
use Rattle.js_stmt.specs.CodeRows.{at_phase, labels_around, operand_trees, progress_of, row_as}
use Rattle.js_stmt.specs.CodeRows.{with_names}
use Rattle.js_stmt.specs.Lent.{IsLent, kept_over}
use Rattle.js_stmt.specs.Made.{progress_term}
use Rattle.js_stmt.specs.Make.{labels_inside}
use Rattle.js_stmt.specs.NodeRows.{row_in}
use Rattle.js_stmt.specs.Rows.{StmtRow}
use Rattle.js_stmt.specs.Shapes.{IsNext, IsShaped, follows, values_coming}
use Rattle.js_stmt.specs.declared.kept.StmtKept.{StmtKept}
use Rattle.js_stmt.specs.declared.kept.StmtKept.TheVariants as kept
use Rattle.js_stmt.specs.declared.phase.StmtPhase.{StmtPhase}
use Rattle.js_stmt.specs.declared.phase.StmtPhase.TheVariants as phase
use Rattle.js_stmt.specs.declared.row.StmtRow.{StmtRow as CodeRow}
use Rattle.js_stmt.specs.declared.stmt_move.StmtMove.{StmtMove}
use Rattle.js_stmt.specs.declared.stmt_move.StmtMove.TheVariants as move
use Rattle.js_stmt.proofs.Later.{finally_begins, goes_on, names_begin}
use Rattle.js_rows.specs.Calls.{for_statements}
use Rattle.js_rows.specs.Forms.{Form}
use Rattle.js_rows.specs.Hosted.{PageRow}
use Rattle.js_rows.specs.Row.{placed}
use Rattle.js_rows.specs.Row.Row.{Statement}
use Rattle.js_rows.specs.Syntax.{has_no_step, row_of, statement_node, term_at}
use Rattle.js_frames.specs.Arenas.{Arenas, arena_of}
use Rattle.js_frames.specs.Reading.{syntax}
use Rattle.js_frames.specs.Rows.{no_context, place_at, statement_unit, unit_at}
use Rattle.js_frames.specs.Soundness.{HasNode}
use Rattle.js_frames.specs.declared.frame.Contexts.{Contexts}
use Rattle.js_frames.specs.declared.frame.Frame.{Frame}
use Rattle.js_frames.specs.declared.frame.Site.{Site}
use Rattle.js_frames.specs.declared.frame.StmtState.{StmtState}
use Rattle.js_frames.specs.declared.frame.Work.{Work}
use Rattle.js_frames.specs.declared.frame.Work.TheVariants as work
use Rattle.js_frames.specs.inner.Advances.{is_labelled}
use Rattle.js_frames.proofs.Leads.{unlabelled}
use Rattle.js_moves.specs.inner.StmtPlaces.{in_phase, keeping, move_term}
use Rattle.js_moves.specs.inner.StmtPlaces.{phase_contexts, rest_term, row_at}
use Rattle.js_moves.specs.inner.StmtPlaces.{text_at}
use Rattle.js_moves.proofs.StatementRests.{is_begun}

-- the moves after which a statement goes on
abbrev pub is_on : StmtMove → Bool
is_on (move.GoesOn p) = true
is_on (move.Names v ks) = true
is_on (move.Finally o) = true
is_on m = false

abbrev pub is_body : StmtPhase → Bool
is_body phase.Body = true
is_body p = false

no-label : (o : Option Node) (p : StmtPhase) → is_begun p ≡ false → is_labelled o p ≡ false
no-label None p later = refl
no-label (Some (node.Labelled l s)) phase.Begun later = cc
no-label (Some (node.Labelled l s)) p later = refl
no-label (Some n) p later = refl

-- the labels around the operands of a later phase
later-labels : (a : Arena) (c : Context) (id outermost : NodeId) (p : StmtPhase) (k : StmtKept)
    → is_begun p ≡ false → labels_inside (row_in a c id outermost p k) ≡ []
later-labels a c id outermost p k later =
    unlabelled a c (labels_around a (record { outermost = outermost; statement = id }))
    (node_at a id) p k (no-label (node_at a id) p later)

module _ (D : Type 0) (ts : Arenas) (s : Site) where
  abbrev arena : Arena
  arena = arena_of ts s.text

  abbrev row : ℕ → StmtRow → PageRow D
  row u r = placed (At s.text u) (Statement r)

  cons : {R : Type 0} (t t' : Term R) (us us' : Terms R) → t ≡ t' → us ≡ us'
      → Cons t us ≡ Cons t' us'
  cons t t' us us' e es = ap (λ x. Cons x us) e ∙ ap (Cons t') es

  -- operands that are nodes, where no labels stand around them
  operands-same : (c : Context) (u v : ℕ) (r : StmtRow) (xs : List Operand)
      → labels_inside r ≡ [] → values_coming xs ≡ []
      → terms (term_at {F = Form D} (At s.text v)) (operand_trees arena c xs)
      ≡ terms ((syntax ts).term (row u r)) xs
  operands-same c u v r [] none nodes = refl
  operands-same c u v r (operand.Value x ∷ xs) none nodes = cc
  operands-same c u v r (operand.Node id ∷ xs) none nodes =
      cons _ _ _ _
      (ap (λ ls. term_of has_no_step (row_of {F = Form D}) s.text ls (tree_at arena id))
      (sym none))
      (operands-same c u v r xs none nodes)

  node-same : (c : Context) (u v : ℕ) (q r : StmtRow) (e : Evaluation) → q ≡ r → v ≡ u
      → labels_inside r ≡ [] → values_coming e.todo ≡ []
      → statement_node {F = Form D} (At s.text v) q
      (after e.done (terms (term_at (At s.text v)) (operand_trees arena c e.todo)))
      ≡ rest_term ts (row u r) e
  node-same c u v q r e same at none nodes =
      ap (λ x. node_of has_no_step (row v x)
      (after e.done (terms (term_at (At s.text v)) (operand_trees arena c e.todo)))) same
      ∙ (ap (λ x. node_of has_no_step (row x r)
      (after e.done (terms (term_at (At s.text v)) (operand_trees arena c e.todo)))) at
      ∙ ap (λ x. node_of has_no_step (row u r) (after e.done x))
      (operands-same c u v r e.todo none nodes))

  -- a statement that is no body stands at its own first unit
  unit-of : (p : StmtPhase) → is_body p ≡ false → statement_unit ts s p ≡ unit_at ts (Some s)
  unit-of phase.Body is = cc
  unit-of p is = refl

  followed : (r : CodeRow) (p : StmtPhase) → follows r p ≡ true
      → (is_begun p ≡ false) × (is_body p ≡ false)
  followed r phase.Begun is = cc
  followed r phase.Body is = cc
  followed r p is = (refl, refl)

  -- cx: any context; c: that of the frame. f: the frame over the operands that its step has left.
  module _ (cx c : Context) (f : Frame D) (state : StmtState) (k : StmtKept) (r : CodeRow)
      (site : f.site ≡ Some s) (is : f.work ≡ work.Statement state k) (there : HasNode ts (Some s))
      (lent : IsLent arena s.node state.outermost k r) where
    abbrev here : Work D
    here = work.Statement state k

    abbrev place : Place
    place = place_at ts (Some s) here

    abbrev inner : Option Contexts → Context
    inner b = unwrap_or (option_map (λ x. x.inner) b) no_context

    abbrev later_row : Option Contexts → StmtPhase → StmtKept → StmtRow
    later_row b p l = row_in arena (inner b) s.node state.outermost p l

    -- the term of the frame in another phase
    moved-same : (b : Option Contexts) (p : StmtPhase) (l : StmtKept) (v : Work D)
        → v ≡ work.Statement (record state { phase = p }) l → is_body p ≡ false
        → rest_term ts (row (unit_at ts (Some s)) (later_row b p l)) f.operands
        ≡ rest_term ts (row_at ts b f.site v) f.operands
    moved-same b p l v same alone =
        ap (λ x. rest_term ts (row x (later_row b p l)) f.operands) (sym (unit-of p alone))
        ∙ (ap (λ x. rest_term ts (row_at ts b (Some s) x) f.operands) (sym same)
        ∙ ap (λ x. rest_term ts (row_at ts b x v) f.operands) (sym site))

    goes-same : (b : Option Contexts) (p : StmtPhase) (l : StmtKept) (v : Work D) (q : StmtRow)
        → v ≡ work.Statement (record state { phase = p }) l → is_begun p ≡ false
        → is_body p ≡ false → is_body state.phase ≡ false → q ≡ later_row b p l
        → values_coming f.operands.todo ≡ []
        → statement_node {F = Form D} place q (after f.operands.done
        (terms (term_at place) (operand_trees arena cx f.operands.todo)))
        ≡ rest_term ts (row_at ts b f.site v) f.operands
    goes-same b p l v q same later alone before next nodes =
        node-same cx (unit_at ts (Some s)) (statement_unit ts s state.phase) q (later_row b p l)
        f.operands next (unit-of state.phase before)
        (later-labels arena (inner b) s.node state.outermost p l later) nodes
        ∙ moved-same b p l v same alone

    pub progress-moves : (m : StmtMove) → IsNext r m → IsShaped m f.operands.todo
        → (is_on m ≡ true → is_body state.phase ≡ false)
        → progress_term (for_statements {F = Form D}) place
        (progress_of arena cx r f.operands m)
        ≡ move_term ts c f m
    unfolding term_of
    progress-moves move.Finished next shape before = refl
    progress-moves (move.Value v) next shape before = refl
    progress-moves (move.Abrupt q) next shape before = refl
    progress-moves (move.Becomes None) next shape before = refl
    progress-moves (move.Becomes (Some id)) next shape before =
        ap (λ x. term_at {F = Form D} (At (text_at x) 0) (tree_at (arena_of ts (text_at x)) id))
        (sym site)
    progress-moves (move.GoesOn p) next shape before =
        let on = followed r p next in
        goes-same (phase_contexts p c) p k (in_phase p f.work) (row_as arena cx (at_phase r p))
        (ap (in_phase p) is) on.0 on.1 (before refl)
        (goes_on arena cx (inner (phase_contexts p c)) s.node state.outermost r p k lent next)
        shape
    progress-moves (move.Names v ks) next shape before =
        goes-same None (phase.Names 0) (kept.Names v ks)
        (keeping (phase.Names 0) (kept.Names v ks) f.work) (with_names arena cx r v ks)
        (ap (keeping (phase.Names 0) (kept.Names v ks)) is) refl refl (before refl)
        (names_begin arena cx no_context s.node state.outermost r k v ks lent next) shape
    progress-moves (move.Finally o) next shape before =
        goes-same None phase.Finally (kept_over o) (keeping phase.Finally (kept_over o) f.work)
        (StmtRow.Finally o) (ap (keeping phase.Finally (kept_over o)) is) refl refl (before refl)
        (finally_begins arena no_context s.node state.outermost o there) shape
